use Rattle.std.proofs.Common.{rules}
use Rattle.pattern.specs.Parts.{place_of}
use Rattle.pattern.proofs.Fields as law
use Rattle.pattern.proofs.parts.child.Goals as goal

pub overflow_sub-result : goal.overflow_sub-result
overflow_sub-result c = law.one_levels _ _ _ _ _ _ _ c.in-Some-One.is c.in-Some-One.field-0-is c.field.ensures

pub returns-in-Some-One : goal.returns-in-Some-One
unfolding place_of
returns-in-Some-One c = law.placed _ _ _ _ _ _ c.field.ensures (search rules)

pub returns-in_default : goal.returns-in_default
unfolding place_of
returns-in_default c = law.placed _ _ _ _ _ _ c.field.ensures (search rules)

pub returns-in_default-2 : goal.returns-in_default-2
unfolding place_of
returns-in_default-2 c = law.placed _ _ _ _ _ _ c.field.ensures (search rules)
