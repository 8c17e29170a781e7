use Rattle.std.proofs.Common.{rules}
use Rattle.pattern.specs.Parts.{run_of}
use Rattle.pattern.proofs.Fields as law
use Rattle.pattern.proofs.parts.list.Goals as goal

pub returns-in-Some-Many : goal.returns-in-Some-Many
unfolding run_of
returns-in-Some-Many c = law.run _ _ _ _ _ _ c.field.ensures (search rules)

pub returns-in_default : goal.returns-in_default
unfolding run_of
returns-in_default c = law.run _ _ _ _ _ _ c.field.ensures (search rules)

pub returns-in_default-2 : goal.returns-in_default-2
unfolding run_of
returns-in_default-2 c = law.run _ _ _ _ _ _ c.field.ensures (search rules)
