use Rattle.std.proofs.Common.{rules}
use Rattle.pattern.specs.Parts.{field_values}
use Rattle.pattern.proofs.KeyCases as law
use Rattle.pattern.proofs.keys.spelled_in.Goals as goal

pub slice_bounds-spelled-end : goal.slice_bounds-spelled-end
slice_bounds-spelled-end c = law.text_within _ _ _ _ c.step-to.ensures

pub returns-then-from-to : goal.returns-then-from-to
returns-then-from-to c = law.spelled_text c.args.tree.now c.in-Some-Text.from c.in-Some-Text.len c.step-to.result (field_values c.args.p) _ (search rules) c.step-to.ensures c.if-from-to.true c.spelled.ensures

pub returns-else-from-to : goal.returns-else-from-to
returns-else-from-to c = law.spelled_past c.args.tree.now c.in-Some-Text.from c.in-Some-Text.len _ (field_values c.args.p) (search rules) c.step-to.ensures c.if-from-to.false

pub returns-in_default : goal.returns-in_default
returns-in_default c = law.spelled_none c.args.tree.now (field_values c.args.p) (search rules)

pub returns-in_default-2 : goal.returns-in_default-2
returns-in_default-2 c = law.spelled_none c.args.tree.now (field_values c.args.p) (search rules)
