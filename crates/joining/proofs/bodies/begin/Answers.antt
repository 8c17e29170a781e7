use Prim.Native.Nat.{◌+◌}
use Rattle.joining.specs.Tables.{stored}
use mathlib.Core.Path.{ap, ◌∙◌}
use Rattle.joining.proofs.Filing as law
use Rattle.joining.proofs.bodies.begin.Goals as goal

pub returns-then-list-gt1 : goal.returns-then-list-gt1
returns-then-list-gt1 c = (c.put.ensures ∙ ap (stored c.args.around.now (c.args.deep + 1)) (law.flag_number _ _ _ c.from.ensures c.is_container.ensures), law.begun_item c.args.around.now c.args.deep c.args.at _ c.at-list.ensures.0 c.if-list-gt1.true)

pub returns-else-list-gt1 : goal.returns-else-list-gt1
returns-else-list-gt1 c = (c.put.ensures ∙ ap (stored c.args.around.now (c.args.deep + 1)) (law.flag_number _ _ _ c.from.ensures c.is_container.ensures), law.begun_else c.args.around.now c.args.deep c.args.at _ c.at-list.ensures.0 c.if-list-gt1.false)
