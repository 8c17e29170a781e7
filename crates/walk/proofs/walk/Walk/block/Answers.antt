use Rattle.walk.proofs.SmallSteps as steps
use mathlib.Core.Path.{refl}
use Rattle.walk.proofs.walk.Walk.block.Goals as goal

pub returns : goal.returns
returns c = ((λ l w. steps.by_block _ _ _ _ _ _ (c.put2.ensures l w) (c.new_mark.ensures l w) (c.put_wide.ensures l w)), refl)
