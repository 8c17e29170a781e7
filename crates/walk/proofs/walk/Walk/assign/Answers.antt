use Rattle.walk.proofs.SmallSteps as steps
use mathlib.Core.Path.{refl}
use Rattle.walk.proofs.walk.Walk.assign.Goals as goal

pub returns : goal.returns
returns c = ((λ l w. steps.by_assign _ _ _ _ _ (c.put2.ensures l w) (c.put.ensures l w)), refl)
