use Rattle.walk.proofs.SmallSteps as steps
use mathlib.Core.Path.{refl}
use Rattle.walk.proofs.walk.Walk.mapped.Goals as goal

pub returns : goal.returns
returns c = ((λ l w. steps.by_mapped _ _ _ _ _ _ (c.put4.ensures l w) (c.put.ensures l w) (c.put2.ensures l w) (c.helper.ensures l w)), refl)
