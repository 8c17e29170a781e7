use Rattle.walk.proofs.SmallSteps as steps
use mathlib.Core.Path.{refl}
use Rattle.walk.proofs.walk.Walk.string.Goals as goal

pub returns : goal.returns
returns c = ((λ l w. steps.by_string _ _ _ _ _ _ _ _ _ _ c.step-end.ensures (c.put4.ensures l w) (c.put.ensures l w) (c.put_wide.ensures l w) (c.copy.ensures l w)), refl)
