use Rattle.walk.proofs.SmallSteps as steps
use mathlib.Core.Path.{refl}
use Rattle.walk.proofs.walk.Walk.excluded_string.Goals as goal

pub returns : goal.returns
returns c = ((λ o l. steps.by_excluded_string _ _ _ _ _ _ _ _ _ _ c.step-end.ensures (c.excluded4.ensures o l) (c.excluded.ensures o l) (c.excluded_wide.ensures o l) (c.excluded_copy.ensures o l)), refl)
