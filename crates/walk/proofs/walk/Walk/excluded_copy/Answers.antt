use Rattle.walk.proofs.SmallSteps as steps
use mathlib.Core.Path.{refl}
use Rattle.walk.proofs.walk.Walk.excluded_copy.Goals as goal

pub returns : goal.returns
returns c = ((λ o l. steps.by_excludes _ _ _ _ (c.excluded_copy.ensures o l)), refl)
