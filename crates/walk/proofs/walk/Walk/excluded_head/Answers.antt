use Rattle.walk.proofs.SmallSteps as steps
use mathlib.Core.Path.{refl}
use Rattle.walk.proofs.walk.Walk.excluded_head.Goals as goal

pub returns : goal.returns
returns c = ((λ o l. steps.by_excluded_head _ _ _ _ _ _ _ _ (c.declarator.ensures o l) (c.excluded_temporary.ensures o l) (c.excluded2.ensures o l) (c.excluded_wide.ensures o l)), refl)
