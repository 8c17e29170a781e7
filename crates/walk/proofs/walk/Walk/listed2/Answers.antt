use mathlib.Core.List.{◌∷◌, []}
use Rattle.walk.proofs.SmallSteps as steps
use mathlib.Core.Path.{refl}
use Rattle.walk.proofs.walk.Walk.listed2.Goals as goal

pub returns : goal.returns
returns c = ((λ o w. steps.by_lists _ _ _ (_ ∷ _ ∷ []) (c.listed2.ensures o w)), refl)
