use mathlib.Core.List.{◌∷◌, []}
use mathlib.Core.Path.{refl}
use Rattle.walk.proofs.Running as law
use Rattle.walk.proofs.walk.Walk.put2.Goals as goal

pub returns : goal.returns
returns c = (((λ l w. law.by_puts _ _ _ (_ ∷ _ ∷ []) (c.put2.ensures l w))), refl)
