use Rattle.sink.proofs.WaysOut as law
use mathlib.Core.List.{◌∷◌, []}
use Rattle.sink.proofs.Sink.excluded4.Goals as goal

pub returns : goal.returns
returns c = λ t l. law.excluded_more _ _ _ (_ ∷ _ ∷ []) (_ ∷ _ ∷ []) (c.excluded2.ensures t l) (c.excluded2-2.ensures t l)
