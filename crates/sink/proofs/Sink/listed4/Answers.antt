use Rattle.sink.proofs.WaysOut as law
use mathlib.Core.List.{◌∷◌, []}
use Rattle.sink.proofs.Sink.listed4.Goals as goal

pub returns : goal.returns
returns c = λ t w. law.listed_more _ _ _ (_ ∷ _ ∷ []) (_ ∷ _ ∷ []) (c.listed2.ensures t w) (c.listed2-2.ensures t w)
