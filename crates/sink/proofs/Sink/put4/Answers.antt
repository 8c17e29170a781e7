use Rattle.sink.proofs.WaysOut as law
use mathlib.Core.List.{◌∷◌, []}
use Rattle.sink.proofs.Sink.put4.Goals as goal

pub returns : goal.returns
returns c = λ l w. law.put_more _ _ _ (_ ∷ _ ∷ []) (_ ∷ _ ∷ []) (c.put2.ensures l w) (c.put2-2.ensures l w)
