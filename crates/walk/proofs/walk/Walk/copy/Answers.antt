use mathlib.Core.Path.{refl}
use Rattle.walk.proofs.Running as law
use Rattle.walk.proofs.walk.Walk.copy.Goals as goal

pub returns : goal.returns
returns c = (((λ l w. law.by_puts _ _ _ _ (c.copy.ensures l w))), refl)
