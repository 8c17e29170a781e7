use mathlib.Core.Path.{refl}
use Rattle.walk.proofs.Running as law
use Rattle.walk.proofs.walk.Walk.wide.Goals as goal

pub returns : goal.returns
returns c = (((λ l w. law.by_wide _ _ _ _ (c.put_wide.ensures l w))), refl)
