use mathlib.Core.Path.{refl}
use Rattle.walk.proofs.Running as law
use Rattle.walk.proofs.walk.Walk.call.Goals as goal

pub returns : goal.returns
returns c = (((λ l w. law.by_call _ _ _ _ _ _ _ (c.put2.ensures l w) (c.helper.ensures l w) (c.put_wide.ensures l w))), refl)
