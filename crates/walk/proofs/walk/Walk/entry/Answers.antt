use Rattle.walk.proofs.Running as law
use mathlib.Core.Path.{refl}
use Rattle.walk.proofs.walk.Walk.entry.Goals as goal

pub returns : goal.returns
returns c = ((λ o w. law.by_event_lem _ _ _ _ (c.entry.ensures o w)), refl)
