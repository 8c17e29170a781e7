use Rattle.walk.proofs.Running as law
use mathlib.Core.Path.{refl}
use Rattle.walk.proofs.walk.Walk.make.Goals as goal

pub returns : goal.returns
returns c = ((λ o l. law.by_event_lem _ _ _ _ (c.make.ensures o l _)), refl)
