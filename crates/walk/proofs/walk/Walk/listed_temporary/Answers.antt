use Rattle.walk.proofs.Running as law
use mathlib.Core.Path.{refl}
use Rattle.walk.proofs.walk.Walk.listed_temporary.Goals as goal

pub returns : goal.returns
returns c = ((λ o. law.by_event_lem _ _ _ _ (c.listed_temporary.ensures o)), refl)
