use mathlib.Core.Path.{refl}
use Rattle.walk.proofs.Running as law
use Rattle.walk.proofs.walk.Walk.temporary.Goals as goal

pub returns : goal.returns
returns c = ((law.by_event_lem _ _ _ _ c.temporary.ensures), refl)
