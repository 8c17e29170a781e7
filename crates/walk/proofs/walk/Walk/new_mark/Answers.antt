use Rattle.walk.proofs.Running as law
use mathlib.Core.Path.{refl}
use Rattle.walk.proofs.walk.Walk.new_mark.Goals as goal

pub returns : goal.returns
returns c = ((λ l w. law.by_event_lem _ _ _ _ (c.new_mark.ensures l w)), refl)
