use mathlib.Core.Path.{refl}
use Rattle.direct.specs.Emit.{marking}
use Rattle.walk.proofs.place.marked.Goals as goal

pub returns : goal.returns
unfolding marking
returns c = (refl, refl)
