use Rattle.direct.specs.Emit.{scoped}
use mathlib.Core.Path.{refl}
use Rattle.walk.proofs.place.scoped.Goals as goal

pub returns : goal.returns
unfolding scoped
returns c = (refl, refl)
