use mathlib.Core.Path.{refl}
use Rattle.direct.specs.Emit.{inner}
use Rattle.walk.proofs.place.told_inside.Goals as goal

pub returns : goal.returns
unfolding inner
returns c = (refl, refl)
