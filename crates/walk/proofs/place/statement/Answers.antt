use Rattle.direct.specs.Emit.{unused, marking}
use mathlib.Core.Path.{refl}
use Rattle.walk.proofs.place.statement.Goals as goal

pub returns : goal.returns
unfolding unused marking
returns c = (refl, refl)
