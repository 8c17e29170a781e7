use mathlib.Core.Path.{refl}
use Rattle.tree.specs.Note.{high}
use Rattle.tree.proofs.bytes.high.Goals as goal

pub returns : goal.returns
unfolding high
returns c = refl
