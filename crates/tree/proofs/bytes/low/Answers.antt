use mathlib.Core.Path.{refl}
use Rattle.tree.specs.Note.{low}
use Rattle.tree.proofs.bytes.low.Goals as goal

pub returns : goal.returns
unfolding low
returns c = refl
