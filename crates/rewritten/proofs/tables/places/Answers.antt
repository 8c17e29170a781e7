use mathlib.Core.Path.{refl}
use Rattle.rewritten.specs.Numbers.{place_numbers}
use Rattle.rewritten.proofs.tables.places.Goals as goal

pub returns : goal.returns
unfolding place_numbers
returns c = refl
