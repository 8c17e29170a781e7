use mathlib.Core.Path.{refl}
use Rattle.rewritten.specs.Numbers.{map_numbers}
use Rattle.rewritten.proofs.tables.maps.Goals as goal

pub returns : goal.returns
unfolding map_numbers
returns c = refl
