use mathlib.Core.Path.{refl}
use Rattle.printer.specs.Rows.{sort_numbers}
use Rattle.printer.proofs.layout.sorts.Goals as goal

pub returns : goal.returns
unfolding sort_numbers
returns c = refl
