use mathlib.Core.Path.{refl}
use Rattle.printer.specs.Rows.{slot_numbers}
use Rattle.printer.proofs.layout.slots.Goals as goal

pub returns : goal.returns
unfolding slot_numbers
returns c = refl
