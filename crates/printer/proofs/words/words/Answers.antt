use mathlib.Core.Path.{refl}
use Rattle.printer.specs.Rows.{word_numbers}
use Rattle.printer.proofs.words.words.Goals as goal

pub returns : goal.returns
unfolding word_numbers
returns c = refl
