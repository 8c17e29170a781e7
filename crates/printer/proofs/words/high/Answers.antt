-- each number is what the layout works out to
use mathlib.Core.Path.{sym, ap}
use borrow.Author.Rules.{rules}
use Rattle.printer.specs.Layout.{words, word}
use Rattle.printer.specs.Rows.{packed, high_of}
use Rattle.printer.proofs.LayoutNumbers.{no_high}
use Rattle.printer.proofs.words.high.Goals as goal

pub returns-in-12 : goal.returns-in-12
unfolding packed high_of word words
returns-in-12 c = ap high_of (sym c.in-12.is)

pub returns-in-13 : goal.returns-in-13
unfolding packed high_of word words
returns-in-13 c = ap high_of (sym c.in-13.is)

pub returns-in_default : goal.returns-in_default
unfolding packed high_of word words
returns-in_default c = no_high c.args.id (search rules)
