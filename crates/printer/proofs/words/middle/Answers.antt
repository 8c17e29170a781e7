-- each number is what the layout works out to
use mathlib.Core.Path.{sym, ap}
use borrow.Author.Rules.{rules}
use Rattle.printer.specs.Layout.{words, word}
use Rattle.printer.specs.Rows.{packed, middle_of}
use Rattle.printer.proofs.LayoutNumbers.{no_middle}
use Rattle.printer.proofs.words.middle.Goals as goal

pub returns-in-5 : goal.returns-in-5
unfolding packed middle_of word words
returns-in-5 c = ap middle_of (sym c.in-5.is)

pub returns-in-7 : goal.returns-in-7
unfolding packed middle_of word words
returns-in-7 c = ap middle_of (sym c.in-7.is)

pub returns-in-10 : goal.returns-in-10
unfolding packed middle_of word words
returns-in-10 c = ap middle_of (sym c.in-10.is)

pub returns-in-12 : goal.returns-in-12
unfolding packed middle_of word words
returns-in-12 c = ap middle_of (sym c.in-12.is)

pub returns-in-13 : goal.returns-in-13
unfolding packed middle_of word words
returns-in-13 c = ap middle_of (sym c.in-13.is)

pub returns-in-14 : goal.returns-in-14
unfolding packed middle_of word words
returns-in-14 c = ap middle_of (sym c.in-14.is)

pub returns-in-23 : goal.returns-in-23
unfolding packed middle_of word words
returns-in-23 c = ap middle_of (sym c.in-23.is)

pub returns-in-47 : goal.returns-in-47
unfolding packed middle_of word words
returns-in-47 c = ap middle_of (sym c.in-47.is)

pub returns-in-48 : goal.returns-in-48
unfolding packed middle_of word words
returns-in-48 c = ap middle_of (sym c.in-48.is)

pub returns-in-49 : goal.returns-in-49
unfolding packed middle_of word words
returns-in-49 c = ap middle_of (sym c.in-49.is)

pub returns-in-81 : goal.returns-in-81
unfolding packed middle_of word words
returns-in-81 c = ap middle_of (sym c.in-81.is)

pub returns-in-84 : goal.returns-in-84
unfolding packed middle_of word words
returns-in-84 c = ap middle_of (sym c.in-84.is)

pub returns-in-86 : goal.returns-in-86
unfolding packed middle_of word words
returns-in-86 c = ap middle_of (sym c.in-86.is)

pub returns-in_default : goal.returns-in_default
unfolding packed middle_of word words
returns-in_default c = no_middle c.args.id (search rules)
