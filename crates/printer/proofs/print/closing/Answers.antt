use Rattle.printer.proofs.PiecesWritten.{write_append}
use mathlib.Core.Path.{sym, ap, ◌∙◌}
use Rattle.printer.specs.Stacks.{Buffer, write}
use Rattle.printer.specs.Layout.{word}
use Rattle.printer.specs.Places.{closing}
use Rattle.printer.proofs.print.closing.Goals as goal

pub returns : goal.returns
unfolding closing
returns c = λ s w. c.say_any.ensures w ∙ ap (λ (b : Buffer). write b (word c.how_in.result)) (c.say_any-a.ensures w) ∙ rw (c.tail_word.ensures s, c.how_in.ensures) (sym (write_append _ _ _))
