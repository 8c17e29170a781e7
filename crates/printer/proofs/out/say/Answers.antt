use mathlib.Core.Path.{ap, ◌∙◌}
use Rattle.printer.specs.Stacks.{Buffer, write, bytes_in}
use Rattle.printer.proofs.PiecesWritten as law
use Rattle.printer.proofs.out.say.Goals as goal

pub returns-then-w-lt72057594037927936 : goal.returns-then-w-lt72057594037927936
returns-then-w-lt72057594037927936 c e = c.put_digits-a.ensures ∙ law.said_short _ _ _ (c.low-w.ensures e) c.if-w-lt72057594037927936.true

pub returns : goal.returns
returns c e = c.put_digits.ensures
    ∙ ap (λ (b : Buffer). write b (bytes_in c.high.result)) (c.put_digits-b.ensures ∙ ap (λ (b : Buffer). write b (bytes_in c.middle.result)) c.put_digits-a.ensures)
    ∙ law.said _ _ _ _ _ (c.low-w.ensures e) c.middle.ensures c.high.ensures
