use mathlib.Core.Path.{◌∙◌}
use Rattle.printer.proofs.PiecesWritten as law
use Rattle.printer.proofs.out.say_any.Goals as goal

pub returns-then-w-eq0 : goal.returns-then-w-eq0
returns-then-w-eq0 c e = law.said_nothing _ _ _ (c.low-w.ensures e) c.if-w-eq0.true

pub returns-then-w-lt256 : goal.returns-then-w-lt256
returns-then-w-lt256 c e = c.put.ensures ∙ law.said_byte _ _ _ (c.low-w.ensures e) c.if-w-lt256.true c.if-w-eq0.false
