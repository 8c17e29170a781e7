use mathlib.Core.Path.{sym, ap, ◌∙◌}
use native.Mathlib.Omega.{arith}
use Rattle.printer.proofs.Openings as law
use Rattle.printer.proofs.PiecesWritten.{write_append}
use Rattle.printer.specs.Layout.{word}
use Rattle.printer.specs.Stacks.{Buffer, write, frame_in}
use Rattle.printer.proofs.print.joint.Goals as goal

pub returns-then-m-lt9 : goal.returns-then-m-lt9
returns-then-m-lt9 c = λ w n h s. c.say_any.ensures w ∙ ap (λ (b : Buffer). write b (word c.joining.result)) (c.quasi_in-a.ensures h) ∙ rw (c.joining.ensures c.args.p n h s) (sym (write_append _ _ _))

pub returns : goal.returns
returns c = λ w n h s.
    law.no_joint _ (frame_in c.args.p) _ _ n (λ e. absurd (omega (arith, h, e, c.else-m-gt5.either))) (λ e. absurd (omega (arith, h, e, c.else-m-gt5.either))) (λ e. absurd (omega (arith, h, e, c.else-m-gt5.either)))
