use native.Mathlib.Omega.{arith}
use Rattle.printer.specs.Stacks.{buffer_in}
use Rattle.printer.proofs.StepTurns as law
use Rattle.printer.proofs.step.end.Goals as goal

pub returns-then-level-eq0 : goal.returns-then-level-eq0
returns-then-level-eq0 c = λ hr hw t a h. absurd (omega (arith, h, c.if-level-eq0.true))

pub returns : goal.returns
returns c = λ hr hw t a h. law.end_turned t c.args.stack.now a (buffer_in c.args.text.now c.args.s.spot) _ c.args.s _ c.closing-spot.result h (c.closing-spot.ensures hr hw) c.number_at-top.ensures
