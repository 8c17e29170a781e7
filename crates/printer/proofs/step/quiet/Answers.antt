use mathlib.Core.Path.{ap}
use Rattle.printer.specs.Stacks.{buffer_in}
use Rattle.printer.specs.declared.print.State.{State}
use Rattle.printer.proofs.StepTurns as law
use Rattle.printer.proofs.step.quiet.Goals as goal

pub returns : goal.returns
returns c = λ t k a x. law.quiet_turned t k a (buffer_in x c.args.s.spot) _ c.args.s _ c.args.s.spot _ (ap (λ (r : State). buffer_in x r.spot) c.moved.ensures) c.past_in.ensures c.moved.ensures
