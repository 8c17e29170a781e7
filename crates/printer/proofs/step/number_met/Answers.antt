use mathlib.Core.Path.{ap, ◌∙◌}
use Rattle.printer.specs.Stacks.{buffer_in}
use Rattle.printer.specs.declared.print.State.{State}
use Rattle.printer.proofs.StepTurns as law
use Rattle.printer.proofs.step.number_met.Goals as goal

pub returns : goal.returns
returns c = λ t k a. law.number_turned t k a (buffer_in c.args.text.now c.args.s.spot) _ c.args.s c.args.n _ c.number_bytes-spot.result _ (ap (λ (r : State). buffer_in c.number_bytes-spot.new.text r.spot) c.moved.ensures ∙ c.number_bytes-spot.ensures) c.past_in.ensures c.moved.ensures
