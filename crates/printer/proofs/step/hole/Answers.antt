use mathlib.Core.Path.{ap, ◌∙◌}
use Prim.Native.Nat.{ℕ}
use Rattle.printer.specs.Layout.{word}
use Rattle.printer.specs.Stacks.{write, buffer_in}
use Rattle.printer.specs.declared.print.State.{State}
use Rattle.printer.proofs.StepTurns as law
use Rattle.printer.proofs.step.hole.Goals as goal

pub returns : goal.returns
returns c = λ hs hw t k a. law.hole_turned t k a (buffer_in c.args.text.now c.args.s.spot) _ c.args.s _ c.say-spot.result _ (ap (λ (r : State). buffer_in c.say-spot.new.out r.spot) c.moved.ensures ∙ c.say-spot.ensures hw ∙ ap (λ (z : ℕ). write (buffer_in c.args.text.now c.args.s.spot) (word z)) (c.separator.ensures (c.slot_in-m.ensures hs).1)) c.item_seen_in.ensures c.moved.ensures
