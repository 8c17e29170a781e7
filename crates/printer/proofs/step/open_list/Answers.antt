use mathlib.Core.Path.{ap, ◌∙◌}
use Prim.Native.Nat.{ℕ}
use native.Mathlib.Omega.{arith}
use Rattle.printer.specs.Layout.{word, chosen_word}
use Rattle.printer.specs.Places.{list_opening}
use Rattle.printer.specs.Stacks.{frame_in, write, buffer_in}
use Rattle.printer.proofs.StepTurns as law
use Rattle.printer.proofs.step.open_list.Goals as goal

pub overflow_add-result : goal.overflow_add-result
overflow_add-result c = omega arith

pub returns-then-level-stack : goal.returns-then-level-stack
unfolding list_opening
returns-then-level-stack c = λ hs hw t a hc hl.
    rw c.keep.ensures (law.open_turned t c.args.stack.now a (buffer_in c.args.text.now c.args.s.spot) _ c.args.s c.args.n _ _ _ c.say_any-spot.result hc hl
    (c.say_any-spot.ensures hw ∙ ap (λ (z : ℕ). write (buffer_in c.args.text.now c.args.s.spot) (word z)) (c.choose.ensures ∙ ap (λ (z : ℕ). chosen_word z (frame_in c.args.s.top).note (frame_in c.args.s.top).map (frame_in c.args.s.top).seen 0) (c.slot_in-slot.ensures hs).0))
    c.unlisted_in.ensures c.listed_in.ensures
    (c.opened.ensures ((c.slot_in-slot.ensures hs).1 ∙ law.listed_manner c.args.s.top _ c.listed_in.ensures) hc))

pub returns : goal.returns
returns c = λ hs hw t a hc hl. absurd (omega (arith, hl, c.if-level-stack.false))
