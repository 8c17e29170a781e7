use mathlib.Core.Path.{ap, ◌∙◌}
use Prim.Native.Nat.{ℕ}
use native.Mathlib.Omega.{arith}
use Rattle.printer.specs.Layout.{word}
use Rattle.printer.specs.Places.{list_closing}
use Rattle.printer.specs.Stacks.{write, buffer_in}
use Rattle.printer.proofs.StepTurns as law
use Rattle.printer.proofs.step.close_list.Goals as goal

pub returns-then-level-eq0 : goal.returns-then-level-eq0
returns-then-level-eq0 c = λ hs hr hw h a. absurd (omega (arith, h, c.if-level-eq0.true))

pub returns : goal.returns
unfolding list_closing
returns c = λ hs hr hw h a.
    let m = (c.slot_in-m.ensures hs).1 in
    law.close_turned c.args.tree.now c.args.stack.now c.args.starts.now (buffer_in c.args.text.now c.args.s.spot) _ c.args.s _ _ _ _ c.left_in-spot.result h
    (law.written _ _ _ _ _ (c.say_any-a.ensures hw ∙ ap (λ (z : ℕ). write (buffer_in c.args.text.now c.args.s.spot) (word z)) (c.close_word.ensures hr)) (c.left_in-spot.ensures m))
    c.number_at.ensures (c.closed-top.ensures m) (c.hold_stop-count.ensures c.args.s.top m a c.args.tree.now)
