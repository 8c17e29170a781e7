use mathlib.Core.Path.{◌≡◌, sym, ap, ◌∙◌}
use Prim.Native.Nat.{ℕ, ◌%◌}
use native.Mathlib.Omega.{arith}
use Rattle.printer.specs.Stacks.{frame_in, buffer_in, write}
use Rattle.printer.specs.Layout.{word}
use Rattle.printer.proofs.LeavesPrinted as law
use Rattle.printer.proofs.StepTurns.{cell_within}
use Rattle.printer.proofs.step.leaf.Goals as goal
use Rattle.printer.proofs.step.leaf.Goals.{else-code-eq-LITERAL-via-else-code-eq-LITERAL, else-code-eq-LITERAL-via-then-code-eq-LITERAL+else-is_quasis}

pub returns-then-is_quasis : goal.returns-then-is_quasis
returns-then-is_quasis c = λ hs hw k note l m hp hc hl.
    let n = (c.slot_in-slot.ensures hs).1 in
    let plain = law.plain (frame_in c.args.s.top) 13 note (omega arith) (omega arith) in
    let e : c.args.p % 65535 ≡ c.args.p = omega arith in
    law.quasi_turned c.args.tree.now k c.args.starts.now (buffer_in c.args.text.now c.args.s.spot) _ c.args.s c.args.code note c.args.p _ c.leaf_opening-a.result _ _
    c.if-code-eq-LITERAL.true (sym (c.is_quasis.ensures c.args.s.top n) ∙ c.if-is_quasis.true) hc
    (c.leaf_opening-a.ensures hw 22 7 note n (c.slot_in-slot.ensures hs).0 plain.leaf)
    (c.around.ensures c.args.tree.now 22 7 n plain.method hc)
    (rw (sym (cell_within c.args.tree.now c.args.p), sym e) (c.hold.ensures (omega arith) hl c.args.tree.now))

pub returns : goal.returns
returns c = λ hs hw k note l m hp hc hl.
    let n = (c.slot_in-slot.ensures hs).1 in
    let kind = law.leaf_kind c.args.code in
    let map = law.leaf_map c.args.code in
    let plain = law.plain (frame_in c.args.s.top) c.args.code note l m in
    law.leaf_turned c.args.tree.now k c.args.starts.now (buffer_in c.args.text.now c.args.s.spot) _ c.args.s c.args.code note c.args.p _ c.say_any-spot.result _ _ l m
    (λ z. (elim c.else-code-eq-LITERAL.branch [ else-code-eq-LITERAL-via-then-code-eq-LITERAL+else-is_quasis w ↦ sym (w.is_quasis.ensures c.args.s.top n) ∙ w.if-is_quasis.false | else-code-eq-LITERAL-via-else-code-eq-LITERAL w ↦ absurd (w.if-code-eq-LITERAL.false z) ])) hc
    (c.leaf_opening-a.ensures hw kind map note n (c.slot_in-slot.ensures hs).0 plain.leaf)
    (c.leaf-b.ensures (omega arith))
    (c.say_any-spot.ensures hw ∙ ap (λ (z : ℕ). write (buffer_in c.leaf-b.new.text c.leaf-b.result) (word z)) (c.following.ensures.0 kind map note n plain.statement plain.wrapped))
    (c.around-2.ensures c.args.tree.now kind map n plain.method hc)
