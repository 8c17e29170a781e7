-- the parent is small, so it unpacks to itself
use mathlib.Core.Path.{◌≡◌, refl, sym, ap, ◌∙◌}
use Prim.Native.Nat.{ℕ}
use Rattle.printer.specs.Places.{around}
use Rattle.printer.specs.Machine.{Open}
use Rattle.printer.specs.Stacks.{frame_in, next_in, packed_frame}
use Rattle.printer.proofs.ArraysHeld.{unpacks, unpacked}
use Rattle.printer.proofs.StepTurns.{small_around}
use Rattle.printer.proofs.print.around.Goals as goal

kept : (p v kind map : ℕ) → v ≡ packed_frame (around (frame_in p) kind map) (next_in p) → frame_in v ≡ around (frame_in p) kind map
kept p v kind map e = ap (λ (o : Open). o.frame) (unpacked v _ _ e (small_around (frame_in p) (next_in p) (unpacks p) kind map (next_in p) (unpacks p).next))

pub returns-then-is_filled : goal.returns-then-is_filled
returns-then-is_filled c = λ t k n h g l. rw (c.with_next.ensures, kept c.args.p c.around-v.result k n (c.around-v.ensures k n g), c.step_over.ensures.0 t l, c.next_in.ensures, sym (c.is_filled.ensures h) ∙ c.if-is_filled.true) refl

pub returns : goal.returns
returns c = λ t k n h g l. c.around-v.ensures k n g ∙ rw (sym (c.is_filled.ensures h) ∙ c.if-is_filled.false) refl
