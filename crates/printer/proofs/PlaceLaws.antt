-- The table of fields at a packed frame.
-- Assumes nothing.
use mathlib.Core.Path.{◌≡◌, ap, ◌∙◌}
use Prim.Native.Nat.{ℕ, ◌/◌, ◌%◌, ◌<◌}
use native.Mathlib.Omega.{arith}
use Rattle.printer.specs.Layout.{lead_of, manner_of}
use Rattle.printer.specs.Places.{field_in, manner_in}
use Rattle.printer.specs.Rows.{Slotted}
use Rattle.printer.specs.Stacks.{frame_in}
use Rattle.printer.proofs.Bits.{field_below}

pub slot_of : (v k f r : ℕ) → k ≡ (frame_in v).kind → f ≡ field_in (frame_in v) → (k < 64 → f < 8 → Slotted k f r) → (r % 128 ≡ lead_of (frame_in v).kind (field_in (frame_in v))) × (r / 128 ≡ manner_in (frame_in v))
unfolding manner_in
slot_of v k f r d e s =
    let w : Slotted k f r = s (omega arith) (omega (arith, field_below v)) in
    (w.lead ∙ ap (λ (x : ℕ). lead_of x f) d ∙ ap (lead_of (frame_in v).kind) e, w.manner ∙ ap (λ (x : ℕ). manner_of x f) d ∙ ap (manner_of (frame_in v).kind) e)
