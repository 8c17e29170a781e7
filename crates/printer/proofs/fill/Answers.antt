use mathlib.Core.Path.{refl}
use Prim.Native.Nat.{ℕ}
use native.Mathlib.Omega.{arith}
use lib.ListN.{length-replicate}
use Rattle.printer.proofs.fill.Goals as goal

pub returns : goal.returns
returns c = λ size z. c.both_passes.ensures size c.places-places.ensures c.plans-plans.ensures c.maps-maps.ensures c.slots-slots.ensures c.sorts-sorts.ensures c.words-words.ensures z (omega (arith, length-replicate {A = ℕ} 16384 0)) refl (omega (arith, length-replicate {A = ℕ} 16384 0)) (omega (arith, length-replicate {A = ℕ} 32768 0))
