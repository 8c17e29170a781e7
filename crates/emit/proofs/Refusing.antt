-- A refusal at the keys of objects, by its number.
-- Assumes nothing.
use mathlib.Core.Path.{◌≡◌, sym, ap, ◌∙◌}
use Prim.Native.Nat.{ℕ, zero, suc, ◌<◌}
use native.Mathlib.Omega.{arith}
use Rattle.std.specs.Prelude.{Option, Some, None}
use Rattle.pattern.specs.declared.tally.Refusal.{Refusal}
use Rattle.pattern.specs.declared.tally.Refusal.TheVariants.{NoForm, OtherForm}
use Rattle.pattern.specs.Refusals.{refusal_code, refusal_number}

pub refused_by : {o : Option Refusal} {r : Refusal} {n x : ℕ} → n ≡ refusal_code r → o ≡ Some r → refusal_number o ≡ x → n ≡ x
refused_by code met number = code ∙ sym (ap refusal_number met) ∙ number

pub refused_none : {o : Option Refusal} {x : ℕ} → o ≡ None → refusal_number o ≡ x → 0 ≡ x
refused_none met number = sym (ap refusal_number met) ∙ number

pub refused_past : (r : Refusal) {n : ℕ} → n ≡ refusal_code r → 0 < n
refused_past NoForm {n = n} e = omega arith
refused_past OtherForm {n = n} e = omega arith
