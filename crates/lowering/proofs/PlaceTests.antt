-- What a test says of each row of the grammar's places it says of each place; no place of the input takes a Temporary or a Helper.
-- Assumes nothing.
use mathlib.Core.Path.{◌≡◌, refl, ap, ◌∙◌}
use mathlib.Core.Bool.{Bool, true, false, ◌&&◌}
use mathlib.Core.List.{List, [], ◌∷◌}
use Prim.Native.Nat.{ℕ, zero, suc, ◌<◌}
use native.Mathlib.Omega.{arith}
use lib.Dec.{eqb}
use lib.ListN.{get_or}
use borrow.Author.Tests.{eqb-true}
use Rattle.tree.specs.Grammar.{places, allowed, kind_of, form_in, form_at}
use Rattle.tree.specs.Grammar.Stage.{input}
use Rattle.lowering.proofs.Cases.{by_test, and_left, and_right}

abbrev pub all_rows : (List ℕ → Bool) → List (List ℕ) → Bool
all_rows t [] = true
all_rows t (r ∷ rs) = t r && all_rows t rs

pub row_at : (t : List ℕ → Bool) (rs : List (List ℕ)) (p : ℕ) → t [] ≡ true → all_rows t rs ≡ true → t (get_or rs p []) ≡ true
row_at t [] p z a = z
row_at t (r ∷ rs) zero z a = and_left (t r) (all_rows t rs) a
row_at t (r ∷ rs) (suc p) z a = row_at t rs p z (and_right (t r) (all_rows t rs) a)

no_20 : (p : ℕ) → form_at input p 20 ≡ 0
unfolding form_at allowed form_in places kind_of
no_20 p = eqb-true (form_in (get_or places p []) 20) 0 (row_at (λ r. eqb (form_in r 20) 0) places p refl refl)

no_21 : (p : ℕ) → form_at input p 21 ≡ 0
unfolding form_at allowed form_in places kind_of
no_21 p = eqb-true (form_in (get_or places p []) 21) 0 (row_at (λ r. eqb (form_in r 21) 0) places p refl refl)

pub not_kind : (p k j : ℕ) → form_at input p j ≡ 0 → 0 < form_at input p k → eqb k j ≡ false
not_kind p k j z h =
    by_test (eqb k j)
    (λ e. let y : form_at input p k ≡ 0 = ap (λ (x : ℕ). form_at input p x) (eqb-true k j e) ∙ z in absurd (omega arith))
    (λ e. e)

pub not_20 : (p k : ℕ) → 0 < form_at input p k → eqb k 20 ≡ false
not_20 p k h = not_kind p k 20 (no_20 p) h

pub not_21 : (p k : ℕ) → 0 < form_at input p k → eqb k 21 ≡ false
not_21 p k h = not_kind p k 21 (no_21 p) h
