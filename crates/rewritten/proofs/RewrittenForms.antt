-- The forms of the rewritten stage by those of input, as the code works them out.
-- Assumes nothing.
use mathlib.Core.Path.{◌≡◌, refl, sym, ◌∙◌}
use mathlib.Core.Bool.{Bool, true, false, cond}
use mathlib.Core.List.{[]}
use Prim.Native.Nat.{ℕ, ◌+◌, ◌*◌, ◌/◌, ◌%◌, ◌≤◌}
use native.Mathlib.Omega.{arith}
use native.Mathlib.Decide.{dec_lt}
use lib.Dec.{T, eqb, eqb→eq, ltb}
use lib.ListN.{get_or, get_or-eq_default}
use borrow.Author.Tests.{le-ltb, eq-eqb, ne_eqb}
use Rattle.tree.specs.Grammar.{places, allowed, also, among, kind_of, form_in, form_at}
use Rattle.tree.specs.Grammar.Stage.{input, rewritten}
use Rattle.tree.proofs.Table.{below, below_at}
use Rattle.tree.proofs.GrammarRows.{no_form}

unfoldable pub form_by : ℕ → ℕ → ℕ
form_by p k =
    cond (eqb k 20) (cond (eqb (form_at input p 18) 0) (cond (eqb (form_at input p 19) 0) 0 20) 20)
    (cond (eqb k 21) (cond (eqb (form_at input p 24) 0) 0 21) (form_at input p k))

form_right : ℕ → Bool
form_right n = eqb (form_by (n / 64) (n % 64)) (form_at rewritten (n / 64) (n % 64))

forms_right_lem : T (below 1664 form_right)
unfolding form_right form_by allowed places form_at form_in kind_of also among
forms_right_lem = tt

nowhere : (p : ℕ) → 26 ≤ p → get_or places p [] ≡ []
unfolding places
nowhere p h = get_or-eq_default places [] h

pub no_form_either : (p k : ℕ) → 26 ≤ p → form_at rewritten p k ≡ 0
unfolding form_at form_in allowed also among
no_form_either p k h = rw (nowhere p h) (same (ltb k 64))
  where
    same : (b : Bool) → ◌≡◌ {A = ℕ} (cond b 0 0) 0
    same true = refl
    same false = refl

no_kind : (p k : ℕ) → 64 ≤ k → form_at rewritten p k ≡ form_at input p k
unfolding form_at
no_kind p k h = rw (le-ltb k 64 h)

none_there : (p k : ℕ) → 26 ≤ p → form_by p k ≡ form_at rewritten p k
unfolding form_by
none_there p k h = rw (no_form p 18 h, no_form p 19 h, no_form p 24 h, no_form p k h, no_form_either p k h) (same (eqb k 20) (eqb k 21))
  where
    same : (a b : Bool) → ◌≡◌ {A = ℕ} (cond a 0 (cond b 0 0)) 0
    same true b = refl
    same false true = refl
    same false false = refl

no_such : (p k : ℕ) → 64 ≤ k → form_by p k ≡ form_at rewritten p k
unfolding form_by
no_such p k h = rw (ne_eqb k 20 (λ e. absurd (omega arith)), ne_eqb k 21 (λ e. absurd (omega arith))) (sym (no_kind p k h))

pub form_by_lem : (p k : ℕ) → form_by p k ≡ form_at rewritten p k
unfolding form_right
form_by_lem p k = elim (dec_lt k 64) [
  | yes s ↦ elim (dec_lt p 26) [
    | yes g ↦
        let a : (p * 64 + k) / 64 ≡ p = omega arith in
        let b : (p * 64 + k) % 64 ≡ k = omega arith in
        let e : form_by ((p * 64 + k) / 64) ((p * 64 + k) % 64) ≡ form_at rewritten ((p * 64 + k) / 64) ((p * 64 + k) % 64) = eqb→eq _ _ (below_at form_right 1664 forms_right_lem (p * 64 + k) (omega arith)) in
        rw (a, b) at e
    | no g ↦ none_there p k (omega arith)
  ]
  | no s ↦ no_such p k (omega arith)
]

-- the code's ways out
module _ (p k : ℕ) where
  pub form_temporary_none : k ≡ 20 → (f g : ℕ) → f ≡ form_at input p 18 → f ≡ 0 → g ≡ form_at input p 19 → g ≡ 0 → 0 ≡ form_at rewritten p k
  unfolding form_by
  form_temporary_none e f g a y b z = rw (eq-eqb k 20 e, eq-eqb (form_at input p 18) 0 (sym a ∙ y), eq-eqb (form_at input p 19) 0 (sym b ∙ z)) at (form_by_lem p k)

  pub form_temporary_binding : k ≡ 20 → (f g : ℕ) → f ≡ form_at input p 18 → f ≡ 0 → g ≡ form_at input p 19 → (g ≡ 0 → ⊥) → 20 ≡ form_at rewritten p k
  unfolding form_by
  form_temporary_binding e f g a y b z = rw (eq-eqb k 20 e, eq-eqb (form_at input p 18) 0 (sym a ∙ y), ne_eqb (form_at input p 19) 0 (λ w. z (b ∙ w))) at (form_by_lem p k)

  pub form_temporary : k ≡ 20 → (f : ℕ) → f ≡ form_at input p 18 → (f ≡ 0 → ⊥) → 20 ≡ form_at rewritten p k
  unfolding form_by
  form_temporary e f a y = rw (eq-eqb k 20 e, ne_eqb (form_at input p 18) 0 (λ w. y (a ∙ w))) at (form_by_lem p k)

  pub form_helper_none : (k ≡ 20 → ⊥) → k ≡ 21 → (f : ℕ) → f ≡ form_at input p 24 → f ≡ 0 → 0 ≡ form_at rewritten p k
  unfolding form_by
  form_helper_none n e f a y = rw (ne_eqb k 20 n, eq-eqb k 21 e, eq-eqb (form_at input p 24) 0 (sym a ∙ y)) at (form_by_lem p k)

  pub form_helper : (k ≡ 20 → ⊥) → k ≡ 21 → (f : ℕ) → f ≡ form_at input p 24 → (f ≡ 0 → ⊥) → 21 ≡ form_at rewritten p k
  unfolding form_by
  form_helper n e f a y = rw (ne_eqb k 20 n, eq-eqb k 21 e, ne_eqb (form_at input p 24) 0 (λ w. y (a ∙ w))) at (form_by_lem p k)

  pub form_other : (k ≡ 20 → ⊥) → (k ≡ 21 → ⊥) → (f : ℕ) → f ≡ form_at input p k → f ≡ form_at rewritten p k
  unfolding form_by
  form_other n m f a = a ∙ (rw (ne_eqb k 20 n, ne_eqb k 21 m) at (form_by_lem p k))
