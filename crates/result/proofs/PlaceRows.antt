-- What may stand at a place of the rewritten stage, from place to place.
-- Assumes nothing.
use mathlib.Core.Path.{◌≡◌, refl, sym, ap, ◌∙◌}
use mathlib.Core.Bool.{Bool, true, false, cond, ◌&&◌, ◌||◌}
use mathlib.Core.List.{List, [], ◌∷◌}
use Prim.Native.Nat.{ℕ, ◌<◌}
use native.Mathlib.Omega.{arith}
use lib.Dec.{eqb, ltb}
use lib.ListN.{get_or}
use borrow.Author.Tests.{eqb-true}
use Rattle.tree.specs.Grammar.{Stage, places, allowed, also, among, kind_of, form_in, form_at}
use Rattle.tree.specs.Grammar.Stage.{input, rewritten}
use Rattle.lowering.proofs.Cases.{by_test, and_left, and_right, or_other}
use Rattle.lowering.proofs.PlaceTests.{all_rows, row_at}

-- each form of the first row whose kind the test does not pass over is that kind's form in the second row
unfoldable pub covers : (ℕ → Bool) → List ℕ → List ℕ → Bool
covers skip [] s = true
covers skip (f ∷ r) s = (skip (kind_of f) || eqb (form_in s (kind_of f)) f) && covers skip r s

pub covered : (skip : ℕ → Bool) (r s : List ℕ) → covers skip r s ≡ true → (k : ℕ) → skip k ≡ false → 0 < form_in r k → form_in s k ≡ form_in r k
unfolding covers form_in
covered skip [] s h k n z = absurd (omega arith)
covered skip (f ∷ r) s h k n z =
    go (eqb (kind_of f) k) refl (λ y. covered skip r s (and_right (skip (kind_of f) || eqb (form_in s (kind_of f)) f) (covers skip r s) h) k n y) z
  where
    go : (b : Bool) → eqb (kind_of f) k ≡ b → (0 < form_in r k → form_in s k ≡ form_in r k) → 0 < cond b f (form_in r k) → form_in s k ≡ cond b f (form_in r k)
    go true e i y =
        let q : kind_of f ≡ k = eqb-true (kind_of f) k e in
        let w : eqb (form_in s (kind_of f)) f ≡ true = or_other (skip (kind_of f)) (eqb (form_in s (kind_of f)) f) (ap skip q ∙ n) (and_left (skip (kind_of f) || eqb (form_in s (kind_of f)) f) (covers skip r s) h) in
        ap (form_in s) (sym q) ∙ eqb-true (form_in s (kind_of f)) f w
    go false e i y = i y

-- the same of two places
pub at_places : (skip : ℕ → Bool) (a b : Stage) (p q : ℕ) → covers skip (allowed a p) (allowed b q) ≡ true → (k : ℕ) → skip k ≡ false → 0 < form_at a p k → form_at b q k ≡ form_at a p k
unfolding form_at
at_places skip a b p q h k n z = go (ltb k 64) z
  where
    go : (t : Bool) → 0 < cond t (form_in (allowed a p) k) 0 → cond t (form_in (allowed b q) k) 0 ≡ cond t (form_in (allowed a p) k) 0
    go true y = covered skip (allowed a p) (allowed b q) h k n y
    go false y = absurd (omega arith)

-- ---- a test of each row of the grammar is a test of each place

-- what may stand where the input has the row
abbrev pub widened : List ℕ → List ℕ
widened r = also (among r 18 || among r 19) 20 (also (among r 24) 21 r)

-- the test passes over nothing
abbrev pub no_kind : ℕ → Bool
no_kind k = false

abbrev pub skips : ℕ → ℕ → Bool
skips j k = eqb k j

-- a form that a place of the input has is its form at the same place of the rewritten stage
pub input_form : (p k : ℕ) → 0 < form_at input p k → form_at rewritten p k ≡ form_at input p k
unfolding allowed places covers form_in kind_of also among
input_form p k z =
    at_places no_kind input rewritten p p (row_at (λ r. covers no_kind r (widened r)) places p refl refl) k refl z

-- where one form alone may stand
pub lone : (p f k : ℕ) → allowed rewritten p ≡ f ∷ [] → 0 < form_at rewritten p k → k ≡ kind_of f
unfolding form_at form_in
lone p f k e h = go (ltb k 64) (eqb (kind_of f) k) refl (rw e at h)
  where
    go : (b d : Bool) → eqb (kind_of f) k ≡ d → 0 < cond b (cond d f 0) 0 → k ≡ kind_of f
    go true true q z = sym (eqb-true (kind_of f) k q)
    go true false q z = absurd (omega arith)
    go false d q z = absurd (omega arith)

-- a kind that is its own form wherever it may stand
abbrev pub plainly : ℕ → List ℕ → Bool
plainly j r = eqb (form_in (widened r) j) 0 || eqb (form_in (widened r) j) j

pub own_form : (j : ℕ) → ltb j 64 ≡ true → plainly j [] ≡ true → all_rows (plainly j) places ≡ true → (p : ℕ) → 0 < form_at rewritten p j → form_at rewritten p j ≡ j
unfolding form_at allowed
own_form j l z a p h =
    by_test (eqb (form_in (widened (get_or places p [])) j) 0)
    (λ e. let y : form_in (widened (get_or places p [])) j ≡ 0 = eqb-true (form_in (widened (get_or places p [])) j) 0 e in let x : 0 < form_in (widened (get_or places p [])) j = rw l at h in absurd (omega arith))
    (λ e. rw l (eqb-true (form_in (widened (get_or places p [])) j) j (or_other (eqb (form_in (widened (get_or places p [])) j) 0) (eqb (form_in (widened (get_or places p [])) j) j) e (row_at (plainly j) places p z a))))

pub form_4 : (p : ℕ) → 0 < form_at rewritten p 4 → form_at rewritten p 4 ≡ 4
unfolding form_in kind_of places also among
form_4 = own_form 4 refl refl refl

pub form_7 : (p : ℕ) → 0 < form_at rewritten p 7 → form_at rewritten p 7 ≡ 7
unfolding form_in kind_of places also among
form_7 = own_form 7 refl refl refl

pub form_8 : (p : ℕ) → 0 < form_at rewritten p 8 → form_at rewritten p 8 ≡ 8
unfolding form_in kind_of places also among
form_8 = own_form 8 refl refl refl

pub form_10 : (p : ℕ) → 0 < form_at rewritten p 10 → form_at rewritten p 10 ≡ 10
unfolding form_in kind_of places also among
form_10 = own_form 10 refl refl refl

pub form_17 : (p : ℕ) → 0 < form_at rewritten p 17 → form_at rewritten p 17 ≡ 17
unfolding form_in kind_of places also among
form_17 = own_form 17 refl refl refl

pub form_20 : (p : ℕ) → 0 < form_at rewritten p 20 → form_at rewritten p 20 ≡ 20
unfolding form_in kind_of places also among
form_20 = own_form 20 refl refl refl
