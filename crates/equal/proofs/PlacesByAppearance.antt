-- Places by first appearance: what appears has a place, no two things have one, and a renaming that keeps them apart changes none.
-- Assumes nothing.
use mathlib.Core.Path.{◌≡◌, refl, sym, ap, ◌∙◌}
use mathlib.Core.Bool.{Bool, true, false, true≢false}
use mathlib.Core.List.{List, [], ◌∷◌}
use Prim.Native.Nat.{ℕ, suc, ◌+◌, ◌≤◌}
use native.Mathlib.Omega.{arith}
use lib.Dec.{eqb}
use lib.ListN.{length}
use borrow.Author.Tests.{eqb-true, eq-eqb}
use Rattle.lowering.specs.Collect.{except, distinct, number_in}
use Rattle.lowering.proofs.Appearance.{In, here, there, renamed, Keeps, in_distinct, distinct_renamed, number_renamed}
use Rattle.lowering.proofs.Cases.{by_test}
use Rattle.equal.specs.Canonical.{place_of}
use Rattle.equal.specs.Renaming.{KeepsApart}

-- ---- places of things that a test tells apart

module _ {A : Type 0} (alike : A → A → Bool) where
  pub number_most : (from : ℕ) (xs : List A) (a : A) → number_in alike from xs a ≤ from + length xs
  unfolding number_in
  number_most from [] a = omega arith
  number_most from (x ∷ xs) a =
      by_test (alike a x) (λ t. rw t (omega arith)) (λ t. rw t (let h = number_most (suc from) xs a in omega arith))

  length_except : (a : A) (xs : List A) → length (except alike a xs) ≤ length xs
  unfolding except
  length_except a [] = omega arith
  length_except a (x ∷ xs) =
      let h = length_except a xs in
      by_test (alike a x) (λ t. rw t (omega arith)) (λ t. rw t (omega arith))

  pub length_distinct : (xs : List A) → length (distinct alike xs) ≤ length xs
  unfolding distinct
  length_distinct [] = omega arith
  length_distinct (x ∷ xs) = let h = length_distinct xs in let k = length_except x (distinct alike xs) in omega arith

module _ {A : Type 0} (alike : A → A → Bool) (own : (a : A) → alike a a ≡ true) (same : (a b : A) → alike a b ≡ true → a ≡ b) where
  not_here : (a b : A) (xs : List A) → alike a b ≡ false → In a (b ∷ xs) → In a xs
  not_here a b xs e (here h) = absurd (true≢false (sym (own a) ∙ ap (alike a) h ∙ e))
  not_here a b xs e (there i) = i

  kept : (a b : A) (xs : List A) → alike b a ≡ false → In a xs → In a (except alike b xs)
  unfolding except
  kept a b (x ∷ xs) e (here h) =
      rw (ap (alike b) (sym h) ∙ e) (here h)
  kept a b (x ∷ xs) e (there i) =
      by_test (alike b x) (λ t. rw t (kept a b xs e i)) (λ t. rw t (there (kept a b xs e i)))
  kept a b [] e x'' = elim x'' [ ]

  -- what is in a list is among its distinct things
  pub among : (a : A) (xs : List A) → In a xs → In a (distinct alike xs)
  unfolding distinct
  among a (x ∷ xs) (here h) = here h
  among a (x ∷ xs) (there i) =
      by_test (alike x a) (λ t. here (sym (same x a t))) (λ t. there (kept a x (distinct alike xs) t (among a xs i)))
  among a [] x' = elim x' [ ]

  number_from : (from : ℕ) (xs : List A) (a : A) → from ≤ number_in alike from xs a
  unfolding number_in
  number_from from [] a = omega arith
  number_from from (x ∷ xs) a =
      by_test (alike a x) (λ t. rw t (omega arith)) (λ t. rw t (let h = number_from (suc from) xs a in omega arith))

  -- no two of them have one number
  pub number_apart : (from : ℕ) (xs : List A) (a b : A) → In a xs → In b xs → number_in alike from xs a ≡ number_in alike from xs b → a ≡ b
  unfolding number_in
  number_apart from (x ∷ xs) a b i j e =
      by_test (alike a x)
      (λ s.
      by_test (alike b x)
      (λ t. same a x s ∙ sym (same b x t))
      (λ t.
      let h = number_from (suc from) xs b in
      let z : from ≡ number_in alike (suc from) xs b = rw (s, t) at e in
      absurd (omega arith)))
      (λ s.
      by_test (alike b x)
      (λ t.
      let h = number_from (suc from) xs a in
      let z : number_in alike (suc from) xs a ≡ from = rw (s, t) at e in
      absurd (omega arith))
      (λ t.
      number_apart (suc from) xs a b (not_here a x xs s i) (not_here b x xs t j) (rw (s, t) at e)))
  number_apart from [] a b i j e = elim i [ ]

  -- numbers tell them apart as the test does
  pub numbers_keep : (from : ℕ) (xs : List A) (a b : A) → In a xs → In b xs → eqb (number_in alike from xs a) (number_in alike from xs b) ≡ alike a b
  numbers_keep from xs a b i j =
      by_test (alike a b)
      (λ t. eq-eqb (number_in alike from xs a) (number_in alike from xs b) (ap (number_in alike from xs) (same a b t)) ∙ sym t)
      (λ t.
      by_test (eqb (number_in alike from xs a) (number_in alike from xs b))
      (λ u.
      let e : a ≡ b = number_apart from xs a b i j (eqb-true (number_in alike from xs a) (number_in alike from xs b) u) in
      absurd (true≢false (sym (own a) ∙ ap (alike a) e ∙ t)))
      (λ u. u ∙ sym t))

-- ---- the places of numbers

pub own_number : (a : ℕ) → eqb a a ≡ true
own_number a = eq-eqb a a refl

pub places_apart : (xs : List ℕ) → KeepsApart (place_of xs) xs
unfolding KeepsApart place_of
places_apart xs a b i j e =
    number_apart eqb own_number eqb-true 1 (distinct eqb xs) a b (among eqb own_number eqb-true a xs i) (among eqb own_number eqb-true b xs j) e

pub place_most : (xs : List ℕ) (a : ℕ) → place_of xs a ≤ 1 + length xs
unfolding place_of
place_most xs a =
    let h = number_most eqb 1 (distinct eqb xs) a in
    let k = length_distinct eqb xs in
    omega arith

-- each of the numbers changed
abbrev pub changed : (ℕ → ℕ) → List ℕ → List ℕ
changed f xs = renamed eqb eqb f xs

keeps : (f : ℕ → ℕ) (xs : List ℕ) → KeepsApart f xs → Keeps eqb eqb f xs
unfolding KeepsApart
keeps f xs h a b i j =
    by_test (eqb a b)
    (λ t. eq-eqb (f a) (f b) (ap f (eqb-true a b t)) ∙ sym t)
    (λ t.
    by_test (eqb (f a) (f b))
    (λ u. absurd (true≢false (sym (eq-eqb a b (h a b i j (eqb-true (f a) (f b) u))) ∙ t)))
    (λ u. u ∙ sym t))

-- a renaming of whatever kind, if it keeps apart what a test does, changes no place
pub place_renamed : {A : Type 0} (alike : A → A → Bool) (own : (a : A) → alike a a ≡ true) (same : (a b : A) → alike a b ≡ true → a ≡ b)
    (f : A → ℕ) (xs : List A) → Keeps alike eqb f xs → (a : A) → In a xs → place_of (renamed alike eqb f xs) (f a) ≡ number_in alike 1 (distinct alike xs) a
unfolding place_of
place_renamed alike own same f xs h a i =
    ap (λ (ys : List ℕ). number_in eqb 1 ys (f a)) (distinct_renamed alike eqb f xs h)
    ∙ number_renamed alike eqb f 1 (distinct alike xs) a (λ b j. h a b i (in_distinct alike eqb f b xs j))

pub place_changed : (f : ℕ → ℕ) (xs : List ℕ) → KeepsApart f xs → (a : ℕ) → In a xs → place_of (changed f xs) (f a) ≡ place_of xs a
unfolding place_of
place_changed f xs h a i = place_renamed eqb own_number eqb-true f xs (keeps f xs h) a i
