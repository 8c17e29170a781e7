-- The numbers of `shown` in other words: each name once, where it appears first, and a name's number is its place there, from 1.
-- Names of the list that come after those of the tree change no number.
-- Assumes nothing.
use mathlib.Core.Path.{◌≡◌, refl, sym, ap, ◌∙◌}
use mathlib.Core.Bool.{Bool, true, cond}
use mathlib.Core.List.{List, [], ◌∷◌, ◌++◌, append_assoc, append-nil}
use Prim.Native.Nat.{ℕ, zero, suc, ◌+◌}
use lib.ListN.{length}
use native.Mathlib.Omega.{arith}
use Rattle.sink.specs.Shown.{Token, one_up, place, noted, order}
use Rattle.sink.specs.Shown.Token.{plain, temp}
use Rattle.sink.proofs.Runs.{by_test, unlike_sym}
use Rattle.sink.proofs.Names.{place_other, place_new, order_append, order_adds}

-- the names of a row
unfoldable pub names_in : {A : Type 0} → List (Token A) → List A
names_in [] = []
names_in (plain b ∷ ts) = names_in ts
names_in (temp a stem ∷ ts) = a ∷ names_in ts

temps : {A : Type 0} → List A → List (Token A)
temps [] = []
temps (a ∷ l) = temp a 0 ∷ temps l

module _ {A : Type 0} where
  names_temps : (ts : List (Token A)) (l : List A) → names_in (ts ++ temps l) ≡ names_in ts ++ l
  unfolding names_in temps
  names_temps [] [] = refl
  names_temps [] (a ∷ l) = ap (λ (r : List A). a ∷ r) (names_temps [] l)
  names_temps (plain b ∷ ts) l = names_temps ts l
  names_temps (temp a stem ∷ ts) l = ap (λ (r : List A). a ∷ r) (names_temps ts l)

module _ {A : Type 0} (alike : A → A → Bool) where
  unfoldable pub except : A → List A → List A
  except a [] = []
  except a (b ∷ l) = cond (alike a b) (except a l) (b ∷ except a l)

  -- each of them once, where it appears first
  unfoldable pub distinct : List A → List A
  distinct [] = []
  distinct (a ∷ l) = a ∷ except a (distinct l)

  -- where it stands in the list, counted from a number on
  unfoldable pub number_in : ℕ → List A → A → ℕ
  number_in from [] a = from
  number_in from (b ∷ l) a = cond (alike a b) from (number_in (suc from) l a)

  -- those that were not seen
  kept : ℕ → A → List A → List A
  kept zero a l = a ∷ l
  kept (suc k) a l = l

  without : List A → List A → List A
  without seen [] = []
  without seen (a ∷ l) = kept (place alike a seen) a (without seen l)

  module _ (same : (a b : A) → alike a b ≡ true → a ≡ b) (self : (a : A) → alike a a ≡ true) where
    without_none : (l : List A) → without [] l ≡ l
    unfolding without kept place
    without_none [] = refl
    without_none (a ∷ l) = ap (λ (r : List A). a ∷ r) (without_none l)

    kept_suc : (k : ℕ) (b : A) (l : List A) → kept (suc k) b l ≡ l
    unfolding kept
    kept_suc k b l = refl

    without_seen : (seen l : List A) (a : A) (k : ℕ) → place alike a seen ≡ suc k → without seen (except a l) ≡ without seen l
    unfolding without except
    without_seen seen [] a k e = refl
    without_seen seen (b ∷ l) a k e =
        by_test (alike a b)
        (λ t. let p : place alike b seen ≡ suc k = ap (λ (x : A). place alike x seen) (sym (same a b t)) ∙ e in
        rw t (without_seen seen l a k e ∙ sym (ap (λ (n : ℕ). kept n b (without seen l)) p ∙ kept_suc k b (without seen l))))
        (λ t. rw t (ap (kept (place alike b seen) b) (without_seen seen l a k e)))

    without_new : (seen l : List A) (a : A) → place alike a seen ≡ 0 → without (seen ++ (a ∷ [])) l ≡ without seen (except a l)
    unfolding without except
    without_new seen [] a e = refl
    without_new seen (b ∷ l) a e =
        by_test (alike a b)
        (λ t. let p : place alike b (seen ++ (a ∷ [])) ≡ suc (length seen) = ap (λ (x : A). place alike x (seen ++ (a ∷ []))) (sym (same a b t)) ∙ place_new alike self a seen e in
        rw t (ap (λ (n : ℕ). kept n b (without (seen ++ (a ∷ [])) l)) p ∙ kept_suc (length seen) b (without (seen ++ (a ∷ [])) l) ∙ without_new seen l a e))
        (λ t. rw t (ap (λ (n : ℕ). kept n b (without (seen ++ (a ∷ [])) l)) (place_other alike b a seen t) ∙ ap (kept (place alike b seen) b) (without_new seen l a e)))

    no_more : (seen : List A) → seen ≡ seen ++ without seen []
    unfolding without
    no_more seen = sym (append-nil seen)

    noted_is : (seen l rest : List A) (a : A) (p : ℕ) → place alike a seen ≡ p → rest ≡ noted alike p seen a ++ without (noted alike p seen a) l
        → rest ≡ seen ++ without seen (a ∷ except a l)
    unfolding without noted kept
    noted_is seen l rest a zero e h =
        h ∙ append_assoc seen (a ∷ []) (without (seen ++ (a ∷ [])) l) ∙ ap (λ (r : List A). seen ++ (a ∷ r)) (without_new seen l a e)
        ∙ ap (λ (n : ℕ). seen ++ kept n a (without seen (except a l))) (sym e)
    noted_is seen l rest a (suc k) e h =
        h ∙ ap (λ (r : List A). seen ++ r) (sym (without_seen seen l a k e)) ∙ ap (λ (n : ℕ). seen ++ kept n a (without seen (except a l))) (sym e)

    order_is : (ts : List (Token A)) (seen : List A) → order alike seen ts ≡ seen ++ without seen (distinct (names_in ts))
    unfolding order names_in distinct
    order_is [] seen = no_more seen
    order_is (plain b ∷ ts) seen = order_is ts seen
    order_is (temp a stem ∷ ts) seen =
        noted_is seen (distinct (names_in ts)) (order alike (noted alike (place alike a seen) seen a) ts) a (place alike a seen) refl (order_is ts (noted alike (place alike a seen) seen a))

    -- the order of first appearance is that of the distinct names
    pub order_distinct : (ts : List (Token A)) → order alike [] ts ≡ distinct (names_in ts)
    order_distinct ts = order_is ts [] ∙ without_none (distinct (names_in ts))

    further : (l more : List A) (a : A) (from k p : ℕ) → place alike a l ≡ p → one_up p ≡ suc k → ((j : ℕ) → place alike a l ≡ suc j → number_in (suc from) (l ++ more) a ≡ suc from + j)
        → number_in (suc from) (l ++ more) a ≡ from + k
    unfolding one_up
    further l more a from k zero q r h = absurd (let z : ◌≡◌ {A = ℕ} 0 (suc k) = r in omega arith)
    further l more a from k (suc p) q r h = h p q ∙ omega arith

    number_from : (l more : List A) (a : A) (from k : ℕ) → place alike a l ≡ suc k → number_in from (l ++ more) a ≡ from + k
    unfolding place number_in one_up
    number_from [] more a from k e = absurd (let z : ◌≡◌ {A = ℕ} 0 (suc k) = e in omega arith)
    number_from (b ∷ l) more a from k e =
        by_test (alike b a)
        (λ t. let z : ◌≡◌ {A = ℕ} 1 (suc k) = rw t at e in
        let y : alike a b ≡ true = ap (λ (x : A). alike a x) (same b a t) ∙ self a in
        rw y (omega arith))
        (λ t. rw (unlike_sym alike same self b a t) (further l more a from k (place alike a l) refl (rw t at e) (λ j q. number_from l more a (suc from) j q)))

    -- and the number is the place in it, whatever names come after
    pub number_is : (ts : List (Token A)) (more : List A) (a : A) (k : ℕ) → place alike a (order alike [] ts) ≡ suc k → number_in 1 (distinct (names_in ts ++ more)) a ≡ suc k
    number_is ts more a k e =
        let r = order_adds alike (temps more) (order alike [] ts) in
        let p : distinct (names_in ts ++ more) ≡ order alike [] ts ++ r.0
        = ap distinct (sym (names_temps ts more)) ∙ sym (order_distinct (ts ++ temps more)) ∙ order_append alike ts (temps more) [] ∙ r.1 in
        ap (λ (l : List A). number_in 1 l a) p ∙ number_from (order alike [] ts) r.0 a 1 k e ∙ omega arith
