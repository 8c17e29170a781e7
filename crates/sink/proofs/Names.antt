-- Numbers by first appearance: a name keeps its place, a new one is last, and what a list shows changes only where the new name stands.
-- Assumes nothing.
use mathlib.Core.Path.{◌≡◌, refl, sym, ap, ◌∙◌}
use mathlib.Core.Bool.{Bool, true, false, cond}
use mathlib.Core.List.{List, [], ◌∷◌, ◌++◌, append_assoc, append-nil}
use Prim.Native.Nat.{ℕ, zero, suc, ◌+◌, ◌/◌, ◌%◌, ◌<◌, ◌≤◌}
use native.Mathlib.Omega.{arith}
use lib.ListN.{length, set}
use Rattle.sink.specs.Machine.{low, high, set_wide}
use Rattle.sink.specs.Shown.{Token, one_up, place, noted, order, shown}
use Rattle.sink.specs.Shown.Token.{plain, temp}
use Rattle.sink.proofs.Runs.{by_test}

-- ---- numbers, by cases

up_zero : (p : ℕ) → one_up p ≡ 0 → p ≡ 0
unfolding one_up
up_zero zero e = refl
up_zero (suc p) e = absurd (omega arith)

up_suc : (p q k : ℕ) → one_up p ≡ suc k → ((j : ℕ) → p ≡ suc j → q ≡ suc j) → one_up q ≡ suc k
unfolding one_up
up_suc zero q k e h = absurd (omega arith)
up_suc (suc p) q k e h = ap one_up (h p refl) ∙ e

up_le : (p n : ℕ) → p ≤ n → one_up p ≤ suc n
unfolding one_up
up_le zero n h = omega arith
up_le (suc p) n h = omega arith

pub wide_cons : (b : ℕ) (l : List ℕ) (i v : ℕ) → set_wide (b ∷ l) (1 + i) v ≡ b ∷ set_wide l i v
unfolding set_wide
wide_cons b l i v =
    let p : 1 + i ≡ suc i = omega arith in
    let q : 1 + i + 1 ≡ suc (i + 1) = omega arith in
    ap (λ (k : ℕ). set (set (b ∷ l) k (low v)) (1 + i + 1) (high v)) p ∙ ap (λ (k : ℕ). set (b ∷ set l i (low v)) k (high v)) q

-- how many bytes a row has
abbrev pub size : {A : Type 0} → List (Token A) → ℕ
size [] = 0
size (plain b ∷ ts) = 1 + size ts
size (temp a stem ∷ ts) = 5 + size ts

pub size_append : {A : Type 0} (x y : List (Token A)) → size (x ++ y) ≡ size x + size y
size_append [] y = omega arith
size_append (plain b ∷ x) y = omega (arith, size_append x y)
size_append (temp a stem ∷ x) y = omega (arith, size_append x y)

module _ {A : Type 0} (alike : A → A → Bool) where
  -- how often a name stands in a row, and where the number of the first one is
  abbrev pub count : A → List (Token A) → ℕ
  count a [] = 0
  count a (plain b ∷ ts) = count a ts
  count a (temp b stem ∷ ts) = cond (alike a b) 1 0 + count a ts

  abbrev pub spot : A → List (Token A) → ℕ
  spot a [] = 2
  spot a (plain b ∷ ts) = 1 + spot a ts
  spot a (temp b stem ∷ ts) = cond (alike a b) 2 (5 + spot a ts)

  pub length_shown : (o : List A) (ts : List (Token A)) → length (shown alike o ts) ≡ size ts
  unfolding shown
  length_shown o [] = refl
  length_shown o (plain b ∷ ts) = omega (arith, length_shown o ts)
  length_shown o (temp a stem ∷ ts) = omega (arith, length_shown o ts)

  pub shown_append : (o : List A) (x y : List (Token A)) → shown alike o (x ++ y) ≡ shown alike o x ++ shown alike o y
  unfolding shown
  shown_append o [] y = refl
  shown_append o (plain b ∷ x) y = ap (λ (l : List ℕ). b ∷ l) (shown_append o x y)
  shown_append o (temp a stem ∷ x) y = ap (λ (l : List ℕ). 20 ∷ 3 ∷ place alike a o % 256 ∷ place alike a o / 256 ∷ stem ∷ l) (shown_append o x y)

  pub count_append : (a : A) (x y : List (Token A)) → count a (x ++ y) ≡ count a x + count a y
  count_append a [] y = omega arith
  count_append a (plain b ∷ x) y = count_append a x y
  count_append a (temp b stem ∷ x) y = omega (arith, count_append a x y)

  -- ---- places

  pub place_le : (a : A) (l : List A) → place alike a l ≤ length l
  unfolding place
  place_le a [] = omega arith
  place_le a (b ∷ l) = by_test (alike b a) (λ t. rw t (omega arith)) (λ t. rw t (up_le (place alike a l) (length l) (place_le a l)))

  pub place_kept : (a : A) (l m : List A) (k : ℕ) → place alike a l ≡ suc k → place alike a (l ++ m) ≡ suc k
  unfolding place
  place_kept a [] m k e = absurd (let z : ◌≡◌ {A = ℕ} 0 (suc k) = e in omega arith)
  place_kept a (b ∷ l) m k e =
      by_test (alike b a)
      (λ t. rw t (rw t at e))
      (λ t. rw t (up_suc (place alike a l) (place alike a (l ++ m)) k (rw t at e) (λ j q. place_kept a l m j q)))

  pub place_other : (a b : A) (l : List A) → alike b a ≡ false → place alike a (l ++ (b ∷ [])) ≡ place alike a l
  unfolding place one_up
  place_other a b [] h = rw h
  place_other a b (x ∷ l) h = ap (λ (p : ℕ). cond (alike x a) 1 (one_up p)) (place_other a b l h)

  module _ (self : (a : A) → alike a a ≡ true) where
    pub place_new : (a : A) (l : List A) → place alike a l ≡ 0 → place alike a (l ++ (a ∷ [])) ≡ suc (length l)
    unfolding place one_up
    place_new a [] e = rw (self a)
    place_new a (b ∷ l) e =
        by_test (alike b a)
        (λ t. absurd (let z : ◌≡◌ {A = ℕ} 1 0 = rw t at e in omega arith))
        (λ t. rw t (ap one_up (place_new a l (up_zero (place alike a l) (rw t at e)))))

    -- once it is noted, a name has a place
    pub place_noted : (a : A) (seen : List A) (p : ℕ) → place alike a seen ≡ p → (k : ℕ) × (place alike a (noted alike p seen a) ≡ suc k)
    unfolding noted
    place_noted a seen zero e = (length seen, place_new a seen e)
    place_noted a seen (suc p) e = (p, e)

  -- ---- the order

  noted_adds : (a : A) (seen : List A) (p : ℕ) → (more : List A) × (noted alike p seen a ≡ seen ++ more)
  unfolding noted
  noted_adds a seen zero = (a ∷ [], refl)
  noted_adds a seen (suc p) = ([], sym (append-nil seen))

  pub order_adds : (ts : List (Token A)) (seen : List A) → (more : List A) × (order alike seen ts ≡ seen ++ more)
  unfolding order
  order_adds [] seen = ([], sym (append-nil seen))
  order_adds (plain b ∷ ts) seen = order_adds ts seen
  order_adds (temp a stem ∷ ts) seen =
      let n = noted_adds a seen (place alike a seen) in
      let r = order_adds ts (noted alike (place alike a seen) seen a) in
      (n.0 ++ r.0, r.1 ∙ ap (λ (l : List A). l ++ r.0) n.1 ∙ append_assoc seen n.0 r.0)

  pub order_kept : (ts : List (Token A)) (seen : List A) (a : A) (k : ℕ) → place alike a seen ≡ suc k → place alike a (order alike seen ts) ≡ suc k
  order_kept ts seen a k e = let r = order_adds ts seen in ap (place alike a) r.1 ∙ place_kept a seen r.0 k e

  pub order_append : (x y : List (Token A)) (seen : List A) → order alike seen (x ++ y) ≡ order alike (order alike seen x) y
  unfolding order
  order_append [] y seen = refl
  order_append (plain b ∷ x) y seen = order_append x y seen
  order_append (temp a stem ∷ x) y seen = order_append x y (noted alike (place alike a seen) seen a)

  -- what has been shown stays as it is
  pub shown_kept : (self : (a : A) → alike a a ≡ true) (x y : List (Token A)) (seen : List A)
      → shown alike (order alike (order alike seen x) y) x ≡ shown alike (order alike seen x) x
  unfolding order shown
  shown_kept self [] y seen = refl
  shown_kept self (plain b ∷ x) y seen = ap (λ (l : List ℕ). b ∷ l) (shown_kept self x y seen)
  shown_kept self (temp a stem ∷ x) y seen =
      let o : List A = noted alike (place alike a seen) seen a in
      let n = place_noted self a seen (place alike a seen) refl in
      let p : place alike a (order alike o x) ≡ suc n.0 = order_kept x o a n.0 n.1 in
      let q : place alike a (order alike (order alike o x) y) ≡ suc n.0 = order_kept y (order alike o x) a n.0 p in
      let e : place alike a (order alike (order alike o x) y) ≡ place alike a (order alike o x) = q ∙ sym p in
      ap (λ (l : List ℕ). 20 ∷ 3 ∷ place alike a (order alike (order alike o x) y) % 256 ∷ place alike a (order alike (order alike o x) y) / 256 ∷ stem ∷ l) (shown_kept self x y o)
      ∙ ap (λ (v : ℕ). 20 ∷ 3 ∷ v % 256 ∷ v / 256 ∷ stem ∷ shown alike (order alike o x) x) e

  -- ---- a name that stands in a row

  pub spot_kept : (a : A) (x y : List (Token A)) (k : ℕ) → count a x ≡ suc k → spot a (x ++ y) ≡ spot a x
  spot_kept a [] y k e = absurd (let z : ◌≡◌ {A = ℕ} 0 (suc k) = e in omega arith)
  spot_kept a (plain b ∷ x) y k e = ap (λ (n : ℕ). 1 + n) (spot_kept a x y k e)
  spot_kept a (temp b stem ∷ x) y k e =
      by_test (alike a b)
      (λ t. rw t)
      (λ t. let z : count a x ≡ suc k = (let f : 0 + count a x ≡ suc k = rw t at e in omega arith) in rw t (ap (λ (n : ℕ). 5 + n) (spot_kept a x y k z)))

  pub spot_within : (a : A) (x : List (Token A)) (k : ℕ) → count a x ≡ suc k → spot a x + 2 ≤ size x
  spot_within a [] k e = absurd (let z : ◌≡◌ {A = ℕ} 0 (suc k) = e in omega arith)
  spot_within a (plain b ∷ x) k e = omega (arith, spot_within a x k e)
  spot_within a (temp b stem ∷ x) k e =
      by_test (alike a b)
      (λ t. rw t (omega arith))
      (λ t. let z : count a x ≡ suc k = (let f : 0 + count a x ≡ suc k = rw t at e in omega arith) in rw t (omega (arith, spot_within a x k z)))

  module _ (self : (a : A) → alike a a ≡ true) where
    pub spot_new : (a : A) (stem : ℕ) (x : List (Token A)) → count a x ≡ 0 → spot a (x ++ (temp a stem ∷ [])) ≡ size x + 2
    spot_new a stem [] e = rw (self a)
    spot_new a stem (plain b ∷ x) e = omega (arith, spot_new a stem x e)
    spot_new a stem (temp b other ∷ x) e =
        by_test (alike a b)
        (λ t. absurd (let f : 1 + count a x ≡ 0 = rw t at e in omega arith))
        (λ t. let z : count a x ≡ 0 = (let f : 0 + count a x ≡ 0 = rw t at e in omega arith) in rw t (omega (arith, spot_new a stem x z)))

  -- ---- a new name at the end of the order

  pub shown_other : (a : A) (o : List A) (x : List (Token A)) → count a x ≡ 0 → shown alike (o ++ (a ∷ [])) x ≡ shown alike o x
  unfolding shown
  shown_other a o [] e = refl
  shown_other a o (plain b ∷ x) e = ap (λ (l : List ℕ). b ∷ l) (shown_other a o x e)
  shown_other a o (temp b stem ∷ x) e =
      by_test (alike a b)
      (λ t. absurd (let f : 1 + count a x ≡ 0 = rw t at e in omega arith))
      (λ t. let z : count a x ≡ 0 = (let f : 0 + count a x ≡ 0 = rw t at e in omega arith) in
      ap (λ (l : List ℕ). 20 ∷ 3 ∷ place alike b (o ++ (a ∷ [])) % 256 ∷ place alike b (o ++ (a ∷ [])) / 256 ∷ stem ∷ l) (shown_other a o x z)
      ∙ ap (λ (v : ℕ). 20 ∷ 3 ∷ v % 256 ∷ v / 256 ∷ stem ∷ shown alike o x) (place_other b a o t))

  module _ (same : (a b : A) → alike a b ≡ true → a ≡ b) (self : (a : A) → alike a a ≡ true) where
    wide_first : (l : List ℕ) (p q stem v : ℕ) → v < 65536 → set_wide (20 ∷ 3 ∷ p ∷ q ∷ stem ∷ l) 2 v ≡ 20 ∷ 3 ∷ v % 256 ∷ v / 256 ∷ stem ∷ l
    unfolding set_wide low high
    wide_first l p q stem v h =
        let e : v / 256 % 256 ≡ v / 256 = omega arith in
        ap (λ (k : ℕ). 20 ∷ 3 ∷ v % 256 ∷ k ∷ stem ∷ l) e

    wide_five : (l : List ℕ) (p q stem i v : ℕ) → set_wide (20 ∷ 3 ∷ p ∷ q ∷ stem ∷ l) (5 + i) v ≡ 20 ∷ 3 ∷ p ∷ q ∷ stem ∷ set_wide l i v
    wide_five l p q stem i v =
        let z : 5 + i ≡ 1 + (1 + (1 + (1 + (1 + i)))) = omega arith in
        ap (λ (k : ℕ). set_wide (20 ∷ 3 ∷ p ∷ q ∷ stem ∷ l) k v) z
        ∙ wide_cons 20 (3 ∷ p ∷ q ∷ stem ∷ l) (1 + (1 + (1 + (1 + i)))) v
        ∙ ap (λ (r : List ℕ). 20 ∷ r) (wide_cons 3 (p ∷ q ∷ stem ∷ l) (1 + (1 + (1 + i))) v ∙ ap (λ (r : List ℕ). 3 ∷ r) (wide_cons p (q ∷ stem ∷ l) (1 + (1 + i)) v
        ∙ ap (λ (r : List ℕ). p ∷ r) (wide_cons q (stem ∷ l) (1 + i) v ∙ ap (λ (r : List ℕ). q ∷ r) (wide_cons stem l i v))))

    pub shown_patch : (a : A) (o : List A) (x : List (Token A)) → place alike a o ≡ 0 → length o < 65535 → count a x ≡ 1
        → set_wide (shown alike o x) (spot a x) (suc (length o)) ≡ shown alike (o ++ (a ∷ [])) x
    unfolding shown
    shown_patch a o [] p h e = absurd (let z : ◌≡◌ {A = ℕ} 0 1 = e in omega arith)
    shown_patch a o (plain b ∷ x) p h e = wide_cons b (shown alike o x) (spot a x) (suc (length o)) ∙ ap (λ (l : List ℕ). b ∷ l) (shown_patch a o x p h e)
    shown_patch a o (temp b stem ∷ x) p h e =
        by_test (alike a b)
        (λ t. let z : count a x ≡ 0 = (let f : 1 + count a x ≡ 1 = rw t at e in omega arith) in
        let n : place alike b (o ++ (a ∷ [])) ≡ suc (length o) = ap (λ (y : A). place alike y (o ++ (a ∷ []))) (sym (same a b t)) ∙ place_new self a o p in
        rw t
        (wide_first (shown alike o x) (place alike b o % 256) (place alike b o / 256) stem (suc (length o)) (omega arith)
        ∙ ap (λ (v : ℕ). 20 ∷ 3 ∷ v % 256 ∷ v / 256 ∷ stem ∷ shown alike o x) (sym n)
        ∙ ap (λ (l : List ℕ). 20 ∷ 3 ∷ place alike b (o ++ (a ∷ [])) % 256 ∷ place alike b (o ++ (a ∷ [])) / 256 ∷ stem ∷ l) (sym (shown_other a o x z))))
        (λ t. let z : count a x ≡ 1 = (let f : 0 + count a x ≡ 1 = rw t at e in omega arith) in
        rw t
        (wide_five (shown alike o x) (place alike b o % 256) (place alike b o / 256) stem (spot a x) (suc (length o))
        ∙ ap (λ (l : List ℕ). 20 ∷ 3 ∷ place alike b o % 256 ∷ place alike b o / 256 ∷ stem ∷ l) (shown_patch a o x p h z)
        ∙ ap (λ (v : ℕ). 20 ∷ 3 ∷ v % 256 ∷ v / 256 ∷ stem ∷ shown alike (o ++ (a ∷ [])) x) (sym (place_other b a o t))))
