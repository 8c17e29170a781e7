-- The table of places gives what the list of numbers gives.
-- Assumes nothing.
use mathlib.Core.Path.{◌≡◌, sym, ap, ◌∙◌}
use mathlib.Core.Bool.{Bool, true, false, cond}
use mathlib.Core.List.{List, [], ◌∷◌}
use Prim.Native.Nat.{ℕ, suc, ◌+◌, ◌<◌, ◌≤◌}
use native.Mathlib.Omega.{arith}
use lib.Dec.{eqb}
use lib.ListN.{length, get_or, set, length-set}
use lib.Seq.{get_or-set_same, get_or-set_other}
use borrow.Author.Tests.{eq-eqb, ne_eqb}
use Rattle.rewritten.proofs.Marks.{by_same}
use Rattle.equal.specs.Met.{place_in, meet, place}
use Rattle.ordering.specs.Places.{Knows, PlacedAs}
use Rattle.ordering.specs.declared.place.Placed.{Placed}

-- ---- a number that is placed

pub knows_none : (table : List ℕ) → 65536 ≤ length table → ((x : ℕ) → get_or table x 0 ≡ 0) → Knows table []
unfolding place_in
knows_none table s z = record { size = s; at = λ x h. z x }

module _ (table numbers : List ℕ) (k : Knows table numbers) (n met : ℕ) (small : n < 65536) (counted : met ≡ length numbers) (later : List ℕ) (r : Placed) (h : PlacedAs table later met n r) where
  found : get_or table n 0 ≡ place_in numbers n
  found = k.at n small

  next : met + 1 ≡ suc (length numbers)
  next = omega arith

  pub place_is : r.place ≡ place numbers n
  unfolding place
  place_is = h.place ∙ ap (λ (x : ℕ). cond (eqb x 0) (met + 1) x) found ∙ ap (λ (x : ℕ). cond (eqb (place_in numbers n) 0) x (place_in numbers n)) next

  pub count_is : r.met ≡ length (meet numbers n)
  unfolding meet
  count_is = h.count ∙ ap (λ (x : ℕ). cond (eqb x 0) (met + 1) met) found ∙ go (eqb (place_in numbers n) 0)
    where
      go : (b : Bool) → cond b (met + 1) met ≡ length (cond b (n ∷ numbers) numbers)
      go true = omega arith
      go false = counted

  pub knows_placed : Knows later (meet numbers n)
  unfolding meet place_in
  knows_placed = rw (h.noted, found) (go (eqb (place_in numbers n) 0))
    where
      others : (x : ℕ) → x < 65536 → get_or (set table n (met + 1)) x 0 ≡ place_in (n ∷ numbers) x
      others x s =
          let z : 65536 ≤ length table = k.size in
          by_same n x
          (λ e. rw (eq-eqb n x e) (ap (λ (y : ℕ). get_or (set table n (met + 1)) y 0) (sym e) ∙ get_or-set_same table n (met + 1) 0 (omega arith) ∙ next))
          (λ d. rw (ne_eqb n x d) (get_or-set_other table n x (met + 1) 0 (λ w. d (sym w)) ∙ k.at x s))

      go : (b : Bool) → Knows (cond b (set table n (met + 1)) table) (cond b (n ∷ numbers) numbers)
      go true = record { size = let z : 65536 ≤ length table = k.size in let e : length (set table n (met + 1)) ≡ length table = length-set table n (met + 1) in omega arith; at = others }
      go false = k

  pub few_more : length (meet numbers n) ≤ suc (length numbers)
  unfolding meet
  few_more = go (eqb (place_in numbers n) 0)
    where
      go : (b : Bool) → length (cond b (n ∷ numbers) numbers) ≤ suc (length numbers)
      go true = omega arith
      go false = omega arith
