-- The code's table of kinds is what the grammar works out to, at each of its entries: antt computes them.
-- Assumes nothing.
use Rattle.std.proofs.Common.{◌≡◌, ℕ, zero, suc, ◌<◌, ◌≤◌, List, [], ◌∷◌, length, get_or, sym, refl, ap, ◌∙◌, arith}
use mathlib.Core.List.{map}
use Rattle.std.specs.List.{range_with_len}
use Rattle.std.proofs.lemmas.List.FromFn.{get_or-map-range_with_len}
use native.Mathlib.Decide.{dec_lt}
use lib.ListN.{get_or-eq_default}
use Rattle.std.proofs.lemmas.List.{get_or-map}
use Rattle.tree.specs.Grammar.{form_at, fields_of, kinds, variants, places, allowed, form_in, kind_of}
use Rattle.tree.proofs.GrammarRows.{no_form}
use Rattle.drawing.specs.declared.kinds.Place.{Place}
use Rattle.drawing.specs.Draw.{rising, kinds_from, shortest, least_kind, least_of, kind_bytes, form_bytes, sort_bytes, bytes_within, better_from, unknowns}

unfoldable pub kinds_told : List (List ℕ)
kinds_told = (1 ∷ []) ∷ (2 ∷ 3 ∷ 4 ∷ 6 ∷ 7 ∷ 8 ∷ 9 ∷ 11 ∷ 12 ∷ 13 ∷ 14 ∷ 43 ∷ []) ∷ (2 ∷ 3 ∷ 4 ∷ 6 ∷ 7 ∷ 8 ∷ 9 ∷ 11 ∷ 12 ∷ 13 ∷ 14 ∷ 17 ∷ 18 ∷ 22 ∷ 23 ∷ 24 ∷ 26 ∷ 27 ∷ 28 ∷ 29 ∷ 30 ∷ 31 ∷ 32 ∷ 33 ∷ 40 ∷ 43 ∷ []) ∷ (14 ∷ 17 ∷ 18 ∷ 22 ∷ 23 ∷ 24 ∷ 27 ∷ 28 ∷ 29 ∷ 30 ∷ 31 ∷ 32 ∷ 33 ∷ 40 ∷ []) ∷ (5 ∷ []) ∷ (2 ∷ []) ∷ (10 ∷ []) ∷ (15 ∷ []) ∷ (16 ∷ []) ∷ (14 ∷ 16 ∷ 17 ∷ 18 ∷ 22 ∷ 23 ∷ 24 ∷ 27 ∷ 28 ∷ 29 ∷ 30 ∷ 31 ∷ 32 ∷ 33 ∷ 40 ∷ []) ∷ (22 ∷ []) ∷ (14 ∷ 17 ∷ 18 ∷ 22 ∷ 23 ∷ 24 ∷ 27 ∷ 28 ∷ 29 ∷ 30 ∷ 31 ∷ 32 ∷ 33 ∷ 38 ∷ 39 ∷ 40 ∷ []) ∷ (25 ∷ 26 ∷ []) ∷ (14 ∷ 17 ∷ 18 ∷ 22 ∷ 23 ∷ 24 ∷ 26 ∷ 27 ∷ 28 ∷ 29 ∷ 30 ∷ 31 ∷ 32 ∷ 33 ∷ 40 ∷ []) ∷ (4 ∷ 14 ∷ 17 ∷ 18 ∷ 22 ∷ 23 ∷ 24 ∷ 27 ∷ 28 ∷ 29 ∷ 30 ∷ 31 ∷ 32 ∷ 33 ∷ 40 ∷ []) ∷ (19 ∷ 34 ∷ 36 ∷ []) ∷ (19 ∷ []) ∷ (35 ∷ []) ∷ (19 ∷ 34 ∷ 36 ∷ 37 ∷ []) ∷ (18 ∷ 30 ∷ 31 ∷ 33 ∷ 34 ∷ 36 ∷ []) ∷ (18 ∷ 30 ∷ 31 ∷ 33 ∷ []) ∷ (4 ∷ 18 ∷ 30 ∷ 31 ∷ 33 ∷ 34 ∷ 36 ∷ []) ∷ (35 ∷ []) ∷ (18 ∷ 30 ∷ 31 ∷ 33 ∷ 34 ∷ 36 ∷ 37 ∷ []) ∷ (41 ∷ 42 ∷ []) ∷ (44 ∷ []) ∷ []

unfoldable pub least : List ℕ
least = 1 ∷ 11 ∷ 11 ∷ 23 ∷ 5 ∷ 2 ∷ 10 ∷ 15 ∷ 16 ∷ 16 ∷ 22 ∷ 23 ∷ 26 ∷ 23 ∷ 23 ∷ 34 ∷ 19 ∷ 35 ∷ 34 ∷ 34 ∷ 18 ∷ 34 ∷ 35 ∷ 34 ∷ 42 ∷ 44 ∷ []

-- ---- past the last place

no_kinds_from : (p n k : ℕ) → 26 ≤ p → kinds_from p n k ≡ []
unfolding kinds_from
no_kinds_from p zero k h = refl
no_kinds_from p (suc n) k h = rw (no_form p k h) (no_kinds_from p n (suc k) h)

pub no_rising : (p : ℕ) → 26 ≤ p → rising p ≡ []
unfolding rising
no_rising p h = no_kinds_from p 64 0 h

pub no_shortest : (p : ℕ) → 26 ≤ p → 0 ≡ shortest p
unfolding shortest least_kind least_of
no_shortest p h = rw (no_rising p h)

-- ---- the entries

kinds_are : map rising (range_with_len 0 26) ≡ kinds_told
unfolding kinds_told rising kinds_from form_at form_in allowed places kind_of
kinds_are = refl

least_are : map shortest (range_with_len 0 26) ≡ least
unfolding least shortest least_kind least_of kind_bytes form_bytes sort_bytes bytes_within better_from unknowns rising kinds_from form_at fields_of kinds variants form_in allowed places kind_of
least_are = refl

kinds_within : (p : ℕ) → p < 26 → get_or kinds_told p [] ≡ rising p
kinds_within p h = ap (λ (l : List (List ℕ)). get_or l p []) (sym kinds_are) ∙ get_or-map-range_with_len rising 0 26 p p [] h (omega arith)

least_within : (p : ℕ) → p < 26 → get_or least p 0 ≡ shortest p
least_within p h = ap (λ (l : List ℕ). get_or l p 0) (sym least_are) ∙ get_or-map-range_with_len shortest 0 26 p p 0 h (omega arith)

-- none past the last place
pub kinds_at : (p : ℕ) → get_or kinds_told p [] ≡ rising p
unfolding kinds_told
kinds_at p = elim (dec_lt p 26) [
  | yes g ↦ kinds_within p g
  | no g ↦ get_or-eq_default kinds_told [] {n = p} (omega arith) ∙ sym (no_rising p (omega arith))
]

pub least_at : (p : ℕ) → get_or least p 0 ≡ shortest p
unfolding least
least_at p = elim (dec_lt p 26) [
  | yes g ↦ least_within p g
  | no g ↦ get_or-eq_default least 0 {n = p} (omega arith) ∙ no_shortest p (omega arith)
]

pub count_at : (p : ℕ) → length (get_or kinds_told p []) ≡ length (rising p)
count_at p = ap length (kinds_at p)

-- the i-th kind of a place
pub kind_at : (p i : ℕ) → get_or (get_or kinds_told p []) i 0 ≡ get_or (rising p) i 0
kind_at p i = ap (λ (l : List ℕ). get_or l i 0) (kinds_at p)

-- an entry of the code's table is right, wherever its kinds stand in memory
pub entry_at : (xs : List Place) (p : ℕ) (d : Place) → map (λ (e : Place). e.kinds.now) xs ≡ kinds_told → map (λ (e : Place). e.shortest) xs ≡ least → length xs ≡ 26 → p < 26 → ((get_or xs p d).kinds.now ≡ rising p) × ((get_or xs p d).shortest ≡ shortest p)
entry_at xs p d k s n h = (
  sym (get_or-map (λ (e : Place). e.kinds.now) xs p d [] (omega (arith, n, h))) ∙ ap (λ (l : List (List ℕ)). get_or l p []) k ∙ kinds_at p,
  sym (get_or-map (λ (e : Place). e.shortest) xs p d 0 (omega (arith, n, h))) ∙ ap (λ (l : List ℕ). get_or l p 0) s ∙ least_at p,
)

-- ---- three levels are enough for the shortest: a fourth changes no place's bytes

pub enough : better_from (bytes_within 3) places 0 ≡ bytes_within 3
unfolding kind_bytes form_bytes sort_bytes bytes_within better_from unknowns least_kind least_of rising kinds_from form_at fields_of kinds variants form_in allowed places kind_of
enough = refl

one_more : (t : List ℕ) → t ≡ bytes_within 3 → better_from t places 0 ≡ bytes_within 3
one_more t e = rw e enough

pub any_more : (n : ℕ) → bytes_within (suc (suc (suc n))) ≡ bytes_within 3
unfolding bytes_within
any_more zero = refl
any_more (suc n) = one_more (bytes_within (suc (suc (suc n)))) (any_more n)
