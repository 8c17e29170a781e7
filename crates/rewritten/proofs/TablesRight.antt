-- The tables of src/tables.rt are what the grammar works out to, each by one test of all its entries; and a node that is looked for by them.
-- Assumes nothing.
use mathlib.Core.Path.{◌≡◌, refl, sym, ap, ◌∙◌}
use mathlib.Core.Bool.{Bool, true, cond}
use mathlib.Core.List.{List, [], ◌∷◌, map}
use Prim.Native.Nat.{ℕ, zero, suc, ◌+◌, ◌*◌, ◌/◌, ◌%◌, ◌^◌, ◌<◌, ◌≤◌}
use native.Mathlib.Nat.{zero-div, add-zero, suc-add, add-suc, zero-add, le_of_suc-le-suc, not-suc-le-zero}
use native.Mathlib.Omega.{arith}
use native.Mathlib.Decide.{dec_lt}
use lib.Dec.{T, eqb, eqb→eq, ltb, ltb→lt}
use lib.ListN.{length, get_or, get_or-eq_default, get_or-map}
use borrow.Author.Tests.{eq-eqb, ne_eqb, le-ltb}
use Rattle.tree.specs.Grammar.{Sort, places, allowed, also, among, kind_of, form_in, form_at, kinds, variants, fields_of, map_ok}
use Rattle.tree.specs.Grammar.Stage.{rewritten}
use Rattle.tree.specs.Rows.{unpacked, fields_in_of, Maps}
use Rattle.tree.specs.Answer.{Peeked}
use Rattle.tree.proofs.Table.{both, both_left, both_right, every, at, below, below_at}
use Rattle.tree.proofs.GrammarRows.{map_right, maps_at}
use Rattle.tree.proofs.Within.{map_above}
use Rattle.rewritten.specs.Pending.{sorts}
use Rattle.rewritten.specs.Steps.{Planned, coming_node}
use Rattle.rewritten.specs.Look.{Ahead}
use Rattle.rewritten.specs.Numbers.{place_numbers, plan_numbers, map_numbers, marked}
use Rattle.rewritten.proofs.RewrittenForms.{no_form_either}
use Rattle.rewritten.proofs.Frames.{first_fields}
use Rattle.rewritten.proofs.Ahead.{node_wrong, node_unfit, node_fits}

-- ---- the kinds at a place

-- the form of a kind, by the kinds at its place, as the code works it out
unfoldable pub form_from : ℕ → ℕ → ℕ → ℕ
form_from kinds p k =
    cond (eqb (kinds / 2 ^ k % 2) 0) 0
    (cond (eqb k 14) (cond (eqb p 1) 64 (cond (eqb p 2) 14 65)) (cond (ltb 18 p) (cond (ltb 33 k) (cond (ltb k 38) (k + 32) k) k) k))

form_right : ℕ → ℕ → Bool
form_right p k = both (eqb (form_from (get_or place_numbers p 0) p k) (form_at rewritten p k)) (ltb (form_at rewritten p k) 72)

entry_right : ℕ → Bool
entry_right n = form_right (n / 64) (n % 64)

places_right_lem : T (below 2112 entry_right)
unfolding entry_right form_right form_from place_numbers allowed places form_at form_in kind_of also among
places_right_lem = tt

form_right_lem : (p k : ℕ) → p < 33 → k < 64 → T (form_right p k)
unfolding entry_right
form_right_lem p k h f =
    let a : (p * 64 + k) / 64 ≡ p = omega arith in
    let b : (p * 64 + k) % 64 ≡ k = omega arith in
    rw (a, b) at (below_at entry_right 2112 places_right_lem (p * 64 + k) (omega arith))

-- past the last place, and of no kind, there is no form
no_place : (p k : ℕ) → 33 ≤ p → form_from (get_or place_numbers p 0) p k ≡ 0
unfolding form_from place_numbers
no_place p k h = rw (get_or-eq_default place_numbers 0 h, zero-div (2 ^ k)) refl

pub no_kind : (p k : ℕ) → 63 < k → 0 ≡ form_at rewritten p k
unfolding form_at
no_kind p k h = rw (le-ltb k 64 h)

form_from_lem : (p k : ℕ) → k < 64 → form_from (get_or place_numbers p 0) p k ≡ form_at rewritten p k
unfolding form_right
form_from_lem p k f = elim (dec_lt p 33) [
  | yes h ↦ eqb→eq (form_from (get_or place_numbers p 0) p k) (form_at rewritten p k) (both_left (eqb (form_from (get_or place_numbers p 0) p k) (form_at rewritten p k)) (ltb (form_at rewritten p k) 72) (form_right_lem p k h f))
  | no h ↦ no_place p k (omega arith) ∙ sym (no_form_either p k (omega arith))
]

form_low : (p k : ℕ) → form_at rewritten p k < 72
unfolding form_right
form_low p k = elim (dec_lt k 64) [
  | yes f ↦ elim (dec_lt p 33) [
    | yes h ↦ ltb→lt _ _ (both_right (eqb (form_from (get_or place_numbers p 0) p k) (form_at rewritten p k)) (ltb (form_at rewritten p k) 72) (form_right_lem p k h f))
    | no h ↦ omega (arith, no_form_either p k (omega arith))
  ]
  | no f ↦ omega (arith, no_kind p k (omega arith))
]

pub form_is : (numbers : List ℕ) (p k kinds : ℕ) → k < 64 → kinds ≡ get_or numbers p 0 → (r : ℕ) → r ≡ form_from kinds p k → numbers ≡ place_numbers → r ≡ form_at rewritten p k
form_is numbers p k _ f e r is n = is ∙ ap (λ (x : ℕ). form_from x p k) (e ∙ ap (λ (x : List ℕ). get_or x p 0) n) ∙ form_from_lem p k f

-- ---- the fields of a form

counted : ℕ → ℕ → List ℕ
counted zero i = []
counted (suc n) i = i ∷ counted n (suc i)

counted_at : (n i k : ℕ) → k < n → get_or (counted n i) k 0 ≡ i + k
unfolding counted
counted_at zero i k h = absurd (not-suc-le-zero h)
counted_at (suc n) i zero h = sym (add-zero i)
counted_at (suc n) i (suc k) h = counted_at n (suc i) k (le_of_suc-le-suc h) ∙ suc-add i k ∙ sym (add-suc i k)

agree : {A : Type 0} (f g : ℕ → A) (xs : List ℕ) (n : ℕ) → map f xs ≡ map g (counted n 0) → f 0 ≡ g 0 → (k : ℕ) → k < n → f (get_or xs k 0) ≡ g k
agree {A} f g xs n e z k h =
    sym (get_or-map f xs k 0)
    ∙ ap (λ (ys : List A). get_or ys k (f 0)) e
    ∙ ap (λ (d : A). get_or (map g (counted n 0)) k d) z
    ∙ get_or-map g (counted n 0) k 0
    ∙ ap g (counted_at n 0 k h ∙ zero-add k)

-- what is asked of a plan: that it is marked, and its sorts
abbrev Asked : Type 0
Asked = Bool × List Sort

plan_is : ℕ → Asked
plan_is x = (marked (fields_in_of x), sorts (fields_in_of x))

plan_of : ℕ → Asked
plan_of f = (true, sorts (fields_of f))

plans_right : map plan_is plan_numbers ≡ map plan_of (counted 72 0)
unfolding plan_is plan_of counted plan_numbers marked sorts unpacked fields_of kinds variants
plans_right = refl

none_alike : plan_is 0 ≡ plan_of 0
unfolding plan_is plan_of marked sorts unpacked fields_of kinds
none_alike = refl

plan_marked : (f : ℕ) → f < 72 → marked (fields_in_of (get_or plan_numbers f 0)) ≡ true
unfolding plan_is plan_of
plan_marked f h = ap (λ (x : Asked). x.0) (agree plan_is plan_of plan_numbers 72 plans_right none_alike f h)

plan_sorts : (f : ℕ) → f < 72 → sorts (fields_in_of (get_or plan_numbers f 0)) ≡ sorts (fields_of f)
unfolding plan_is plan_of
plan_sorts f h = ap (λ (x : Asked). x.1) (agree plan_is plan_of plan_numbers 72 plans_right none_alike f h)

-- ---- the bit maps of a form

maps_right : ℕ → ℕ → Bool
maps_right f r = below 64 (map_right (fields_of f) r)

maps_right_lem : T (every maps_right 0 map_numbers)
unfolding maps_right map_numbers map_right fields_of kinds variants map_ok
maps_right_lem = tt

map_right_lem : (f : ℕ) → f < 72 → Maps f (get_or map_numbers f 0)
unfolding maps_right map_numbers
map_right_lem f h = maps_at f (fields_of f) (get_or map_numbers f 0) refl (at maps_right map_numbers maps_right_lem f h)

-- ---- a node

module _ (l : List ℕ) (p at kind : ℕ) (look : Peeked l at kind) where
  pub no_such_kind : 63 < kind → (rest : ℕ) → Ahead l at rest (λ fs deep. coming_node l fs p at deep rest) 0
  no_such_kind h = node_wrong l at p kind 0 look (no_kind p kind h) refl

  module _ (form : ℕ) (found : form ≡ form_at rewritten p kind) (stands : form ≡ 0 → ⊥) (m : ℕ) (next : Peeked l (at + 1) m) where
    low : form < 72
    low = rw found (form_low p kind)

    row : ℕ
    row = get_or plan_numbers form 0

    rowed : sorts (fields_in_of row) ≡ sorts (fields_of form)
    unfolding row
    rowed = plan_sorts form low

    pub map_too_high : 63 < m → (rest : ℕ) → Ahead l at rest (λ fs deep. coming_node l fs p at deep rest) 0
    map_too_high h = node_unfit l at p kind form look found stands m row next rowed (sym (map_above form m h))

    module _ (small : m < 64) (numbers : List ℕ) (n : numbers ≡ map_numbers) (maps : ℕ) (is : maps ≡ get_or numbers form 0) where
      fit : eqb (maps / 2 ^ m % 2) 1 ≡ map_ok (fields_of form) m
      fit = rw (is, n) ((map_right_lem form low).fits m small)

      pub map_unfit : maps / 2 ^ m % 2 ≡ 0 → (rest : ℕ) → Ahead l at rest (λ fs deep. coming_node l fs p at deep rest) 0
      map_unfit z = node_unfit l at p kind form look found stands m row next rowed (sym fit ∙ ne_eqb (maps / 2 ^ m % 2) 1 (λ e. absurd (omega arith)))

      pub map_fits : (maps / 2 ^ m % 2 ≡ 0 → ⊥) → (plans : List ℕ) → plans ≡ plan_numbers → (plan : ℕ) → plan ≡ get_or plans form 0 → (r : ℕ) → (marked (fields_in_of plan) ≡ true → Planned plan m r) → (rest : ℕ) → Ahead l at rest (λ fs deep. coming_node l fs p at deep rest) (1 + 16 * r)
      unfolding row
      map_fits b plans e plan v r made =
          let w : plan ≡ row = v ∙ ap (λ (x : List ℕ). get_or x form 0) e in
          node_fits l at p kind form look found stands m row next rowed (sym fit ∙ eq-eqb (maps / 2 ^ m % 2) 1 (omega arith)) r (rw w at made (plan_marked form low))

    -- a form and a bit map that are known: the map fits, and the first fields of the plan are a known number
    pub leaf_fits : (f b k r : ℕ) → form ≡ f → m ≡ b → b < 64 → b + 1 ≡ 2 ^ k → get_or map_numbers f 0 / 2 ^ b % 2 ≡ 1 → get_or plan_numbers f 0 % 2 ^ (10 * k) ≡ r → (rest : ℕ) → Ahead l at rest (λ fs deep. coming_node l fs p at deep rest) (1 + 16 * r)
    leaf_fits f b k r here there small firsts stand are =
        let bit : get_or map_numbers form 0 / 2 ^ m % 2 ≡ 1 = rw (here, there) stand in
        let made : get_or plan_numbers form 0 % 2 ^ (10 * k) ≡ r = rw here are in
        map_fits (omega arith) map_numbers refl (get_or map_numbers form 0) refl (λ z. absurd (omega arith)) plan_numbers refl (get_or plan_numbers form 0) refl r
        (λ t. rw made at (first_fields k (get_or plan_numbers form 0) m t (omega arith)))

-- both bytes of a node stand, if the second was found
pub both_stand : (l : List ℕ) (at m : ℕ) → Peeked l (at + 1) m → m < 64 → at + 2 ≤ length l
both_stand l at m next small = let i : at + 1 < length l = next.within (omega arith) in omega arith
