-- What the laws ask of the grammar, as tests over all places and forms that antt computes.
use Rattle.std.proofs.Common.{◌≡◌, ℕ, zero, suc, ◌+◌, ◌-◌, ◌%◌, ◌<◌, ◌≤◌, Bool, true, false, cond, ◌||◌, T, ltb, leb, List, [], ◌∷◌, length, get_or, refl, mod-lt, arith, ltb→lt, leb→le, ltb-true}
use Rattle.tree.specs.Grammar.{Sort, Field, form_at, fields_of, kinds, variants, places, allowed, form_in, kind_of}
use Rattle.tree.specs.Grammar.Sort.{child, chosen, many, gaps, text, byte, mark, number}
use Rattle.tree.specs.Grammar.Field.{must, may}
use Rattle.tree.specs.Grammar.Stage.{input}
use Rattle.tree.specs.Read.{sort_in}
use Rattle.tree.proofs.Table.{both, both_left, both_right, below, below_at}
use Rattle.drawing.specs.Xorshift.{step}
use Rattle.drawing.specs.Draw.{rising, kinds_from, shortest, least_kind, least_of, kind_bytes, form_bytes, sort_bytes, bytes_within, better_from, unknowns, ends, kind_at}

-- the places of the nodes that are drawn in a field pass; where it is deep, only of those that must stand
unfoldable pub sort_asks : Bool → (ℕ → Bool) → Sort → Bool
sort_asks deep ok (child p) = ok p
sort_asks deep ok (chosen p q) = both (ok p) (ok q)
sort_asks deep ok (many p) = deep || ok p
sort_asks deep ok (gaps p) = deep || ok p
sort_asks deep ok text = true
sort_asks deep ok (byte low high) = both (leb low high) (ltb high 256)
sort_asks deep ok mark = true
sort_asks deep ok number = true

unfoldable pub asks : Bool → (ℕ → Bool) → List Field → Bool
asks deep ok [] = true
asks deep ok (must t ∷ fs) = both (sort_asks deep ok t) (asks deep ok fs)
asks deep ok (may t ∷ fs) = both (deep || sort_asks deep ok t) (asks deep ok fs)

-- ---- how much is drawn where nothing more is to be begun

-- the most nodes at each place
unfoldable pub ahead : List ℕ
ahead = 1 ∷ 1 ∷ 1 ∷ 1 ∷ 2 ∷ 1 ∷ 2 ∷ 2 ∷ 1 ∷ 1 ∷ 1 ∷ 1 ∷ 2 ∷ 1 ∷ 1 ∷ 1 ∷ 1 ∷ 3 ∷ 1 ∷ 1 ∷ 1 ∷ 1 ∷ 3 ∷ 1 ∷ 1 ∷ 1 ∷ []

unfoldable pub few : ℕ → ℕ
few p = get_or ahead p 3

-- and below the fields that must stand
unfoldable pub late_sort : Sort → ℕ
late_sort (child p) = few p
late_sort (chosen p q) = few p + few q
late_sort (many p) = 0
late_sort (gaps p) = 0
late_sort text = 0
late_sort (byte low high) = 0
late_sort mark = 0
late_sort number = 0

unfoldable pub late : List Field → ℕ
late [] = 0
late (must t ∷ fs) = late_sort t + late fs
late (may t ∷ fs) = late fs

-- the bytes of fields without those of the nodes below them
unfoldable pub own_sort : Sort → ℕ
own_sort (child p) = 0
own_sort (chosen p q) = 0
own_sort (many p) = 2
own_sort (gaps p) = 2
own_sort text = 3
own_sort (byte low high) = 1
own_sort mark = 2
own_sort number = 2

unfoldable pub own : List Field → ℕ
own [] = 0
own (f ∷ fs) = own_sort (sort_in f) + own fs

-- ---- places

unfoldable pub valid : ℕ → Bool
valid p = ltb p (length places)

-- the kind that stands at a place from depth 12 on
unfoldable pub low_kind : ℕ → ℕ
low_kind p = kind_at true p 0 0

unfoldable pub low_fields : ℕ → List Field
low_fields p = fields_of (form_at input p (low_kind p))

-- no node must stand below the shortest
unfoldable pub ready : ℕ → Bool
ready p = both (valid p) (asks true (λ q. false) (low_fields p))

unfoldable pub place_right : ℕ → Bool
place_right p =
    both (ltb 0 (length (rising p)))
    (both (ltb 0 (form_at input p (shortest p))) (both (asks true ready (low_fields p)) (both (ltb (late (low_fields p)) (few p)) (leb (few p) 3))))

unfoldable pub places_right : Bool
places_right = below (length places) place_right

places_right_lem : T places_right
unfolding places_right place_right late late_sort few ahead ready low_fields low_kind valid asks sort_asks kind_at ends rising kinds_from shortest least_kind least_of kind_bytes form_bytes sort_bytes bytes_within better_from unknowns form_at fields_of kinds variants places allowed form_in kind_of
places_right_lem = tt

place_right_lem : (p : ℕ) → T (valid p) → T (place_right p)
unfolding places_right valid
place_right_lem p v = below_at place_right (length places) places_right_lem p (ltb→lt p (length places) v)

-- ---- forms

unfoldable pub form_ok : List Field → Bool
form_ok fs = both (asks false valid fs) (both (leb (late fs) 3) (leb (own fs) 7))

unfoldable pub forms_right : List (List Field) → Bool
forms_right [] = true
forms_right (fs ∷ rest) = both (form_ok fs) (forms_right rest)

form_right_lem : (l : List (List Field)) → T (forms_right l) → (i : ℕ) → T (form_ok (get_or l i []))
unfolding forms_right form_ok asks late own
form_right_lem [] t i = tt
form_right_lem (fs ∷ rest) t zero = both_left (form_ok fs) (forms_right rest) t
form_right_lem (fs ∷ rest) t (suc i) = form_right_lem rest (both_right (form_ok fs) (forms_right rest) t) i

kinds_right : T (forms_right kinds)
unfolding forms_right form_ok asks sort_asks late late_sort own own_sort few ahead valid kinds places
kinds_right = tt

variants_right : T (forms_right variants)
unfolding forms_right form_ok asks sort_asks late late_sort own own_sort few ahead valid variants places
variants_right = tt

form_ok_lem : (f : ℕ) → T (form_ok (fields_of f))
unfolding fields_of
form_ok_lem f = go (ltb f 64)
  where
    go : (c : Bool) → T (form_ok (cond c (get_or kinds f []) (get_or variants (f - 64) [])))
    go true = form_right_lem kinds kinds_right f
    go false = form_right_lem variants variants_right (f - 64)

pub fields_right : (f : ℕ) → T (asks false valid (fields_of f))
unfolding form_ok
fields_right f = both_left (asks false valid (fields_of f)) (both (leb (late (fields_of f)) 3) (leb (own (fields_of f)) 7)) (form_ok_lem f)

pub late_small : (f : ℕ) → late (fields_of f) ≤ 3
unfolding form_ok
late_small f = leb→le _ _ (both_left (leb (late (fields_of f)) 3) (leb (own (fields_of f)) 7) (both_right (asks false valid (fields_of f)) (both (leb (late (fields_of f)) 3) (leb (own (fields_of f)) 7)) (form_ok_lem f)))

pub own_small : (f : ℕ) → own (fields_of f) ≤ 7
unfolding form_ok
own_small f = leb→le _ _ (both_right (leb (late (fields_of f)) 3) (leb (own (fields_of f)) 7) (both_right (asks false valid (fields_of f)) (both (leb (late (fields_of f)) 3) (leb (own (fields_of f)) 7)) (form_ok_lem f)))

-- ---- the kind that is drawn may stand there

module _ (p : ℕ) where
  stands_from : (n k i : ℕ) → i < length (kinds_from p n k) → 0 < form_at input p (get_or (kinds_from p n k) i 0)
  unfolding kinds_from
  stands_from zero k i h = absurd (omega (arith, h))
  stands_from (suc n) k i h = go (λ j g. stands_from n (suc k) j g) (ltb 0 (form_at input p k)) refl i h
    where
      go : ((j : ℕ) → j < length (kinds_from p n (suc k)) → 0 < form_at input p (get_or (kinds_from p n (suc k)) j 0))
          → (c : Bool) → ltb 0 (form_at input p k) ≡ c → (i : ℕ) → i < length (cond c (k ∷ kinds_from p n (suc k)) (kinds_from p n (suc k)))
          → 0 < form_at input p (get_or (cond c (k ∷ kinds_from p n (suc k)) (kinds_from p n (suc k))) i 0)
      go ih true e zero g = ltb-true 0 (form_at input p k) e
      go ih true e (suc i) g = ih i (omega (arith, g))
      go ih false e i g = ih i g

  stands_in_lem : (i : ℕ) → i < length (rising p) → 0 < form_at input p (get_or (rising p) i 0)
  unfolding rising
  stands_in_lem i h = stands_from 64 0 i h

  module _ (v : T (valid p)) where
    some_kind : 0 < length (rising p)
    unfolding place_right
    some_kind = ltb→lt 0 (length (rising p)) (both_left (ltb 0 (length (rising p))) (both (ltb 0 (form_at input p (shortest p))) (both (asks true ready (low_fields p)) (both (ltb (late (low_fields p)) (few p)) (leb (few p) 3)))) (place_right_lem p v))

    shortest_stands : 0 < form_at input p (shortest p)
    unfolding place_right
    shortest_stands = ltb→lt 0 (form_at input p (shortest p)) (both_left (ltb 0 (form_at input p (shortest p))) (both (asks true ready (low_fields p)) (both (ltb (late (low_fields p)) (few p)) (leb (few p) 3))) (both_right (ltb 0 (length (rising p))) (both (ltb 0 (form_at input p (shortest p))) (both (asks true ready (low_fields p)) (both (ltb (late (low_fields p)) (few p)) (leb (few p) 3)))) (place_right_lem p v)))

    pub low_right_lem : T (asks true ready (low_fields p))
    unfolding place_right
    low_right_lem = both_left (asks true ready (low_fields p)) (both (ltb (late (low_fields p)) (few p)) (leb (few p) 3)) (both_right (ltb 0 (form_at input p (shortest p))) (both (asks true ready (low_fields p)) (both (ltb (late (low_fields p)) (few p)) (leb (few p) 3))) (both_right (ltb 0 (length (rising p))) (both (ltb 0 (form_at input p (shortest p))) (both (asks true ready (low_fields p)) (both (ltb (late (low_fields p)) (few p)) (leb (few p) 3)))) (place_right_lem p v)))

    pub low_late : late (low_fields p) < few p
    unfolding place_right
    low_late = ltb→lt _ _ (both_left (ltb (late (low_fields p)) (few p)) (leb (few p) 3) (both_right (asks true ready (low_fields p)) (both (ltb (late (low_fields p)) (few p)) (leb (few p) 3)) (both_right (ltb 0 (form_at input p (shortest p))) (both (asks true ready (low_fields p)) (both (ltb (late (low_fields p)) (few p)) (leb (few p) 3))) (both_right (ltb 0 (length (rising p))) (both (ltb 0 (form_at input p (shortest p))) (both (asks true ready (low_fields p)) (both (ltb (late (low_fields p)) (few p)) (leb (few p) 3)))) (place_right_lem p v)))))

    pub few_small : few p ≤ 3
    unfolding place_right
    few_small = leb→le _ _ (both_right (ltb (late (low_fields p)) (few p)) (leb (few p) 3) (both_right (asks true ready (low_fields p)) (both (ltb (late (low_fields p)) (few p)) (leb (few p) 3)) (both_right (ltb 0 (form_at input p (shortest p))) (both (asks true ready (low_fields p)) (both (ltb (late (low_fields p)) (few p)) (leb (few p) 3))) (both_right (ltb 0 (length (rising p))) (both (ltb 0 (form_at input p (shortest p))) (both (asks true ready (low_fields p)) (both (ltb (late (low_fields p)) (few p)) (leb (few p) 3)))) (place_right_lem p v)))))

    pub kind_stands : (deep : Bool) (s b : ℕ) → 0 < form_at input p (kind_at deep p s b)
    unfolding kind_at
    kind_stands deep s b = go (leb (length (rising p)) 1) (ends deep b) (step s)
      where
        go : (c e : Bool) (n : ℕ) → 0 < form_at input p (cond c (get_or (rising p) 0 0) (cond e (shortest p) (get_or (rising p) (n % length (rising p)) 0)))
        go true e n = stands_in_lem 0 some_kind
        go false true n = shortest_stands
        go false false n = stands_in_lem (n % length (rising p)) (mod-lt n some_kind)

pub kind_low : (p s b : ℕ) → kind_at true p s b ≡ low_kind p
unfolding low_kind kind_at ends
kind_low p s b = refl

-- once all nodes are begun it is the same kind
pub kind_cut : (deep : Bool) (p s : ℕ) → kind_at deep p s 0 ≡ low_kind p
unfolding low_kind kind_at ends
kind_cut true p s = refl
kind_cut false p s = refl
