-- Of a node that the reader accepts, what stands at its position is that node, and it ends where the reader says.
-- Assumes nothing.
use mathlib.Core.Path.{◌≡◌, refl, sym, ap, ◌∙◌}
use mathlib.Core.Bool.{Bool, true, false, cond}
use mathlib.Core.List.{List, [], ◌∷◌}
use mathlib.Core.Option.{map}
use Prim.Native.Nat.{ℕ, zero, suc, ◌+◌, ◌-◌, ◌/◌, ◌%◌, ◌<◌, ◌≤◌}
use native.Mathlib.Nat.{not-suc-le-zero}
use native.Mathlib.Omega.{arith}
use native.Mathlib.Decide.{dec_lt}
use lib.Dec.{leb, ltb, eqb}
use lib.ListN.{length, get_or, take, drop}
use borrow.Author.Tests.{lt-ltb, le-ltb, lt-leb, le-leb, eqb-true}
use Rattle.tree.specs.Tree.{Node, Fields, Piece}
use Rattle.tree.specs.Tree.Fields.{field}
use Rattle.tree.specs.Tree.Piece.{one, list, text}
use Rattle.tree.specs.Grammar.{Sort, Field, Stage, root, kind_of, allowed, form_in, form_at, kinds, variants, fields_of}
use Rattle.tree.specs.Grammar.Sort.{child, chosen, many, gaps, byte, mark, number}
use Rattle.tree.specs.Grammar.Field.{must}
use Rattle.tree.specs.Read.{Got, sort_in, byte_at, wide_at, read_node, read_tree, whole, longest}
use Rattle.tree.specs.Read.Got.{got, refused}
use Rattle.tree.specs.Look.{Seen, seen, seen_as, seen_both, onward, look_items, look_field, look_slot, look_fields, piece_in, if_stands, seek_fields}
use Rattle.tree.proofs.HoldsOfRead.{Holds, holds, of_accepted}
use Rattle.tree.proofs.Within.{there}
use Rattle.tree.proofs.Skipping.{step_fits}

-- ---- forms of one kind are laid out alike

-- what a field is, places and bounds aside
abbrev pub layout : Sort → ℕ
layout (child p) = 0
layout (chosen p q) = 0
layout (many p) = 1
layout (gaps p) = 2
layout Sort.text = 3
layout (byte a b) = 4
layout mark = 5
layout number = 6

abbrev pub layouts : List Field → List ℕ
layouts [] = []
layouts (f ∷ fs) = layout (sort_in f) ∷ layouts fs

variant_alike : (n : ℕ) → layouts (get_or variants n []) ≡ layouts (fields_of (get_or (14 ∷ 14 ∷ 34 ∷ 35 ∷ 36 ∷ 37 ∷ []) n 0))
unfolding fields_of kinds variants
variant_alike zero = refl
variant_alike (suc zero) = refl
variant_alike (suc (suc zero)) = refl
variant_alike (suc (suc (suc zero))) = refl
variant_alike (suc (suc (suc (suc zero)))) = refl
variant_alike (suc (suc (suc (suc (suc zero))))) = refl
variant_alike (suc (suc (suc (suc (suc (suc n)))))) = refl

-- every form is laid out as its kind
pub form_alike : (f : ℕ) → layouts (fields_of f) ≡ layouts (fields_of (kind_of f))
unfolding fields_of kind_of
form_alike f = elim (dec_lt f 64) [
  | yes h ↦ rw (lt-ltb f 64 h, lt-ltb f 64 h)
  | no h ↦ rw (le-ltb f 64 (omega arith)) (variant_alike (f - 64))
]

kind_in_lem : (fs : List ℕ) (k : ℕ) → 0 < form_in fs k → kind_of (form_in fs k) ≡ k
unfolding form_in
kind_in_lem [] k h = absurd (not-suc-le-zero h)
kind_in_lem (f ∷ fs) k h = go (eqb (kind_of f) k) refl h (λ z. kind_in_lem fs k z)
  where
    go : (b : Bool) → eqb (kind_of f) k ≡ b → 0 < cond b f (form_in fs k) → (0 < form_in fs k → kind_of (form_in fs k) ≡ k) → kind_of (cond b f (form_in fs k)) ≡ k
    go true e z r = eqb-true (kind_of f) k e
    go false e z r = r z

-- the form of a kind at a place is a form of that kind
pub kind_at : (stage : Stage) (p k : ℕ) → 0 < form_at stage p k → kind_of (form_at stage p k) ≡ k
unfolding form_at
kind_at stage p k h = go (ltb k 64) h
  where
    go : (b : Bool) → 0 < cond b (form_in (allowed stage p) k) 0 → kind_of (cond b (form_in (allowed stage p) k) 0) ≡ k
    go true z = kind_in_lem (allowed stage p) k z
    go false z = absurd (not-suc-le-zero z)

module _ (l : List ℕ) where
  pub on_fits : (at n : ℕ) → at + n ≤ length l → onward l at n ≡ at + n
  on_fits at n h = sym (step_fits l at n (omega arith) (omega arith))

  -- no position that is computed is behind the bytes
  pub on_within : (at n : ℕ) → onward l at n ≤ length l
  unfolding onward
  on_within at n = elim (dec_lt (length l) (at + n)) [
    | yes h ↦ rw (lt-leb (at + n) (length l) h) (omega arith)
    | no h ↦ rw (le-leb (at + n) (length l) (omega arith)) (omega arith)
  ]

  pub on_byte : (at : ℕ) → byte_at l at < 256 → onward l at 1 ≡ at + 1
  on_byte at h = let i : at < length l = there l at h in on_fits at 1 (omega arith)

  pub on_wide : (at : ℕ) → byte_at l (at + 1) < 256 → onward l at 2 ≡ at + 2
  on_wide at h = let i : at + 1 < length l = there l (at + 1) h in on_fits at 2 (omega arith)

  -- ---- lists of fields that are laid out alike are read alike

  module _ (R : ℕ → Seen Node) where
    by_layout : ℕ → ℕ → Seen Piece
    by_layout n at =
        get_or
        (seen_as one (R at)
        ∷ seen_as list (look_items l R false (wide_at l at) (onward l at 2))
        ∷ seen_as list (look_items l R true (wide_at l at) (onward l at 2))
        ∷ seen (text (take (wide_at l at) (drop (at + 2) l))) (onward l at (2 + wide_at l at))
        ∷ seen (Piece.byte (byte_at l at)) (onward l at 1)
        ∷ seen (Piece.mark (wide_at l at)) (onward l at 2)
        ∷ [])
        n (seen (Piece.number (wide_at l at)) (onward l at 2))

    field_layout : (s : Sort) (at : ℕ) → look_field l R s at ≡ by_layout (layout s) at
    unfolding look_field by_layout
    field_layout (child p) at = refl
    field_layout (chosen p q) at = refl
    field_layout (many p) at = refl
    field_layout (gaps p) at = refl
    field_layout Sort.text at = refl
    field_layout (byte a b) at = refl
    field_layout mark at = refl
    field_layout number at = refl

    pub slot_alike : (s t : Sort) (bit at : ℕ) → layout s ≡ layout t → look_slot l R s bit at ≡ look_slot l R t bit at
    unfolding look_slot
    slot_alike s t zero at e = refl
    slot_alike s t (suc bit) at e = ap (seen_as (λ p fs. field p fs)) (field_layout s at ∙ ap (λ (n : ℕ). by_layout n at) e ∙ sym (field_layout t at))

    pub fields_alike : (fs gs : List Field) (m at : ℕ) → layouts fs ≡ layouts gs → look_fields l R fs m at ≡ look_fields l R gs m at
    unfolding look_fields
    fields_alike [] [] m at e = refl
    fields_alike [] (g ∷ gs) m at e = let z : ◌≡◌ {A = ℕ} 0 1 = cc in absurd (omega arith)
    fields_alike (f ∷ fs) [] m at e = let z : ◌≡◌ {A = ℕ} 0 1 = cc in absurd (omega arith)
    fields_alike (f ∷ fs) (g ∷ gs) m at e =
        let s : look_slot l R (sort_in f) (m % 2) at ≡ look_slot l R (sort_in g) (m % 2) at = slot_alike (sort_in f) (sort_in g) (m % 2) at (cc) in
        let q : ℕ = (look_slot l R (sort_in g) (m % 2) at).next in
        ap (λ (x : Seen (Fields → Fields)). seen_both (λ add gs. add gs) x (λ q. look_fields l R fs (m / 2) q)) s
        ∙ ap (seen_as (look_slot l R (sort_in g) (m % 2) at).value) (fields_alike fs gs (m / 2) q (cc))

  -- ---- the whole input

  whole_node : (g : Got Node) → Holds (λ n q j. (g ≡ got n q j) × (q ≡ length l)) (whole l g)
  whole_node (got n q j) = of_accepted (λ m z i. (got n q j ≡ got m z i) × (z ≡ length l)) (eqb q (length l)) (got n q j) (λ t. (refl, eqb-true q (length l) t))
  whole_node (refused n) = tt

  -- a tree is a node that takes all of the bytes
  pub tree_node : (stage : Stage) (d : ℕ) (n : Node) (q j : ℕ) → read_tree stage d l ≡ got n q j → (read_node l stage d root 0 1 ≡ got n q j) × (q ≡ length l)
  unfolding read_tree
  tree_node stage d n q j e =
      let g : Got Node = read_node l stage d root 0 1 in
      holds (λ n q j. (g ≡ got n q j) × (q ≡ length l)) (read_tree stage d l) n q j (of_accepted (λ n q j. (g ≡ got n q j) × (q ≡ length l)) (leb (length l) (longest stage)) (whole l g) (λ _. whole_node g)) e

-- ---- a field of the node that stands there

-- what field i of the fields holds
abbrev pub sort_at : List Field → ℕ → Sort
sort_at fs i = sort_in (get_or fs i (must number))

module _ (l : List ℕ) (r : ℕ → Seen Node) where
  first_piece : (s : Sort) (bit at : ℕ) (gs : Fields) → piece_in ((look_slot l r s bit at).value gs) 0 ≡ map (λ q. (look_field l r s q).value) (if_stands bit at)
  unfolding look_slot piece_in
  first_piece s zero at gs = refl
  first_piece s (suc bit) at gs = refl

  later_piece : (s : Sort) (bit at i : ℕ) (gs : Fields) → piece_in ((look_slot l r s bit at).value gs) (suc i) ≡ piece_in gs i
  unfolding look_slot piece_in
  later_piece s zero at i gs = refl
  later_piece s (suc bit) at i gs = refl

  -- the law: field i is what stands where the search finds it
  pub piece_law : (fs : List Field) (m at i : ℕ) → piece_in (look_fields l r fs m at).value i ≡ map (λ q. (look_field l r (sort_at fs i) q).value) (seek_fields l r fs m at i)
  unfolding look_fields seek_fields piece_in
  piece_law [] m at i = refl
  piece_law (f ∷ fs) m at zero = first_piece (sort_in f) (m % 2) at _
  piece_law (f ∷ fs) m at (suc i) = later_piece (sort_in f) (m % 2) at i _ ∙ piece_law fs (m / 2) (look_slot l r (sort_in f) (m % 2) at).next i
