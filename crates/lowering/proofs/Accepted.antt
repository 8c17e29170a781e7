-- What the reader gives: a tree in which no two nodes are at one position, names have no parts, properties are no patterns, only arrays
-- have holes, and no mark is 0. So a position is a site once at most.
-- Assumes nothing.
use mathlib.Core.Path.{◌≡◌, refl, sym, ap, ◌∙◌, subst}
use mathlib.Core.Bool.{Bool, true, false, cond, ◌||◌, true≢false}
use mathlib.Core.List.{List, [], ◌∷◌}
use mathlib.Core.Logic.{◌⊎◌, ⊎_elim}
use mathlib.Core.Logic.◌⊎◌.{inl, inr}
use Prim.Native.Nat.{ℕ, zero, suc, ◌+◌, ◌-◌, ◌*◌, ◌/◌, ◌%◌, ◌≤◌, ◌<◌}
use native.Mathlib.Omega.{arith}
use native.Mathlib.Decide.{dec_lt}
use lib.Dec.{eqb, ltb, leb}
use lib.ListN.{length, get_or, take, drop}
use borrow.Author.Tests.{eqb-true, ltb-true, lt-ltb, le-ltb, le-leb, leb-true}
use Rattle.tree.specs.Tree.{Node, Fields, Piece, Items}
use Rattle.tree.specs.Tree.Node.{node}
use Rattle.tree.specs.Grammar.{Sort, Field, root, places, allowed, kind_of, form_in, form_at, fields_of, kinds, variants, map_ok}
use Rattle.tree.specs.Grammar.Stage.{input}
use Rattle.tree.specs.Read.{Got, mapped, accepted, sort_in, byte_at, wide_at, read_text, read_byte, read_mark, read_number, chosen_place, read_item, read_items, read_list, read_field, read_slot, read_fields, read_node, whole, read_tree}
use Rattle.tree.specs.Read.Got.{got, refused}
use Rattle.lowering.specs.Parts.{position, kind, is, piece_in, as_items_of}
use Rattle.lowering.proofs.All.{AllItems, weaker_items}
use Rattle.lowering.proofs.Cases.{by_test, or_first}
use Rattle.lowering.proofs.PlaceTests.{not_20, not_21}
use Rattle.lowering.proofs.Sites.{is_name_kind, direct, direct_piece, direct_items, here, here_items, own, sites, sites_fields, sites_piece, sites_items}
use Rattle.tree.proofs.HoldsOfRead.{Holds, holds, of_mapped, of_accepted, of_joined, weaker}
use Rattle.tree.proofs.Look.{kind_at}

-- ---- nodes at a position

module _ (x : ℕ) where
  unfoldable mutual
    pub count : Node → ℕ
    count (node at k fs) = here x at + count_fields fs

    pub count_fields : Fields → ℕ
    count_fields Fields.done = 0
    count_fields (Fields.absent fs) = count_fields fs
    count_fields (Fields.field p fs) = count_piece p + count_fields fs

    pub count_piece : Piece → ℕ
    count_piece (Piece.one n) = count n
    count_piece (Piece.list is) = count_items is
    count_piece (Piece.text bs) = 0
    count_piece (Piece.byte b) = 0
    count_piece (Piece.mark b) = 0
    count_piece (Piece.number b) = 0

    pub count_items : Items → ℕ
    count_items Items.none = 0
    count_items (Items.hole is) = count_items is
    count_items (Items.item n is) = count n + count_items is

  -- 1 if x is not before the position
  unfoldable pub on : ℕ → ℕ
  on at = cond (leb at x) 1 0

  pub on_later : (at q : ℕ) → at ≤ q → on q ≤ on at
  unfolding on
  on_later at q h = go (leb q x) refl (leb at x) refl
    where
      go : (b : Bool) → leb q x ≡ b → (d : Bool) → leb at x ≡ d → cond b 1 0 ≤ cond d 1 0
      go true e true f = omega arith
      go false e d f = omega arith
      go true e false f =
          let l : q ≤ x = leb-true q x e in
          absurd (true≢false (sym (le-leb at x (omega arith)) ∙ f))

  pub on_most : (at : ℕ) → on at ≤ 1
  unfolding on
  on_most at = go (leb at x)
    where
      go : (b : Bool) → cond b 1 0 ≤ 1
      go true = omega arith
      go false = omega arith

  on_next : (at : ℕ) → here x at + on (at + 2) ≤ on at
  unfolding here on
  on_next at = go (eqb x at) refl (leb at x) refl (leb (at + 2) x) refl
    where
      go : (b : Bool) → eqb x at ≡ b → (d : Bool) → leb at x ≡ d → (e : Bool) → leb (at + 2) x ≡ e → cond b 1 0 + cond e 1 0 ≤ cond d 1 0
      go true p true q true r = let a : x ≡ at = eqb-true x at p in let l : at + 2 ≤ x = leb-true (at + 2) x r in absurd (omega arith)
      go true p true q false r = omega arith
      go true p false q e r = let a : x ≡ at = eqb-true x at p in absurd (true≢false (sym (le-leb at x (omega arith)) ∙ q))
      go false p true q true r = omega arith
      go false p true q false r = omega arith
      go false p false q true r = let l : at + 2 ≤ x = leb-true (at + 2) x r in absurd (true≢false (sym (le-leb at x (omega arith)) ∙ q))
      go false p false q false r = omega arith

-- c nodes at x, all between two positions
abbrev Span : ℕ → ℕ → (ℕ → ℕ) → Type 0
Span at q c = (x : ℕ) → c x + on x q ≤ on x at

nothing_there : (at q : ℕ) → at ≤ q → Span at q (λ x. 0)
nothing_there at q h x = let l = on_later x at q h in omega arith

-- ---- kinds and forms

unfoldable pub is_pattern : ℕ → Bool
is_pattern k = eqb k 34 || (eqb k 36 || eqb k 37)

-- the kinds of the forms from 64 on
abbrev pub late : ℕ → ℕ
late m = get_or (14 ∷ 14 ∷ 34 ∷ 35 ∷ 36 ∷ 37 ∷ []) m 0

-- of these a 34 is 66 only, and none is a name or a Declaration
late_kind : (m : ℕ) → (late m ≡ 18 → ⊥) × (late m ≡ 20 → ⊥) × (late m ≡ 4 → ⊥) × (late m ≡ 34 → m ≡ 2)
late_kind zero = ((λ h. omega arith), (λ h. omega arith), (λ h. omega arith), (λ h. absurd (omega arith)))
late_kind (suc zero) = ((λ h. omega arith), (λ h. omega arith), (λ h. omega arith), (λ h. absurd (omega arith)))
late_kind (suc (suc zero)) = ((λ h. omega arith), (λ h. omega arith), (λ h. omega arith), (λ h. refl))
late_kind (suc (suc (suc zero))) = ((λ h. omega arith), (λ h. omega arith), (λ h. omega arith), (λ h. absurd (omega arith)))
late_kind (suc (suc (suc (suc zero)))) = ((λ h. omega arith), (λ h. omega arith), (λ h. omega arith), (λ h. absurd (omega arith)))
late_kind (suc (suc (suc (suc (suc zero))))) = ((λ h. omega arith), (λ h. omega arith), (λ h. omega arith), (λ h. absurd (omega arith)))
late_kind (suc (suc (suc (suc (suc (suc m)))))) = ((λ h. omega arith), (λ h. omega arith), (λ h. omega arith), (λ h. absurd (omega arith)))

pub early : (f : ℕ) → f < 64 → kind_of f ≡ f
unfolding kind_of
early f h = rw (lt-ltb f 64 h)

pub lately : (f : ℕ) → 64 ≤ f → kind_of f ≡ late (f - 64)
unfolding kind_of
lately f h = rw (le-ltb f 64 h)

module _ (f : ℕ) where
  form_18 : kind_of f ≡ 18 → f ≡ 18
  form_18 e = elim (dec_lt f 64) [ yes h ↦ sym (early f h) ∙ e | no h ↦ absurd ((late_kind (f - 64)).0 (sym (lately f (omega arith)) ∙ e)) ]

  form_4 : kind_of f ≡ 4 → f ≡ 4
  form_4 e = elim (dec_lt f 64) [ yes h ↦ sym (early f h) ∙ e | no h ↦ absurd ((late_kind (f - 64)).2 (sym (lately f (omega arith)) ∙ e)) ]

  form_34 : kind_of f ≡ 34 → (f ≡ 34) ⊎ (f ≡ 66)
  form_34 e = elim (dec_lt f 64) [
    | yes h ↦ inl (sym (early f h) ∙ e)
    | no h ↦ let m : f - 64 ≡ 2 = (late_kind (f - 64)).3 (sym (lately f (omega arith)) ∙ e) in inr (omega arith)
  ]

-- at the two places for properties of a pattern only 35 may stand
property_17 : (k : ℕ) → 0 < form_at input 17 k → is_pattern k ≡ false
unfolding form_at allowed places form_in kind_of is_pattern
property_17 k h = go (ltb k 64) (eqb 35 k) refl h
  where
    go : (b d : Bool) → eqb 35 k ≡ d → 0 < cond b (cond d 35 0) 0 → is_pattern k ≡ false
    go true true e z = let y : 35 ≡ k = eqb-true 35 k e in ap is_pattern (sym y)
    go true false e z = absurd (omega arith)
    go false d e z = absurd (omega arith)

property_22 : (k : ℕ) → 0 < form_at input 22 k → is_pattern k ≡ false
unfolding form_at allowed places form_in kind_of is_pattern
property_22 k h = go (ltb k 64) (eqb 35 k) refl h
  where
    go : (b d : Bool) → eqb 35 k ≡ d → 0 < cond b (cond d 67 0) 0 → is_pattern k ≡ false
    go true true e z = let y : 35 ≡ k = eqb-true 35 k e in ap is_pattern (sym y)
    go true false e z = absurd (omega arith)
    go false d e z = absurd (omega arith)

-- ---- fields by their sorts

unfoldable pub NoHoles : Items → Type 0
NoHoles Items.none = Unit {0}
NoHoles (Items.hole is) = ⊥
NoHoles (Items.item n is) = NoHoles is

abbrev OfSort : Sort → Piece → Type 0
OfSort (Sort.child p) x = Unit {0}
OfSort (Sort.chosen p q) x = Unit {0}
OfSort (Sort.many p) x = AllItems (λ n. 0 < form_at input p (kind n)) (as_items_of x) × NoHoles (as_items_of x)
OfSort (Sort.gaps p) x = Unit {0}
OfSort Sort.text x = direct_piece x ≡ 0
OfSort (Sort.byte low high) x = direct_piece x ≡ 0
OfSort Sort.mark x = direct_piece x ≡ 0
OfSort Sort.number x = direct_piece x ≡ 0

abbrev OfSorts : List Field → Fields → Type 0
OfSorts [] fs = direct fs ≡ 0
OfSorts (f ∷ rest) Fields.done = Unit {0}
OfSorts (f ∷ rest) (Fields.absent fs) = OfSorts rest fs
OfSorts (f ∷ rest) (Fields.field x fs) = OfSort (sort_in f) x × OfSorts rest fs

abbrev Plain : Node → Type 0
Plain q = is_pattern (kind q) ≡ false

-- a Reference has no parts
reference_direct : (fs : Fields) → OfSorts (fields_of 18) fs → direct fs ≡ 0
unfolding fields_of kinds direct
reference_direct Fields.done h = refl
reference_direct (Fields.absent Fields.done) h = refl
reference_direct (Fields.absent (Fields.absent fs)) h = h
reference_direct (Fields.absent (Fields.field x fs)) h = let a = h.0 in let b = h.1 in omega arith
reference_direct (Fields.field x Fields.done) h = let a = h.0 in omega arith
reference_direct (Fields.field x (Fields.absent fs)) h = let a = h.0 in let b = h.1 in omega arith
reference_direct (Fields.field x (Fields.field y fs)) h = let a = h.0 in let b = h.1.0 in let d = h.1.1 in omega arith

-- the properties of an object pattern are no patterns
object_plain : (fs : Fields) → OfSorts (fields_of 34) fs → AllItems Plain (as_items_of (piece_in fs 0))
unfolding fields_of kinds piece_in
object_plain Fields.done h = tt
object_plain (Fields.absent fs) h = tt
object_plain (Fields.field x fs) h =
    weaker_items (λ n. 0 < form_at input 17 (kind n)) Plain (λ n l. property_17 (kind n) l) (as_items_of x) h.0.0

target_plain : (fs : Fields) → OfSorts (fields_of 66) fs → AllItems Plain (as_items_of (piece_in fs 0))
unfolding fields_of variants piece_in
target_plain Fields.done h = tt
target_plain (Fields.absent fs) h = tt
target_plain (Fields.field x fs) h =
    weaker_items (λ n. 0 < form_at input 22 (kind n)) Plain (λ n l. property_22 (kind n) l) (as_items_of x) h.0.0

-- a Declaration has no hole among its declarators
declaration_whole : (fs : Fields) → OfSorts (fields_of 4) fs → NoHoles (as_items_of (piece_in fs 2))
unfolding fields_of kinds piece_in NoHoles
declaration_whole Fields.done h = tt
declaration_whole (Fields.absent Fields.done) h = tt
declaration_whole (Fields.absent (Fields.absent Fields.done)) h = tt
declaration_whole (Fields.absent (Fields.absent (Fields.absent fs))) h = tt
declaration_whole (Fields.absent (Fields.absent (Fields.field x fs))) h = h.0.1
declaration_whole (Fields.absent (Fields.field y Fields.done)) h = tt
declaration_whole (Fields.absent (Fields.field y (Fields.absent fs))) h = tt
declaration_whole (Fields.absent (Fields.field y (Fields.field x fs))) h = h.1.0.1
declaration_whole (Fields.field z Fields.done) h = tt
declaration_whole (Fields.field z (Fields.absent Fields.done)) h = tt
declaration_whole (Fields.field z (Fields.absent (Fields.absent fs))) h = tt
declaration_whole (Fields.field z (Fields.absent (Fields.field x fs))) h = h.1.0.1
declaration_whole (Fields.field z (Fields.field y Fields.done)) h = tt
declaration_whole (Fields.field z (Fields.field y (Fields.absent fs))) h = tt
declaration_whole (Fields.field z (Fields.field y (Fields.field x fs))) h = h.1.1.0.1

-- ---- trees in which this holds everywhere

mutual
  pub data Proper : Node → Type 0 where
    proper : {at k : ℕ} {fs : Fields} → (is_name_kind k ≡ true → direct fs ≡ 0) → (eqb k 34 ≡ true → AllItems Plain (as_items_of (piece_in fs 0)))
        → (eqb k 4 ≡ true → NoHoles (as_items_of (piece_in fs 2))) → eqb k 20 ≡ false → eqb k 21 ≡ false → ProperFields fs → Proper (node at k fs)

  pub data ProperFields : Fields → Type 0 where
    done : ProperFields Fields.done
    absent : {fs : Fields} → ProperFields fs → ProperFields (Fields.absent fs)
    field : {p : Piece} {fs : Fields} → ProperPiece p → ProperFields fs → ProperFields (Fields.field p fs)

  pub data ProperPiece : Piece → Type 0 where
    one : {n : Node} → Proper n → ProperPiece (Piece.one n)
    list : {is : Items} → ProperItems is → ProperPiece (Piece.list is)
    text : {bs : List ℕ} → ProperPiece (Piece.text bs)
    byte : {b : ℕ} → ProperPiece (Piece.byte b)
    mark : {b : ℕ} → 0 < b → ProperPiece (Piece.mark b)
    number : {b : ℕ} → ProperPiece (Piece.number b)

  pub data ProperItems : Items → Type 0 where
    none : ProperItems Items.none
    hole : {is : Items} → ProperItems is → ProperItems (Items.hole is)
    item : {n : Node} {is : Items} → Proper n → ProperItems is → ProperItems (Items.item n is)

-- ---- in such a tree a position is a site no more often than it is that of a node

module _ (x : ℕ) where
  -- and once less if the node itself is no pattern
  abbrev self : Node → ℕ
  self (node at k fs) = cond (is_pattern k) 0 (here x at)

  items_direct : (is : Items) → direct_items is ≡ 0 → sites_items x is ≡ 0
  unfolding direct_items sites
  items_direct Items.none h = refl
  items_direct (Items.hole is) h = items_direct is h
  items_direct (Items.item n is) h = absurd (omega arith)

  piece_direct : (p : Piece) → direct_piece p ≡ 0 → sites_piece x p ≡ 0
  unfolding direct_piece sites
  piece_direct (Piece.one n) h = absurd (omega arith)
  piece_direct (Piece.list is) h = items_direct is h
  piece_direct (Piece.text bs) h = refl
  piece_direct (Piece.byte b) h = refl
  piece_direct (Piece.mark b) h = refl
  piece_direct (Piece.number b) h = refl

  fields_direct : (fs : Fields) → direct fs ≡ 0 → sites_fields x fs ≡ 0
  unfolding direct sites
  fields_direct Fields.done h = refl
  fields_direct (Fields.absent fs) h = fields_direct fs h
  fields_direct (Fields.field p fs) h = let r = fields_direct fs (omega arith) in let q = piece_direct p (omega arith) in omega arith

  plain_self : (n : Node) → Plain n → self n ≡ here x (position n)
  plain_self (node at k fs) h = rw h

  -- one node, from what is known of its fields
  name_bound : (at k : ℕ) (fs : Fields) → is_name_kind k ≡ true → direct fs ≡ 0 → sites x (node at k fs) + self (node at k fs) ≤ count x (node at k fs)
  unfolding sites count
  name_bound at k fs e d = let z = fields_direct fs d in rw e (go z (is_pattern k))
    where
      go : sites_fields x fs ≡ 0 → (b : Bool) → 2 * (direct fs + sites_fields x fs) + cond b 0 (here x at) ≤ here x at + count_fields x fs
      go z true = omega arith
      go z false = omega arith

  object_bound : (at k : ℕ) (fs : Fields) → is_name_kind k ≡ false → eqb k 34 ≡ true → here_items x (as_items_of (piece_in fs 0)) + sites_fields x fs ≤ count_fields x fs
      → sites x (node at k fs) + self (node at k fs) ≤ count x (node at k fs)
  unfolding sites count own is_pattern
  object_bound at k fs e o h = rw (e, o) (omega arith)

  other_bound : (at k : ℕ) (fs : Fields) → is_name_kind k ≡ false → eqb k 34 ≡ false → sites_fields x fs ≤ count_fields x fs
      → sites x (node at k fs) + self (node at k fs) ≤ count x (node at k fs)
  unfolding sites count own is_pattern
  other_bound at k fs e o h = rw (e, o) (go (eqb k 36 || eqb k 37))
    where
      go : (b : Bool) → cond b (here x at) 0 + sites_fields x fs + cond b 0 (here x at) ≤ here x at + count_fields x fs
      go true = omega arith
      go false = omega arith

  mutual
    unfolding sites count here_items piece_in

    node_sites : (n : Node) → Proper n → sites x n + self n ≤ count x n
    node_sites (node at k fs) (proper names objects holes temporary helper p) =
        by_test (is_name_kind k)
        (λ e. name_bound at k fs e (names e))
        (λ e.
        by_test (eqb k 34)
        (λ o. object_bound at k fs e o (first_sites fs (objects o) p))
        (λ o. other_bound at k fs e o (fields_sites fs p)))

    fields_sites : (fs : Fields) → ProperFields fs → sites_fields x fs ≤ count_fields x fs
    fields_sites Fields.done ProperFields.done = omega arith
    fields_sites (Fields.absent fs) (ProperFields.absent p) = fields_sites fs p
    fields_sites (Fields.field q fs) (ProperFields.field u p) = let a = piece_sites q u in let b = fields_sites fs p in omega arith

    first_sites : (fs : Fields) → AllItems Plain (as_items_of (piece_in fs 0)) → ProperFields fs → here_items x (as_items_of (piece_in fs 0)) + sites_fields x fs ≤ count_fields x fs
    first_sites Fields.done h ProperFields.done = omega arith
    first_sites (Fields.absent fs) h (ProperFields.absent p) = let a = fields_sites fs p in omega arith
    first_sites (Fields.field q fs) h (ProperFields.field u p) = let a = first_piece q h u in let b = fields_sites fs p in omega arith

    first_piece : (q : Piece) → AllItems Plain (as_items_of q) → ProperPiece q → here_items x (as_items_of q) + sites_piece x q ≤ count_piece x q
    first_piece (Piece.one n) h (ProperPiece.one p) = let a = node_sites n p in omega arith
    first_piece (Piece.list is) h (ProperPiece.list p) = plain_sites is h p
    first_piece (Piece.text bs) h ProperPiece.text = omega arith
    first_piece (Piece.byte b) h ProperPiece.byte = omega arith
    first_piece (Piece.mark b) h (ProperPiece.mark m) = omega arith
    first_piece (Piece.number b) h ProperPiece.number = omega arith

    piece_sites : (q : Piece) → ProperPiece q → sites_piece x q ≤ count_piece x q
    piece_sites (Piece.one n) (ProperPiece.one p) = let a = node_sites n p in omega arith
    piece_sites (Piece.list is) (ProperPiece.list p) = items_sites is p
    piece_sites (Piece.text bs) ProperPiece.text = omega arith
    piece_sites (Piece.byte b) ProperPiece.byte = omega arith
    piece_sites (Piece.mark b) (ProperPiece.mark h) = omega arith
    piece_sites (Piece.number b) ProperPiece.number = omega arith

    items_sites : (is : Items) → ProperItems is → sites_items x is ≤ count_items x is
    items_sites Items.none ProperItems.none = omega arith
    items_sites (Items.hole is) (ProperItems.hole p) = items_sites is p
    items_sites (Items.item n is) (ProperItems.item u p) = let a = node_sites n u in let b = items_sites is p in omega arith

    plain_sites : (is : Items) → AllItems Plain is → ProperItems is → here_items x is + sites_items x is ≤ count_items x is
    plain_sites Items.none h ProperItems.none = omega arith
    plain_sites (Items.hole is) h (ProperItems.hole p) = plain_sites is h p
    plain_sites (Items.item n is) h (ProperItems.item u p) =
        let a = node_sites n u in let s = plain_self n h.0 in let b = plain_sites is h.1 p in omega arith

-- ---- the reader

-- what is known of a piece of a sort, of items at a place, of fields, of a node at a place: read from `at` to q, with marks from k to j
record PieceGood (s : Sort) (at k : ℕ) (p : Piece) (q j : ℕ) : Type 0 where
  sort : OfSort s p
  fine : ProperPiece p
  span : Span at q (λ x. count_piece x p)
  later : k ≤ j

record ItemsGood (p : ℕ) (h : Bool) (at k : ℕ) (is : Items) (q j : ℕ) : Type 0 where
  kinds : AllItems (λ n. 0 < form_at input p (kind n)) is
  full : h ≡ false → NoHoles is
  fine : ProperItems is
  span : Span at q (λ x. count_items x is)
  later : k ≤ j

record FieldsGood (fields : List Field) (at k : ℕ) (fs : Fields) (q j : ℕ) : Type 0 where
  sorts : OfSorts fields fs
  fine : ProperFields fs
  span : Span at q (λ x. count_fields x fs)
  later : k ≤ j

pub record NodeGood (p at k : ℕ) (n : Node) (q j : ℕ) : Type 0 where
  pub here_fits : 0 < form_at input p (kind n)
  pub fine : Proper n
  pub span : (x : ℕ) → count x n + on x q ≤ on x at
  pub later : k ≤ j

module _ (tree : List ℕ) where
  -- ---- fields that hold no node

  text_good : (at k : ℕ) → Holds (PieceGood Sort.text at k) (read_text tree at k)
  unfolding read_text direct_piece count
  text_good at k =
      of_accepted (PieceGood Sort.text at k) (leb (at + 2 + wide_at tree at) (length tree))
      (got (Piece.text (take (wide_at tree at) (drop (at + 2) tree))) (at + 2 + wide_at tree at) k)
      (λ e. record { sort = refl; fine = ProperPiece.text; span = nothing_there at (at + 2 + wide_at tree at) (omega arith); later = omega arith })

  byte_good : (low high at k : ℕ) → Holds (PieceGood (Sort.byte low high) at k) (read_byte tree low high at k)
  unfolding read_byte direct_piece count
  byte_good low high at k =
      let b = byte_at tree at in
      let g = got (Piece.byte b) (at + 1) k in
      let P = PieceGood (Sort.byte low high) at k in
      of_accepted P (ltb b 256) (accepted (leb low b) (accepted (leb b high) g))
      (λ e. of_accepted P (leb low b) (accepted (leb b high) g)
      (λ f. of_accepted P (leb b high) g
      (λ h. record { sort = refl; fine = ProperPiece.byte; span = nothing_there at (at + 1) (omega arith); later = omega arith })))

  mark_good : (at k : ℕ) → 1 ≤ k → Holds (PieceGood Sort.mark at k) (read_mark tree input at k)
  unfolding read_mark direct_piece count
  mark_good at k l =
      let m = wide_at tree at in
      let g = got (Piece.mark m) (at + 2) (k + 1) in
      let P = PieceGood Sort.mark at k in
      of_accepted P (ltb m 65536) (accepted (eqb m k) g)
      (λ e. of_accepted P (eqb m k) g
      (λ f.
      let y : m ≡ k = eqb-true m k f in
      record { sort = refl; fine = ProperPiece.mark (omega arith); span = nothing_there at (at + 2) (omega arith); later = omega arith }))

  number_good : (at k : ℕ) → Holds (PieceGood Sort.number at k) (read_number tree at k)
  unfolding read_number direct_piece count
  number_good at k =
      let m = wide_at tree at in
      of_accepted (PieceGood Sort.number at k) (ltb m 65536) (got (Piece.number m) (at + 2) k)
      (λ e. record { sort = refl; fine = ProperPiece.number; span = nothing_there at (at + 2) (omega arith); later = omega arith })

  module _ (r : ℕ → ℕ → ℕ → Got Node) (good : (p at k : ℕ) → 1 ≤ k → Holds (NodeGood p at k) (r p at k)) where
    -- ---- lists

    hole_good : (p at k : ℕ) (is : Items) (q j : ℕ) → ItemsGood p true (at + 1) k is q j → ItemsGood p true at k (Items.hole is) q j
    unfolding count
    hole_good p at k is q j g =
        record {
          kinds = g.kinds;
          full = λ z. absurd (true≢false z);
          fine = ProperItems.hole g.fine;
          span = λ x. let s = g.span x in let l = on_later x at (at + 1) (omega arith) in omega arith;
          later = g.later;
        }

    item_good : (p : ℕ) (h : Bool) (at k : ℕ) (n : Node) (q j : ℕ) → NodeGood p at k n q j
        → (is : Items) (q' j' : ℕ) → ItemsGood p h q j is q' j' → ItemsGood p h at k (Items.item n is) q' j'
    unfolding count NoHoles
    item_good p h at k n q j g is q' j' i =
        record {
          kinds = (g.here_fits, i.kinds);
          full = λ z. i.full z;
          fine = ProperItems.item g.fine i.fine;
          span = λ x. let s = g.span x in let t = i.span x in omega arith;
          later = (let a = g.later in let b = i.later in omega arith);
        }

    -- an item, and the items after it
    abbrev Adds : ℕ → Bool → ℕ → ℕ → ℕ → (Items → Items) → ℕ → ℕ → Type 0
    Adds p h n at k add q j = Holds (λ is q' j'. ItemsGood p h at k (add is) q' j') (read_items tree (r p) h n q j)

    item_then : (p : ℕ) (h : Bool) (n at k : ℕ) → 1 ≤ k → ((at' k' : ℕ) → 1 ≤ k' → Holds (ItemsGood p h at' k') (read_items tree (r p) h n at' k'))
        → Holds (Adds p h n at k) (mapped (λ m is. Items.item m is) (r p at k))
    item_then p h n at k l more =
        of_mapped (Adds p h n at k) (λ m is. Items.item m is) (r p at k)
        (weaker (NodeGood p at k) (λ m q j. Adds p h n at k (λ is. Items.item m is) q j) (r p at k)
        (λ m q j g.
        weaker (ItemsGood p h q j) (λ is q' j'. ItemsGood p h at k (Items.item m is) q' j') (read_items tree (r p) h n q j)
        (λ is q' j' i. item_good p h at k m q j g is q' j' i) (more q j (let a = g.later in omega arith)))
        (good p at k l))

    item_read : (p : ℕ) (h : Bool) (n at k : ℕ) → 1 ≤ k → ((at' k' : ℕ) → 1 ≤ k' → Holds (ItemsGood p h at' k') (read_items tree (r p) h n at' k'))
        → Holds (Adds p h n at k) (read_item tree (r p) h at k)
    unfolding read_item
    item_read p false n at k l more = item_then p false n at k l more
    item_read p true n at k l more =
        by_test (eqb (byte_at tree at) 0)
        (λ e. rw (e, Holds)
        (weaker (ItemsGood p true (at + 1) k) (λ is q' j'. ItemsGood p true at k (Items.hole is) q' j') (read_items tree (r p) true n (at + 1) k)
        (λ is q' j' i. hole_good p at k is q' j' i) (more (at + 1) k l)))
        (λ e. rw (e, Holds) (item_then p true n at k l more))

    items_good : (p : ℕ) (h : Bool) (n at k : ℕ) → 1 ≤ k → Holds (ItemsGood p h at k) (read_items tree (r p) h n at k)
    unfolding read_items NoHoles count
    items_good p h zero at k l =
        record { kinds = tt; full = λ z. tt; fine = ProperItems.none; span = nothing_there at at (omega arith); later = omega arith }
    items_good p h (suc n) at k l =
        of_joined (ItemsGood p h at k) (λ add is. add is) (read_item tree (r p) h at k) (λ q j. read_items tree (r p) h n q j)
        (item_read p h n at k l (λ at' k' l'. items_good p h n at' k' l'))

    list_good : (p : ℕ) (h : Bool) (at k : ℕ) → 1 ≤ k → Holds (ItemsGood p h at k) (read_list tree (r p) h at k)
    unfolding read_list
    list_good p h at k l =
        of_accepted (ItemsGood p h at k) (ltb (wide_at tree at) 65536) (read_items tree (r p) h (wide_at tree at) (at + 2) k)
        (λ e. weaker (ItemsGood p h (at + 2) k) (ItemsGood p h at k) (read_items tree (r p) h (wide_at tree at) (at + 2) k)
        (λ is q j g.
        record {
          kinds = g.kinds;
          full = g.full;
          fine = g.fine;
          span = λ x. let s = g.span x in let o = on_later x at (at + 2) (omega arith) in omega arith;
          later = g.later;
        })
        (items_good p h (wide_at tree at) (at + 2) k l))

    -- ---- fields

    one_good : (s : Sort) (p at k : ℕ) → ((n : Node) → OfSort s (Piece.one n)) → 1 ≤ k → Holds (PieceGood s at k) (mapped Piece.one (r p at k))
    unfolding count
    one_good s p at k o l =
        of_mapped (PieceGood s at k) Piece.one (r p at k)
        (weaker (NodeGood p at k) (λ n q j. PieceGood s at k (Piece.one n) q j) (r p at k)
        (λ n q j g. record { sort = o n; fine = ProperPiece.one g.fine; span = g.span; later = g.later })
        (good p at k l))

    field_good : (s : Sort) (at k : ℕ) → 1 ≤ k → Holds (PieceGood s at k) (read_field tree input r s at k)
    unfolding read_field count
    field_good (Sort.child p) at k l = one_good (Sort.child p) p at k (λ n. tt) l
    field_good (Sort.chosen p q) at k l = one_good (Sort.chosen p q) (chosen_place tree p q at) at k (λ n. tt) l
    field_good (Sort.many p) at k l =
        of_mapped (PieceGood (Sort.many p) at k) Piece.list (read_list tree (r p) false at k)
        (weaker (ItemsGood p false at k) (λ is q j. PieceGood (Sort.many p) at k (Piece.list is) q j) (read_list tree (r p) false at k)
        (λ is q j g. record { sort = (g.kinds, g.full refl); fine = ProperPiece.list g.fine; span = g.span; later = g.later })
        (list_good p false at k l))
    field_good (Sort.gaps p) at k l =
        of_mapped (PieceGood (Sort.gaps p) at k) Piece.list (read_list tree (r p) true at k)
        (weaker (ItemsGood p true at k) (λ is q j. PieceGood (Sort.gaps p) at k (Piece.list is) q j) (read_list tree (r p) true at k)
        (λ is q j g. record { sort = tt; fine = ProperPiece.list g.fine; span = g.span; later = g.later })
        (list_good p true at k l))
    field_good Sort.text at k l = text_good at k
    field_good (Sort.byte low high) at k l = byte_good low high at k
    field_good Sort.mark at k l = mark_good at k l
    field_good Sort.number at k l = number_good at k

    -- a field by its bit, and the fields after it
    abbrev Puts : Field → List Field → ℕ → ℕ → ℕ → (Fields → Fields) → ℕ → ℕ → Type 0
    Puts f fields m at k add q j = Holds (λ fs q' j'. FieldsGood (f ∷ fields) at k (add fs) q' j') (read_fields tree input r fields m q j)

    slot_good : (f : Field) (fields : List Field) (m at k : ℕ) → 1 ≤ k
        → ((at' k' : ℕ) → 1 ≤ k' → Holds (FieldsGood fields at' k') (read_fields tree input r fields m at' k'))
        → (bit : ℕ) → Holds (Puts f fields m at k) (read_slot tree input r (sort_in f) bit at k)
    unfolding read_slot count
    slot_good f fields m at k l more zero =
        weaker (FieldsGood fields at k) (λ fs q' j'. FieldsGood (f ∷ fields) at k (Fields.absent fs) q' j') (read_fields tree input r fields m at k)
        (λ fs q' j' g. record { sorts = g.sorts; fine = ProperFields.absent g.fine; span = g.span; later = g.later })
        (more at k l)
    slot_good f fields m at k l more (suc bit) =
        of_mapped (Puts f fields m at k) (λ p fs. Fields.field p fs) (read_field tree input r (sort_in f) at k)
        (weaker (PieceGood (sort_in f) at k) (λ p q j. Puts f fields m at k (λ fs. Fields.field p fs) q j) (read_field tree input r (sort_in f) at k)
        (λ p q j g.
        weaker (FieldsGood fields q j) (λ fs q' j'. FieldsGood (f ∷ fields) at k (Fields.field p fs) q' j') (read_fields tree input r fields m q j)
        (λ fs q' j' i.
        record {
          sorts = (g.sort, i.sorts);
          fine = ProperFields.field g.fine i.fine;
          span = λ x. let s = g.span x in let t = i.span x in omega arith;
          later = (let a = g.later in let b = i.later in omega arith);
        })
        (more q j (let a = g.later in omega arith)))
        (field_good (sort_in f) at k l))

    fields_good : (fields : List Field) (m at k : ℕ) → 1 ≤ k → Holds (FieldsGood fields at k) (read_fields tree input r fields m at k)
    unfolding read_fields direct count
    fields_good [] m at k l = record { sorts = refl; fine = ProperFields.done; span = nothing_there at at (omega arith); later = omega arith }
    fields_good (f ∷ fields) m at k l =
        of_joined (FieldsGood (f ∷ fields) at k) (λ add gs. add gs) (read_slot tree input r (sort_in f) (m % 2) at k) (λ q j. read_fields tree input r fields (m / 2) q j)
        (slot_good f fields (m / 2) at k l (λ at' k' l'. fields_good fields (m / 2) at' k' l') (m % 2))

  -- ---- a node

  node_span : (at k : ℕ) (fs : Fields) (q : ℕ) → Span (at + 2) q (λ x. count_fields x fs) → (x : ℕ) → count x (node at k fs) + on x q ≤ on x at
  unfolding count
  node_span at k fs q h x = let s = h x in let o = on_next x at in omega arith

  -- what its fields say of a node whose form is f
  node_proper : (f at k : ℕ) (fs : Fields) → kind_of f ≡ k → eqb k 20 ≡ false → eqb k 21 ≡ false → OfSorts (fields_of f) fs → ProperFields fs → Proper (node at k fs)
  unfolding is_name_kind
  node_proper f at k fs e t u s p =
      proper
      (λ n. let y : eqb k 18 ≡ true = or_first (eqb k 18) (eqb k 20) t n in
      reference_direct fs (subst (λ (g : ℕ). OfSorts (fields_of g) fs) (form_18 f (e ∙ eqb-true k 18 y)) s))
      (λ n.
      ⊎_elim
      (λ g. object_plain fs (subst (λ (m : ℕ). OfSorts (fields_of m) fs) g s))
      (λ g. target_plain fs (subst (λ (m : ℕ). OfSorts (fields_of m) fs) g s))
      (form_34 f (e ∙ eqb-true k 34 n)))
      (λ n. declaration_whole fs (subst (λ (g : ℕ). OfSorts (fields_of g) fs) (form_4 f (e ∙ eqb-true k 4 n)) s))
      t u p

  pub node_good : (d p at k : ℕ) → 1 ≤ k → Holds (NodeGood p at k) (read_node tree input d p at k)
  unfolding read_node
  node_good zero p at k l = of_accepted (NodeGood p at k) (ltb 0 (form_at input p (byte_at tree at))) (refused _) (λ e. tt)
  node_good (suc d) p at k l =
      let b = byte_at tree at in
      let f = form_at input p b in
      let m = byte_at tree (at + 1) in
      let g = read_fields tree input (λ p' q j. read_node tree input d p' q j) (fields_of f) m (at + 2) k in
      let P = NodeGood p at k in
      of_accepted P (ltb 0 f) (accepted (map_ok (fields_of f) m) (mapped (node at b) g))
      (λ e.
      let z : 0 < f = ltb-true 0 f e in
      of_accepted P (map_ok (fields_of f) m) (mapped (node at b) g)
      (λ u.
      of_mapped P (node at b) g
      (weaker (FieldsGood (fields_of f) (at + 2) k) (λ fs q j. NodeGood p at k (node at b fs) q j) g
      (λ fs q j h.
      record {
        here_fits = z;
        fine = node_proper f at b fs (kind_at input p b z) (not_20 p b z) (not_21 p b z) h.sorts h.fine;
        span = node_span at b fs q h.span;
        later = h.later;
      })
      (fields_good (λ p' q j. read_node tree input d p' q j) (λ p' at' k' l'. node_good d p' at' k' l') (fields_of f) m (at + 2) k l))))

  whole_good : (P : Node → ℕ → ℕ → Type 0) (g : Got Node) → Holds P g → Holds P (whole tree g)
  whole_good P (got n q k) h = of_accepted P (eqb q (length tree)) (got n q k) (λ e. h)
  whole_good P (refused n) h = tt

-- ---- the whole tree

pub accepted_good : (d : ℕ) (tree : List ℕ) (n : Node) (q j : ℕ) → read_tree input d tree ≡ got n q j → NodeGood root 0 1 n q j
unfolding read_tree
accepted_good d tree n q j e =
    holds (NodeGood root 0 1) (read_tree input d tree) n q j
    (of_accepted (NodeGood root 0 1) (leb (length tree) 16384) (whole tree (read_node tree input d root 0 1))
    (λ l. whole_good tree (NodeGood root 0 1) (read_node tree input d root 0 1) (node_good tree d root 0 1 (omega arith))))
    e

-- in an accepted tree each position is a site once at most
pub accepted_sites : (d : ℕ) (tree : List ℕ) (n : Node) (q j : ℕ) → read_tree input d tree ≡ got n q j → (x : ℕ) → sites x n ≤ 1
accepted_sites d tree n q j e x =
    let g = accepted_good d tree n q j e in
    let s = g.span x in
    let t = node_sites x n g.fine in
    let o = on_most x 0 in
    omega arith
