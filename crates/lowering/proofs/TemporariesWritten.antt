-- What is written: each Temporary has its number and its stem and nothing else, in the tree and in the list, and no statement of the tree has mark 0.
-- That no note is left is the type of `bare`: it gives a tree.
-- Assumes nothing.
use mathlib.Core.Path.{◌≡◌}
use mathlib.Core.Bool.{false}
use mathlib.Core.List.{List}
use Prim.Native.Nat.{ℕ, zero, suc, ◌+◌, ◌<◌}
use native.Mathlib.Omega.{arith}
use lib.Dec.{eqb}
use Rattle.tree.specs.Tree.{Node, Fields, Piece, Items}
use Rattle.tree.specs.Tree.Node.{node}
use Rattle.lowering.specs.Walk.{Walked, WalkedFields, WalkedPiece, WalkedItems}
use Rattle.lowering.specs.Walk.Walked.{noted}
use Rattle.lowering.specs.Collect.{Name, new_in, new_in_piece, marked, bare, bare_fields, bare_piece, bare_items, with_number, numbered, numbered_fields, numbered_piece, numbered_items}
use Rattle.lowering.proofs.Cases.{by_test}

-- ---- each Temporary has its number and its stem

mutual
  pub data Numbered : Node → Type 0 where
    temporary : {at m stem : ℕ} → Numbered (node at 20 (Fields.field (Piece.number m) (Fields.field (Piece.byte stem) Fields.done)))
    other : {at k : ℕ} {fs : Fields} → eqb k 20 ≡ false → NumberedFields fs → Numbered (node at k fs)

  pub data NumberedFields : Fields → Type 0 where
    done : NumberedFields Fields.done
    absent : {fs : Fields} → NumberedFields fs → NumberedFields (Fields.absent fs)
    field : {p : Piece} {fs : Fields} → NumberedPiece p → NumberedFields fs → NumberedFields (Fields.field p fs)

  pub data NumberedPiece : Piece → Type 0 where
    one : {n : Node} → Numbered n → NumberedPiece (Piece.one n)
    list : {is : Items} → NumberedItems is → NumberedPiece (Piece.list is)
    text : {bs : List ℕ} → NumberedPiece (Piece.text bs)
    byte : {b : ℕ} → NumberedPiece (Piece.byte b)
    mark : {b : ℕ} → NumberedPiece (Piece.mark b)
    number : {b : ℕ} → NumberedPiece (Piece.number b)

  pub data NumberedItems : Items → Type 0 where
    none : NumberedItems Items.none
    hole : {is : Items} → NumberedItems is → NumberedItems (Items.hole is)
    item : {n : Node} {is : Items} → Numbered n → NumberedItems is → NumberedItems (Items.item n is)

module _ (ns : List Name) where
  mutual
    unfolding numbered with_number

    pub all_numbered : (n : Node) → Numbered (numbered ns n)
    all_numbered (node at k fs) =
        by_test (eqb k 20) (λ e. rw e temporary) (λ e. rw e (Numbered.other e (all_fields fs)))

    all_fields : (fs : Fields) → NumberedFields (numbered_fields ns fs)
    all_fields Fields.done = NumberedFields.done
    all_fields (Fields.absent fs) = NumberedFields.absent (all_fields fs)
    all_fields (Fields.field p fs) = NumberedFields.field (all_piece p) (all_fields fs)

    all_piece : (p : Piece) → NumberedPiece (numbered_piece ns p)
    all_piece (Piece.one n) = NumberedPiece.one (all_numbered n)
    all_piece (Piece.list is) = NumberedPiece.list (all_items is)
    all_piece (Piece.text bs) = NumberedPiece.text
    all_piece (Piece.byte b) = NumberedPiece.byte
    all_piece (Piece.mark b) = NumberedPiece.mark
    all_piece (Piece.number b) = NumberedPiece.number

    pub all_items : (is : Items) → NumberedItems (numbered_items ns is)
    all_items Items.none = NumberedItems.none
    all_items (Items.hole is) = NumberedItems.hole (all_items is)
    all_items (Items.item n is) = NumberedItems.item (all_numbered n) (all_items is)

-- ---- no mark is 0

mutual
  pub data Marked : Node → Type 0 where
    marks : {at k : ℕ} {fs : Fields} → MarkedFields fs → Marked (node at k fs)

  pub data MarkedFields : Fields → Type 0 where
    done : MarkedFields Fields.done
    absent : {fs : Fields} → MarkedFields fs → MarkedFields (Fields.absent fs)
    field : {p : Piece} {fs : Fields} → MarkedPiece p → MarkedFields fs → MarkedFields (Fields.field p fs)

  pub data MarkedPiece : Piece → Type 0 where
    one : {n : Node} → Marked n → MarkedPiece (Piece.one n)
    list : {is : Items} → MarkedItems is → MarkedPiece (Piece.list is)
    text : {bs : List ℕ} → MarkedPiece (Piece.text bs)
    byte : {b : ℕ} → MarkedPiece (Piece.byte b)
    mark : {b : ℕ} → 0 < b → MarkedPiece (Piece.mark b)
    number : {b : ℕ} → MarkedPiece (Piece.number b)

  pub data MarkedItems : Items → Type 0 where
    none : MarkedItems Items.none
    hole : {is : Items} → MarkedItems is → MarkedItems (Items.hole is)
    item : {n : Node} {is : Items} → Marked n → MarkedItems is → MarkedItems (Items.item n is)

mark_stands : (next m : ℕ) → 0 < next → 0 < marked next m
mark_stands next zero h = h
mark_stands next (suc m) h = omega arith

mutual
  unfolding bare

  pub bare_marked : (next : ℕ) (w : Walked) → 0 < next → Marked (bare next w)
  bare_marked next (noted note at k fs) h = marks (bare_fields_lem next fs h)

  bare_fields_lem : (next : ℕ) (fs : WalkedFields) → 0 < next → MarkedFields (bare_fields next fs)
  bare_fields_lem next WalkedFields.done h = MarkedFields.done
  bare_fields_lem next (WalkedFields.absent fs) h = MarkedFields.absent (bare_fields_lem next fs h)
  bare_fields_lem next (WalkedFields.field p fs) h = MarkedFields.field (bare_piece_lem next p h) (bare_fields_lem (next + new_in_piece p) fs (omega arith))

  bare_piece_lem : (next : ℕ) (p : WalkedPiece) → 0 < next → MarkedPiece (bare_piece next p)
  bare_piece_lem next (WalkedPiece.one w) h = MarkedPiece.one (bare_marked next w h)
  bare_piece_lem next (WalkedPiece.list is) h = MarkedPiece.list (bare_items_lem next is h)
  bare_piece_lem next (WalkedPiece.text bs) h = MarkedPiece.text
  bare_piece_lem next (WalkedPiece.byte b) h = MarkedPiece.byte
  bare_piece_lem next (WalkedPiece.mark b) h = MarkedPiece.mark (mark_stands next b h)
  bare_piece_lem next (WalkedPiece.number b) h = MarkedPiece.number

  bare_items_lem : (next : ℕ) (is : WalkedItems) → 0 < next → MarkedItems (bare_items next is)
  bare_items_lem next WalkedItems.none h = MarkedItems.none
  bare_items_lem next (WalkedItems.hole is) h = MarkedItems.hole (bare_items_lem next is h)
  bare_items_lem next (WalkedItems.item w is) h = MarkedItems.item (bare_marked next w h) (bare_items_lem (next + new_in w) is (omega arith))

module _ (ns : List Name) where
  mutual
    unfolding numbered with_number

    numbered_marked : (n : Node) → Marked n → Marked (numbered ns n)
    numbered_marked (node at k fs) (marks m) =
        by_test (eqb k 20)
        (λ e. rw e (marks (MarkedFields.field MarkedPiece.number (MarkedFields.field MarkedPiece.byte MarkedFields.done))))
        (λ e. rw e (marks (numbered_fields_lem fs m)))

    numbered_fields_lem : (fs : Fields) → MarkedFields fs → MarkedFields (numbered_fields ns fs)
    numbered_fields_lem Fields.done MarkedFields.done = MarkedFields.done
    numbered_fields_lem (Fields.absent fs) (MarkedFields.absent m) = MarkedFields.absent (numbered_fields_lem fs m)
    numbered_fields_lem (Fields.field p fs) (MarkedFields.field q m) = MarkedFields.field (numbered_piece_lem p q) (numbered_fields_lem fs m)

    numbered_piece_lem : (p : Piece) → MarkedPiece p → MarkedPiece (numbered_piece ns p)
    numbered_piece_lem (Piece.one n) (MarkedPiece.one m) = MarkedPiece.one (numbered_marked n m)
    numbered_piece_lem (Piece.list is) (MarkedPiece.list m) = MarkedPiece.list (numbered_items_lem is m)
    numbered_piece_lem (Piece.text bs) MarkedPiece.text = MarkedPiece.text
    numbered_piece_lem (Piece.byte b) MarkedPiece.byte = MarkedPiece.byte
    numbered_piece_lem (Piece.mark b) (MarkedPiece.mark h) = MarkedPiece.mark h
    numbered_piece_lem (Piece.number b) MarkedPiece.number = MarkedPiece.number

    numbered_items_lem : (is : Items) → MarkedItems is → MarkedItems (numbered_items ns is)
    numbered_items_lem Items.none MarkedItems.none = MarkedItems.none
    numbered_items_lem (Items.hole is) (MarkedItems.hole m) = MarkedItems.hole (numbered_items_lem is m)
    numbered_items_lem (Items.item n is) (MarkedItems.item q m) = MarkedItems.item (numbered_marked n q) (numbered_items_lem is m)

-- the tree as it is written, from any walked tree
pub written : (ns : List Name) (next : ℕ) (w : Walked) → 0 < next → Numbered (numbered ns (bare next w)) × Marked (numbered ns (bare next w))
written ns next w h = (all_numbered ns (bare next w), numbered_marked ns (bare next w) (bare_marked next w h))
