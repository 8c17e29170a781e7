-- The parts of a tree in which every node passes a test.
-- Assumes nothing.
use mathlib.Core.Path.{◌≡◌, refl}
use mathlib.Core.Bool.{Bool, true, false, not}
use Prim.Native.Nat.{ℕ, zero, suc}
use borrow.Author.Tests.{not-true}
use Rattle.tree.specs.Tree.{Node, Fields, Piece}
use Rattle.tree.specs.Tree.Node.{node}
use Rattle.tree.specs.Tree.Fields.{done, absent, field}
use Rattle.tree.specs.Tree.Piece.{one, list, text, byte, mark, number}
use Rattle.lowering.specs.Parts.{nothing, piece_in, as_node, as_items_of, node_at_of, items_at_of}
use Rattle.overlay.specs.Plain.{free, free_fields, free_piece, free_items}
use Rattle.lowering.proofs.Cases.{and_left, and_right}

module _ (bad : Node → Bool) where
  pub free_here : (n : Node) → free bad n ≡ true → bad n ≡ false
  free_here (node at k fs) e = not-true (bad (node at k fs)) (and_left (not (bad (node at k fs))) (free_fields bad fs) e)

  pub free_below : (at k : ℕ) (fs : Fields) → free bad (node at k fs) ≡ true → free_fields bad fs ≡ true
  free_below at k fs e = and_right (not (bad (node at k fs))) (free_fields bad fs) e

  pub free_piece_lem : (fs : Fields) (i : ℕ) → free_fields bad fs ≡ true → free_piece bad (piece_in fs i) ≡ true
  unfolding piece_in
  free_piece_lem done i e = refl
  free_piece_lem (absent fs) zero e = refl
  free_piece_lem (absent fs) (suc i) e = free_piece_lem fs i e
  free_piece_lem (field p fs) zero e = and_left (free_piece bad p) (free_fields bad fs) e
  free_piece_lem (field p fs) (suc i) e = free_piece_lem fs i (and_right (free_piece bad p) (free_fields bad fs) e)

  pub free_items_lem : (i : ℕ) (n : Node) → free bad n ≡ true → free_items bad (items_at_of i n) ≡ true
  unfolding items_at_of
  free_items_lem i (node at k fs) e = go (piece_in fs i) (free_piece_lem fs i (free_below at k fs e))
    where
      go : (p : Piece) → free_piece bad p ≡ true → free_items bad (as_items_of p) ≡ true
      go (one n) e = refl
      go (list is) e = e
      go (text bs) e = refl
      go (byte b) e = refl
      go (mark b) e = refl
      go (number b) e = refl

  module _ (fine : bad nothing ≡ false) where
    free_nothing : free bad nothing ≡ true
    free_nothing = rw fine refl

    pub free_node : (i : ℕ) (n : Node) → free bad n ≡ true → free bad (node_at_of i n) ≡ true
    unfolding node_at_of
    free_node i (node at k fs) e = go (piece_in fs i) (free_piece_lem fs i (free_below at k fs e))
      where
        go : (p : Piece) → free_piece bad p ≡ true → free bad (as_node p) ≡ true
        go (one n) e = e
        go (list is) e = free_nothing
        go (text bs) e = free_nothing
        go (byte b) e = free_nothing
        go (mark b) e = free_nothing
        go (number b) e = free_nothing
