-- Weights of the parts of a node.
-- Assumes nothing.
use mathlib.Core.Path.{◌≡◌, ap}
use mathlib.Core.Bool.{Bool, true, false, cond}
use Prim.Native.Nat.{ℕ, zero, suc, ◌+◌, ◌*◌, ◌≤◌, ◌<◌}
use native.Mathlib.Omega.{arith}
use lib.Dec.{eqb}
use borrow.Author.Tests.{eqb-true}
use Rattle.tree.specs.Tree.{Node, Fields, Piece, Items}
use Rattle.tree.specs.Tree.Node.{node}
use Rattle.tree.specs.Tree.Fields.{done, absent, field}
use Rattle.tree.specs.Tree.Piece.{one, list, text, byte, mark, number}
use Rattle.tree.specs.Tree.Items.{none, hole, item}
use Rattle.lowering.specs.Parts.{piece_in, as_node, as_items_of, is, ◌+++◌}
use Rattle.lowering.specs.Weight.{is_head, extra, factor, weight, weight_fields, weight_piece, weight_items}
use Rattle.lowering.proofs.All.{AllItems, AllPiece, AllFields, Each}

pub weight_pos : (n : Node) → 0 < weight n
unfolding weight
weight_pos (node at k fs) = omega arith

pub weight_append : (is js : Items) → weight_items (is +++ js) ≡ weight_items is + weight_items js
unfolding weight ◌+++◌
weight_append none js = omega arith
weight_append (hole is) js = weight_append is js
weight_append (item n is) js = let h = weight_append is js in omega arith

-- each item weighs no more than all of them
pub items_light : (b : ℕ) (is : Items) → weight_items is < b → AllItems (λ m. weight m < b) is
unfolding weight
items_light b none h = tt
items_light b (hole is) h = items_light b is h
items_light b (item n is) h = (omega arith, items_light b is (omega arith))

pub piece_light : (b : ℕ) (p : Piece) → weight_piece p < b → AllPiece (λ m. weight m < b) p
unfolding weight
piece_light b (one n) h = h
piece_light b (list is) h = items_light b is h
piece_light b (text bs) h = tt
piece_light b (byte x) h = tt
piece_light b (mark x) h = tt
piece_light b (number x) h = tt

-- a factor is no less than 1
pub factor_pos : (k w : ℕ) → w ≤ factor k * w
unfolding factor
factor_pos k w = go (is_head k) (eqb k 4)
  where
    go : (b c : Bool) → w ≤ cond b 10 (cond c 2 1) * w
    go true c = omega arith
    go false true = omega arith
    go false false = omega arith

pub weight_whole : (at k : ℕ) (fs : Fields) → suc (weight_fields fs) ≤ weight (node at k fs)
unfolding weight
weight_whole at k fs = let h = factor_pos k (weight_fields fs) in omega arith

pub weight_of : (at k j : ℕ) (fs : Fields) → eqb k j ≡ true → weight (node at k fs) ≡ suc (extra j fs + factor j * weight_fields fs)
unfolding weight
weight_of at k j fs e = ap (λ (x : ℕ). suc (extra x fs + factor x * weight_fields fs)) (eqb-true k j e)

pub fields_light : (b : ℕ) (fs : Fields) → weight_fields fs < b → AllFields (λ m. weight m < b) fs
unfolding weight
fields_light b done h = tt
fields_light b (absent fs) h = fields_light b fs h
fields_light b (field p fs) h = (piece_light b p (omega arith), fields_light b fs (omega arith))

-- the parts of a node weigh less than the node
pub parts_fall : (n : Node) → Each (λ m. weight m < weight n) n
parts_fall (node at k fs) = let h = weight_whole at k fs in fields_light (weight (node at k fs)) fs (omega arith)

pub node_piece : (p : Piece) → weight (as_node p) ≤ suc (weight_piece p)
unfolding weight extra factor is_head
node_piece (one n) = omega arith
node_piece (list is) = omega arith
node_piece (text bs) = omega arith
node_piece (byte b) = omega arith
node_piece (mark b) = omega arith
node_piece (number b) = omega arith

pub items_piece : (p : Piece) → weight_items (as_items_of p) ≤ weight_piece p
unfolding weight
items_piece (one n) = omega arith
items_piece (list is) = omega arith
items_piece (text bs) = omega arith
items_piece (byte b) = omega arith
items_piece (mark b) = omega arith
items_piece (number b) = omega arith

pub piece_light_in : (fs : Fields) (i : ℕ) → weight_piece (piece_in fs i) ≤ weight_fields fs
unfolding weight piece_in
piece_light_in done i = omega arith
piece_light_in (absent fs) zero = omega arith
piece_light_in (absent fs) (suc i) = piece_light_in fs i
piece_light_in (field p fs) zero = omega arith
piece_light_in (field p fs) (suc i) = let h = piece_light_in fs i in omega arith
