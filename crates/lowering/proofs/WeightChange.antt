-- Weights of nodes in which a field was changed.
-- Assumes nothing.
use mathlib.Core.Path.{◌≡◌}
use mathlib.Core.Bool.{Bool, true, false, cond}
use Prim.Native.Nat.{ℕ, zero, suc, ◌+◌, ◌*◌, ◌≤◌, ◌<◌}
use native.Mathlib.Omega.{arith}
use lib.Dec.{eqb}
use Rattle.tree.specs.Tree.{Node, Fields, Piece, Items}
use Rattle.tree.specs.Tree.Node.{node}
use Rattle.tree.specs.Tree.Fields.{done, absent, field}
use Rattle.tree.specs.Tree.Piece.{one, list, text, byte, mark, number}
use Rattle.tree.specs.Tree.Items.{none, hole, item}
use Rattle.lowering.specs.Parts.{piece_in, change_in, change, on_node, on_items, change_node, change_items, is, each, gather}
use Rattle.lowering.specs.Weight.{is_head, extra, factor, weight, weight_fields, weight_piece, weight_items}
use Rattle.lowering.proofs.Weights.{weight_append, piece_light_in}
use Rattle.lowering.proofs.ChangeLaws.{stands_changed}

-- ---- lists

module _ (f : Node → Node) (light : (n : Node) → weight (f n) ≤ weight n) where
  pub each_light : (is : Items) → weight_items (each f is) ≤ weight_items is
  unfolding each weight
  each_light none = omega arith
  each_light (hole is) = each_light is
  each_light (item n is) = let h = each_light is in let l = light n in omega arith

  pub node_light : (p : Piece) → weight_piece (on_node f p) ≤ weight_piece p
  unfolding on_node weight
  node_light (one n) = light n
  node_light (list is) = omega arith
  node_light (text bs) = omega arith
  node_light (byte b) = omega arith
  node_light (mark b) = omega arith
  node_light (number b) = omega arith

pub gather_light : (f : Node → Items) → ((n : Node) → weight_items (f n) ≤ weight n) → (is : Items) → weight_items (gather f is) ≤ weight_items is
unfolding gather weight
gather_light f light none = omega arith
gather_light f light (hole is) = gather_light f light is
gather_light f light (item n is) =
    let h = gather_light f light is in
    let l = light n in
    let e = weight_append (f n) (gather f is) in
    omega arith

pub list_light : (f : Items → Items) → ((is : Items) → weight_items (f is) ≤ weight_items is) → (p : Piece) → weight_piece (on_items f p) ≤ weight_piece p
unfolding on_items weight
list_light f light (one n) = omega arith
list_light f light (list is) = light is
list_light f light (text bs) = omega arith
list_light f light (byte b) = omega arith
list_light f light (mark b) = omega arith
list_light f light (number b) = omega arith

-- ---- fields

pub fields_changed : (fs : Fields) (i : ℕ) (f : Piece → Piece) → weight_piece (f (piece_in fs i)) ≤ weight_piece (piece_in fs i) → weight_fields (change_in fs i f) ≤ weight_fields fs
unfolding piece_in change_in weight
fields_changed done i f h = omega arith
fields_changed (absent fs) zero f h = omega arith
fields_changed (absent fs) (suc i) f h = fields_changed fs i f h
fields_changed (field p fs) zero f h = omega arith
fields_changed (field p fs) (suc i) f h = let k = fields_changed fs i f h in omega arith

pub fields_changed_less : (fs : Fields) (i : ℕ) (f : Piece → Piece) → weight_piece (f (piece_in fs i)) < weight_piece (piece_in fs i) → weight_fields (change_in fs i f) < weight_fields fs
unfolding piece_in change_in weight
fields_changed_less done i f h = absurd (omega arith)
fields_changed_less (absent fs) zero f h = absurd (omega arith)
fields_changed_less (absent fs) (suc i) f h = fields_changed_less fs i f h
fields_changed_less (field p fs) zero f h = omega arith
fields_changed_less (field p fs) (suc i) f h = let k = fields_changed_less fs i f h in omega arith

pub two_light : (fs : Fields) (i j : ℕ) → i < j → weight_piece (piece_in fs i) + weight_piece (piece_in fs j) ≤ weight_fields fs
unfolding piece_in weight
two_light done i j h = omega arith
two_light (absent fs) zero zero h = absurd (omega arith)
two_light (absent fs) zero (suc j) h = let k = piece_light_in fs j in omega arith
two_light (absent fs) (suc i) zero h = absurd (omega arith)
two_light (absent fs) (suc i) (suc j) h = two_light fs i j (omega arith)
two_light (field p fs) zero zero h = absurd (omega arith)
two_light (field p fs) zero (suc j) h = let k = piece_light_in fs j in omega arith
two_light (field p fs) (suc i) zero h = absurd (omega arith)
two_light (field p fs) (suc i) (suc j) h = let k = two_light fs i j (omega arith) in omega arith

-- ---- nodes

pub extra_changed : (k : ℕ) (fs : Fields) (i : ℕ) (f : Piece → Piece) → extra k (change_in fs i f) ≡ extra k fs
unfolding extra
extra_changed k fs i f = rw (stands_changed fs i f 1)

pub factor_monotone : (k v w : ℕ) → v ≤ w → factor k * v ≤ factor k * w
unfolding factor
factor_monotone k v w h = go (is_head k) (eqb k 4)
  where
    go : (b c : Bool) → cond b 10 (cond c 2 1) * v ≤ cond b 10 (cond c 2 1) * w
    go true c = omega arith
    go false true = omega arith
    go false false = omega arith

factor_strict : (k v w : ℕ) → v < w → factor k * v < factor k * w
unfolding factor
factor_strict k v w h = go (is_head k) (eqb k 4)
  where
    go : (b c : Bool) → cond b 10 (cond c 2 1) * v < cond b 10 (cond c 2 1) * w
    go true c = omega arith
    go false true = omega arith
    go false false = omega arith

pub change_light : (i : ℕ) (f : Piece → Piece) → ((p : Piece) → weight_piece (f p) ≤ weight_piece p) → (n : Node) → weight (change i f n) ≤ weight n
unfolding change weight
change_light i f light (node at k fs) =
    let e = extra_changed k fs i f in
    let m = factor_monotone k (weight_fields (change_in fs i f)) (weight_fields fs) (fields_changed fs i f (light (piece_in fs i))) in
    omega arith

pub change_less : (i : ℕ) (f : Piece → Piece) (at k : ℕ) (fs : Fields) → weight_piece (f (piece_in fs i)) < weight_piece (piece_in fs i) → weight (change i f (node at k fs)) < weight (node at k fs)
unfolding change weight
change_less i f at k fs h =
    let e = extra_changed k fs i f in
    let m = factor_strict k (weight_fields (change_in fs i f)) (weight_fields fs) (fields_changed_less fs i f h) in
    omega arith

pub change_node_light : (i : ℕ) (f : Node → Node) → ((n : Node) → weight (f n) ≤ weight n) → (n : Node) → weight (change_node i f n) ≤ weight n
change_node_light i f light n = change_light i (on_node f) (node_light f light) n

pub change_items_light : (i : ℕ) (f : Items → Items) → ((is : Items) → weight_items (f is) ≤ weight_items is) → (n : Node) → weight (change_items i f n) ≤ weight n
change_items_light i f light n = change_light i (on_items f) (list_light f light) n

pub change_each_light : (i : ℕ) (f : Node → Node) → ((n : Node) → weight (f n) ≤ weight n) → (n : Node) → weight (change_items i (each f) n) ≤ weight n
change_each_light i f light n = change_items_light i (each f) (each_light f light) n
