-- What holds of each part of a node holds of the part at a place; how deep an item is, and what is in it.
-- Assumes nothing.
use Prim.Native.Nat.{ℕ, ◌≤◌}
use native.Mathlib.Omega.{arith}
use Rattle.tree.specs.Tree.{Node, Fields, Piece, Items, depth, depth_items}
use Rattle.lowering.specs.Visits.{ItemAt, NodeIn, FieldAt, PartAt}
use Rattle.lowering.specs.Collect.{nodes, nodes_items}
use Rattle.lowering.proofs.Appearance.{In, in_first, in_second}
use Rattle.lowering.proofs.All.{AllItems, AllPiece, AllFields, Each}

pub item_at : (P : Node → Type 0) {is : Items} {j : ℕ} {x : Node} → ItemAt is j x → AllItems P is → P x
item_at P ItemAt.first h = h.0
item_at P (ItemAt.behind a) h = item_at P a h.1
item_at P (ItemAt.behind_hole a) h = item_at P a h

pub piece_at : (P : Node → Type 0) {p : Piece} {j : ℕ} {x : Node} → NodeIn p j x → AllPiece P p → P x
piece_at P NodeIn.one h = h
piece_at P (NodeIn.list a) h = item_at P a h

pub field_at : (P : Node → Type 0) {fs : Fields} {i j : ℕ} {x : Node} → FieldAt fs i j x → AllFields P fs → P x
field_at P (FieldAt.first a) h = piece_at P a h.0
field_at P (FieldAt.behind a) h = field_at P a h.1
field_at P (FieldAt.behind_absent a) h = field_at P a h

pub part_at : (P : Node → Type 0) {n x : Node} {i j : ℕ} → PartAt n i j x → Each P n → P x
part_at P (PartAt.part a) h = field_at P a h

pub item_depth : {is : Items} {j : ℕ} {x : Node} → ItemAt is j x → depth x ≤ depth_items is
unfolding depth
item_depth ItemAt.first = omega arith
item_depth (ItemAt.behind a) = let l = item_depth a in omega arith
item_depth (ItemAt.behind_hole a) = item_depth a

pub item_nodes : (x : Node) {is : Items} {j : ℕ} {y : Node} → ItemAt is j y → In x (nodes y) → In x (nodes_items is)
unfolding nodes
item_nodes x (ItemAt.first {is = is}) i = in_first (nodes_items is) i
item_nodes x (ItemAt.behind {n = n} a) i = in_second (nodes n) (item_nodes x a i)
item_nodes x (ItemAt.behind_hole a) i = item_nodes x a i
