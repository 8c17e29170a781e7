-- Laws of a node some of whose fields are changed or gone.
-- Assumes nothing.
use mathlib.Core.Path.{◌≡◌, refl, ap, sym}
use mathlib.Core.Bool.{false}
use Prim.Native.Nat.{ℕ, zero, suc}
use Rattle.tree.specs.Tree.{Node, Piece, Fields, Items}
use Rattle.tree.specs.Tree.Node.{node}
use Rattle.tree.specs.Tree.Fields.{done, absent, field}
use Rattle.tree.specs.Tree.Piece.{one, list, text, byte, mark, number}
use Rattle.lowering.specs.Parts.{position, change, stands_in, change_in, drop_in, piece_in, items_at_of, on_items, change_items, change_node, node_at_of, nothing, as_node, on_node, as_items_of, each, is, without, stands}
use Rattle.lowering.specs.Patterns.{shape}

pub position_changed : (i : ℕ) (f : Piece → Piece) (q : Node) → position (change i f q) ≡ position q
unfolding change
position_changed i f (node at k fs) = refl

pub shape_changed : (i : ℕ) (f : Piece → Piece) (n : Node) → shape (change i f n) ≡ shape n
unfolding shape change
shape_changed i f (node at k fs) = refl

pub stands_changed : (fs : Fields) (i : ℕ) (f : Piece → Piece) (j : ℕ) → stands_in (change_in fs i f) j ≡ stands_in fs j
unfolding stands_in change_in
stands_changed done i f j = refl
stands_changed (absent fs) zero f zero = refl
stands_changed (absent fs) zero f (suc j) = refl
stands_changed (absent fs) (suc i) f zero = refl
stands_changed (absent fs) (suc i) f (suc j) = stands_changed fs i f j
stands_changed (field p fs) zero f zero = refl
stands_changed (field p fs) zero f (suc j) = refl
stands_changed (field p fs) (suc i) f zero = refl
stands_changed (field p fs) (suc i) f (suc j) = stands_changed fs i f j

pub stands_dropped : (fs : Fields) (i : ℕ) → stands_in (drop_in fs i) i ≡ false
unfolding stands_in drop_in
stands_dropped done i = refl
stands_dropped (absent fs) zero = refl
stands_dropped (absent fs) (suc i) = stands_dropped fs i
stands_dropped (field p fs) zero = refl
stands_dropped (field p fs) (suc i) = stands_dropped fs i

pub change_same : (fs : Fields) (i : ℕ) (f : Piece → Piece) → f (piece_in fs i) ≡ piece_in fs i → change_in fs i f ≡ fs
unfolding piece_in change_in
change_same Fields.done i f h = refl
change_same (Fields.absent fs) zero f h = refl
change_same (Fields.absent fs) (suc i) f h = ap Fields.absent (change_same fs i f h)
change_same (Fields.field p fs) zero f h = ap (λ (q : Piece). Fields.field q fs) h
change_same (Fields.field p fs) (suc i) f h = ap (Fields.field p) (change_same fs i f h)

pub list_same : (f : Items → Items) (p : Piece) → f (as_items_of p) ≡ as_items_of p → on_items f p ≡ p
unfolding on_items
list_same f (one n) h = refl
list_same f (list is) h = ap list h
list_same f (text bs) h = refl
list_same f (byte b) h = refl
list_same f (mark b) h = refl
list_same f (number b) h = refl

pub change_items_same : (i : ℕ) (f : Items → Items) (n : Node) → f (items_at_of i n) ≡ items_at_of i n → change_items i f n ≡ n
unfolding change items_at_of
change_items_same i f (node at k fs) h = ap (node at k) (change_same fs i (on_items f) (list_same f (piece_in fs i) h))

piece_same : (f : Node → Node) (p : Piece) → f (as_node p) ≡ as_node p → on_node f p ≡ p
unfolding on_node
piece_same f (one n) h = ap one h
piece_same f (list is) h = refl
piece_same f (text bs) h = refl
piece_same f (byte b) h = refl
piece_same f (mark b) h = refl
piece_same f (number b) h = refl

pub change_node_same : (i : ℕ) (f : Node → Node) (n : Node) → f (node_at_of i n) ≡ node_at_of i n → change_node i f n ≡ n
unfolding change node_at_of
change_node_same i f (node at k fs) h = ap (node at k) (change_same fs i (on_node f) (piece_same f (piece_in fs i) h))

pub node_on : (f : Node → Node) → f nothing ≡ nothing → (p : Piece) → as_node (on_node f p) ≡ f (as_node p)
unfolding on_node
node_on f h (one n) = refl
node_on f h (list is) = sym h
node_on f h (text bs) = sym h
node_on f h (byte b) = sym h
node_on f h (mark b) = sym h
node_on f h (number b) = sym h

pub node_on_twice : (f g : Node → Node) (p : Piece) → on_node f (on_node g p) ≡ on_node (λ n. f (g n)) p
unfolding on_node
node_on_twice f g (one n) = refl
node_on_twice f g (list is) = refl
node_on_twice f g (text bs) = refl
node_on_twice f g (byte b) = refl
node_on_twice f g (mark b) = refl
node_on_twice f g (number b) = refl

pub each_on : (f : Node → Node) (p : Piece) → as_items_of (on_items (each f) p) ≡ each f (as_items_of p)
unfolding on_items each
each_on f (one n) = refl
each_on f (list is) = refl
each_on f (text bs) = refl
each_on f (byte b) = refl
each_on f (mark b) = refl
each_on f (number b) = refl

pub is_without : (n : Node) (j : ℕ) → is j (without 1 n) ≡ is j n
unfolding without is
is_without (node at k fs) j = refl

pub items_without : (n : Node) → items_at_of 0 (without 1 n) ≡ items_at_of 0 n
unfolding items_at_of without drop_in piece_in
items_without (node at k done) = refl
items_without (node at k (absent fs)) = refl
items_without (node at k (field p fs)) = refl

pub stands_without : (i : ℕ) (n : Node) → stands i (without i n) ≡ false
unfolding stands without
stands_without i (node at k fs) = stands_dropped fs i

pub items_changed_in : (f : Node → Node) (fs : Fields) (i : ℕ) → as_items_of (piece_in (change_in fs i (on_items (each f))) i) ≡ each f (as_items_of (piece_in fs i))
unfolding change_in piece_in each
items_changed_in f done i = refl
items_changed_in f (absent fs) zero = refl
items_changed_in f (absent fs) (suc i) = items_changed_in f fs i
items_changed_in f (field p fs) zero = each_on f p
items_changed_in f (field p fs) (suc i) = items_changed_in f fs i

pub items_changed : (i : ℕ) (f : Node → Node) (n : Node) → items_at_of i (change_items i (each f) n) ≡ each f (items_at_of i n)
unfolding items_at_of change
items_changed i f (node at k fs) = items_changed_in f fs i
