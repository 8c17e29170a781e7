-- Places in a tree, and which nodes the walk comes to.
use Rattle.std.specs.Prelude.{◌≡◌, List, ◌∷◌, false, ℕ, suc}
use Rattle.tree.specs.Tree.{Node, Fields, Piece, Items}
use Rattle.tree.specs.Tree.Node.{node}
use Rattle.lowering.specs.Parts.{is}
use Rattle.lowering.specs.Made.{Context}
use Rattle.lowering.specs.Walk.{rewrite, within}

-- ---- places

-- x is item j of the list
pub data ItemAt : Items → ℕ → Node → Type 0 where
  first : {x : Node} {is : Items} → ItemAt (Items.item x is) 0 x
  behind : {n x : Node} {is : Items} {j : ℕ} → ItemAt is j x → ItemAt (Items.item n is) (suc j) x
  behind_hole : {x : Node} {is : Items} {j : ℕ} → ItemAt is j x → ItemAt (Items.hole is) (suc j) x

-- x is node j of the piece: 0 if the piece is no list
pub data NodeIn : Piece → ℕ → Node → Type 0 where
  one : {x : Node} → NodeIn (Piece.one x) 0 x
  list : {x : Node} {is : Items} {j : ℕ} → ItemAt is j x → NodeIn (Piece.list is) j x

-- x is node j of field i
pub data FieldAt : Fields → ℕ → ℕ → Node → Type 0 where
  first : {p : Piece} {fs : Fields} {j : ℕ} {x : Node} → NodeIn p j x → FieldAt (Fields.field p fs) 0 j x
  behind : {p : Piece} {fs : Fields} {i j : ℕ} {x : Node} → FieldAt fs i j x → FieldAt (Fields.field p fs) (suc i) j x
  behind_absent : {fs : Fields} {i j : ℕ} {x : Node} → FieldAt fs i j x → FieldAt (Fields.absent fs) (suc i) j x

-- the same of a node's fields
pub data PartAt : Node → ℕ → ℕ → Node → Type 0 where
  part : {at k : ℕ} {fs : Fields} {i j : ℕ} {x : Node} → FieldAt fs i j x → PartAt (node at k fs) i j x

-- m stands in n at the path q, where n itself has the path p: a pair of numbers for each node around it, the nearest first
pub data Stands : List ℕ → Node → List ℕ → Node → Type 0 where
  here : {p : List ℕ} {n : Node} → Stands p n p n
  onward : {p q : List ℕ} {n x m : Node} {i j : ℕ} → PartAt n i j x → Stands (j ∷ i ∷ p) x q m → Stands p n q m

-- ---- the walk of n in the context c comes to m in the context d: it rewrites n, and goes on with the parts of the result. A Temporary
-- has no parts in a tree

pub data Visits : Context → Node → Context → Node → Type 0 where
  here : {c : Context} {n : Node} → Visits c n c n
  onward : {c d : Context} {n x m : Node} {i j : ℕ}
      → is 20 (rewrite c n).result ≡ false
      → PartAt (rewrite c n).result i j x → Visits (within c (rewrite c n).result i j) x d m → Visits c n d m
