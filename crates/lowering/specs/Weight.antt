-- How far down the walk may have to go. A node weighs more than each part of what its rewriting leaves in its place
-- (proofs/Falls.antt), so the walk of n ends within `weight n` levels, and more of them change nothing.
use Rattle.std.specs.Prelude.{ℕ, suc, ◌+◌, ◌*◌, Bool, cond, ◌||◌, eqb}
use Rattle.tree.specs.Tree.{Node, Fields, Piece, Items}
use Rattle.tree.specs.Tree.Node.{node}
use Rattle.tree.specs.Tree.Fields.{done, absent, field}
use Rattle.tree.specs.Tree.Piece.{one, list, text, byte, mark, number}
use Rattle.tree.specs.Tree.Items.{none, hole, item}
use Rattle.lowering.specs.Parts.{stands_in}
use Rattle.lowering.specs.Made.{Context}
use Rattle.lowering.specs.Walk.{Walked, walk}

-- kinds out of whose head patterns are moved into a body
unfoldable pub is_head : ℕ → Bool
is_head k = eqb k 7 || eqb k 8 || eqb k 10 || eqb k 14 || eqb k 17

-- what a rule may put above or beside a node
unfoldable pub extra : ℕ → Fields → ℕ
extra k fs =
    cond (is_head k) 10  -- a body of one return, or a block
    (cond (eqb k 4) 2
    (cond (eqb k 27) 2
    (cond (eqb k 26) 4  -- a call of S with its helper, and two objects
    (cond (eqb k 34) (cond (stands_in fs 1) 14 4)  -- X({}, (E(s), s)), or W(s, keys.map(K))
    (cond (eqb k 36 || eqb k 37) 4 0)))))

-- what a rule may do to the parts of a node: a `let` around each pattern of a head; two reads of the source of a declaration
unfoldable pub factor : ℕ → ℕ
factor k = cond (is_head k) 10 (cond (eqb k 4) 2 1)

unfoldable mutual
  pub weight : Node → ℕ
  weight (node at k fs) = suc (extra k fs + factor k * weight_fields fs)

  pub weight_fields : Fields → ℕ
  weight_fields done = 0
  weight_fields (absent fs) = weight_fields fs
  weight_fields (field p fs) = weight_piece p + weight_fields fs

  pub weight_piece : Piece → ℕ
  weight_piece (one n) = weight n
  weight_piece (list is) = weight_items is
  weight_piece (text bs) = 0
  weight_piece (byte b) = 0
  weight_piece (mark b) = 0
  weight_piece (number b) = 0

  pub weight_items : Items → ℕ
  weight_items none = 0
  weight_items (hole is) = weight_items is
  weight_items (item n is) = weight n + weight_items is

-- the walk of a node, to its end
unfoldable pub walked : Context → Node → Walked
walked c n = walk (weight n) c n
