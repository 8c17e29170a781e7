-- How many calls of S stand in a node, each the first argument of the next; and how many a pattern gives.
use Rattle.std.specs.Prelude.{ℕ, zero, suc, Bool, true, false, cond, ◌&&◌, [], ◌∷◌, eqb}
use Rattle.tree.specs.Tree.{Node, Fields, Piece, Items}
use Rattle.tree.specs.Tree.Node.{node}
use Rattle.tree.specs.Tree.Fields.{done, absent, field}
use Rattle.tree.specs.Tree.Piece.{one, list, text, byte, mark, number}
use Rattle.tree.specs.Tree.Items.{none, hole, item}
use Rattle.lowering.specs.Parts.{is, node_at_of, number_at}
use Rattle.lowering.specs.Made.{object}
use Rattle.lowering.specs.Literals.{literal}
use Rattle.counting.specs.Patterns.{Pattern}

-- 29 Call(callee arguments*) whose callee is 21 Helper 1, ObjectSpread2
unfoldable pub calls_s : Node → Bool
calls_s n = is 29 n && (is 21 (node_at_of 0 n) && eqb (number_at 0 (node_at_of 0 n)) 1)

unfoldable mutual
  -- a call of S, and those in its first argument
  pub nested : Node → ℕ
  nested (node at k fs) = cond (calls_s (node at k fs)) (suc (field_nested fs 1)) 0

  -- of the first item of field i
  pub field_nested : Fields → ℕ → ℕ
  field_nested done i = 0
  field_nested (absent fs) zero = 0
  field_nested (absent fs) (suc i) = field_nested fs i
  field_nested (field p fs) zero = first_nested p
  field_nested (field p fs) (suc i) = field_nested fs i

  pub first_nested : Piece → ℕ
  first_nested (one n) = 0
  first_nested (list is) = item_nested is
  first_nested (text bs) = 0
  first_nested (byte b) = 0
  first_nested (mark b) = 0
  first_nested (number b) = 0

  pub item_nested : Items → ℕ
  item_nested none = 0
  item_nested (hole is) = 0
  item_nested (item n is) = nested n

-- ---- a literal for each pattern: `...a` where an item is spread, else `x: 1`

-- a name of one letter
abbrev pub reference : ℕ → Node
reference letter = node 0 18 (field (text (letter ∷ [])) (absent done))

-- `...letter`
abbrev pub spread : ℕ → Node
spread letter = node 0 26 (field (one (reference letter)) done)

-- `x: 1`
abbrev pub ordinary : Node
ordinary =
    let key = node 0 38 (field (text (120 ∷ [])) done) in
    let value = node 0 22 (field (byte 2) (field (text (49 ∷ [])) (field (text (49 ∷ [])) done))) in
    node 0 25 (field (one key) (field (one value) (field (byte 0) done)))

unfoldable pub properties : Pattern → Items
properties [] = none
properties (true ∷ p) = item (spread 97) (properties p)
properties (false ∷ p) = item ordinary (properties p)

abbrev pub sample : Pattern → Node
sample p = object (properties p)

-- the nested calls that the lowering's own rule makes of it
unfoldable pub calls : Pattern → ℕ
calls p = nested (literal (sample p))
