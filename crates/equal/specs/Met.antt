-- The canonical form in one pass, as code that reads a tree from front to back gives it: the numbers met so far go along.
use Rattle.std.specs.Prelude.{ℕ, suc, Bool, false, cond, List, [], ◌∷◌, eqb, length}
use Rattle.tree.specs.Tree.{Node, Fields, Piece, Items}
use Rattle.tree.specs.Tree.Node.{node}
use Rattle.tree.specs.Tree.Fields.{done, absent, field}
use Rattle.tree.specs.Tree.Piece.{one, list, text, byte, mark, number}
use Rattle.tree.specs.Tree.Items.{none, hole, item}

-- the place of a number among those met, the last one met first; 0 if it is none of them
unfoldable pub place_in : List ℕ → ℕ → ℕ
place_in [] n = 0
place_in (m ∷ ms) n = cond (eqb m n) (suc (length ms)) (place_in ms n)

-- a number is met
unfoldable pub meet : List ℕ → ℕ → List ℕ
meet ms n = cond (eqb (place_in ms n) 0) (n ∷ ms) ms

-- its place then
unfoldable pub place : List ℕ → ℕ → ℕ
place ms n = cond (eqb (place_in ms n) 0) (suc (length ms)) (place_in ms n)

-- ---- the numbers met after a tree; t: the next field that stands is a temporary's first

unfoldable mutual
  pub met : Node → List ℕ → List ℕ
  met (node at k fs) ms = met_fields fs (eqb k 20) ms

  pub met_fields : Fields → Bool → List ℕ → List ℕ
  met_fields done t ms = ms
  met_fields (absent fs) t ms = met_fields fs t ms
  met_fields (field p fs) t ms = met_fields fs false (met_piece p t ms)

  pub met_piece : Piece → Bool → List ℕ → List ℕ
  met_piece (one n) t ms = met n ms
  met_piece (list is) t ms = met_items is ms
  met_piece (text bs) t ms = ms
  met_piece (byte b) t ms = ms
  met_piece (mark b) t ms = ms
  met_piece (number b) t ms = cond t (meet ms b) ms

  pub met_items : Items → List ℕ → List ℕ
  met_items none ms = ms
  met_items (hole is) ms = met_items is ms
  met_items (item n is) ms = met_items is (met n ms)

-- ---- the tree with places, behind the numbers met before it

unfoldable mutual
  pub in_turn : Node → List ℕ → Node
  in_turn (node at k fs) ms = node at k (in_turn_fields fs (eqb k 20) ms)

  pub in_turn_fields : Fields → Bool → List ℕ → Fields
  in_turn_fields done t ms = done
  in_turn_fields (absent fs) t ms = absent (in_turn_fields fs t ms)
  in_turn_fields (field p fs) t ms = field (in_turn_piece p t ms) (in_turn_fields fs false (met_piece p t ms))

  pub in_turn_piece : Piece → Bool → List ℕ → Piece
  in_turn_piece (one n) t ms = one (in_turn n ms)
  in_turn_piece (list is) t ms = list (in_turn_items is ms)
  in_turn_piece (text bs) t ms = text bs
  in_turn_piece (byte b) t ms = byte b
  in_turn_piece (mark b) t ms = mark b
  in_turn_piece (number b) t ms = number (cond t (place ms b) b)

  pub in_turn_items : Items → List ℕ → Items
  in_turn_items none ms = none
  in_turn_items (hole is) ms = hole (in_turn_items is ms)
  in_turn_items (item n is) ms = item (in_turn n ms) (in_turn_items is (met n ms))
