-- The canonical form of a tree: each temporary has the place of its first appearance, from 1, in place of its number. All else stands as
-- it is. A temporary is a node of kind 20; its number is the first field that stands, and its stem, which stands behind that, is kept.
use Rattle.std.specs.Prelude.{ℕ, Bool, false, cond, List, [], ◌∷◌, ◌++◌, eqb}
use Rattle.tree.specs.Tree.{Node, Fields, Piece, Items}
use Rattle.tree.specs.Tree.Node.{node}
use Rattle.tree.specs.Tree.Fields.{done, absent, field}
use Rattle.tree.specs.Tree.Piece.{one, list, text, byte, mark, number}
use Rattle.tree.specs.Tree.Items.{none, hole, item}
use Rattle.lowering.specs.Collect.{Entry, over, distinct, number_in}

-- ---- the numbers of the temporaries in byte order; t: the next field that stands is a temporary's first

unfoldable mutual
  pub numbers : Node → List ℕ
  numbers (node at k fs) = numbers_fields (eqb k 20) fs

  pub numbers_fields : Bool → Fields → List ℕ
  numbers_fields t done = []
  numbers_fields t (absent fs) = numbers_fields t fs
  numbers_fields t (field p fs) = numbers_piece t p ++ numbers_fields false fs

  pub numbers_piece : Bool → Piece → List ℕ
  numbers_piece t (one n) = numbers n
  numbers_piece t (list is) = numbers_items is
  numbers_piece t (text bs) = []
  numbers_piece t (byte b) = []
  numbers_piece t (mark b) = []
  numbers_piece t (number b) = cond t (b ∷ []) []

  pub numbers_items : Items → List ℕ
  numbers_items none = []
  numbers_items (hole is) = numbers_items is
  numbers_items (item n is) = numbers n ++ numbers_items is

-- ---- the tree with each of them changed by f

module _ (f : ℕ → ℕ) where
  unfoldable mutual
    pub renumbered : Node → Node
    renumbered (node at k fs) = node at k (renumbered_fields (eqb k 20) fs)

    pub renumbered_fields : Bool → Fields → Fields
    renumbered_fields t done = done
    renumbered_fields t (absent fs) = absent (renumbered_fields t fs)
    renumbered_fields t (field p fs) = field (renumbered_piece t p) (renumbered_fields false fs)

    pub renumbered_piece : Bool → Piece → Piece
    renumbered_piece t (one n) = one (renumbered n)
    renumbered_piece t (list is) = list (renumbered_items is)
    renumbered_piece t (text bs) = text bs
    renumbered_piece t (byte b) = byte b
    renumbered_piece t (mark b) = mark b
    renumbered_piece t (number b) = number (cond t (f b) b)

    pub renumbered_items : Items → Items
    renumbered_items none = none
    renumbered_items (hole is) = hole (renumbered_items is)
    renumbered_items (item n is) = item (renumbered n) (renumbered_items is)

-- ---- the canonical form

-- the place of a number among those that appear, from 1
unfoldable pub place_of : List ℕ → ℕ → ℕ
place_of xs x = number_in eqb 1 (distinct eqb xs) x

unfoldable pub canonical : Node → Node
canonical n = renumbered (place_of (numbers n)) n

-- ---- of a result: the tree, then its list

-- a tree, the entries of its list, and the declarators of excluded keys
pub record Written : Type 0 where
  pub tree : Node
  pub entries : List Entry
  pub excluded : Items

unfoldable pub numbers_list : List Entry → Items → List ℕ
numbers_list es excluded = over (λ e. numbers_items e.declarators) es ++ numbers_items excluded

unfoldable pub numbers_written : Written → List ℕ
numbers_written w = numbers w.tree ++ numbers_list w.entries w.excluded

-- each entry changed
unfoldable pub each_entry : (Items → Items) → List Entry → List Entry
each_entry f [] = []
each_entry f (e ∷ es) = record { containing = e.containing; declarators = f e.declarators } ∷ each_entry f es

unfoldable pub renumbered_written : (ℕ → ℕ) → Written → Written
renumbered_written f w =
    record {
      tree = renumbered f w.tree;
      entries = each_entry (λ is. renumbered_items f is) w.entries;
      excluded = renumbered_items f w.excluded;
    }

unfoldable pub canonical_written : Written → Written
canonical_written w = renumbered_written (place_of (numbers_written w)) w
