-- A tree without the statements whose marks are new, and what these declare.
use Rattle.std.specs.Prelude.{ℕ, Bool, true, false, cond, List, [], ◌∷◌, ◌++◌}
use Rattle.std.proofs.Math.Option.{Option, none, some}
use Rattle.tree.specs.Tree.{Node, Fields, Piece, Items}
use Rattle.tree.specs.Tree.Node.{node}
use Rattle.tree.specs.Tree.Fields.{done, absent, field}
use Rattle.tree.specs.Tree.Piece.{one, list, text, byte, mark, number}
use Rattle.tree.specs.Tree.Items.{hole, item}
use Rattle.joining.specs.Join.{own_mark}

-- the lists among the fields of a node; of a Declaration its declarators
abbrev pub list_in : Piece → List Items
list_in (one n) = []
list_in (list is) = is ∷ []
list_in (text bs) = []
list_in (byte b) = []
list_in (mark m) = []
list_in (number n) = []

unfoldable pub lists_in : Fields → List Items
lists_in done = []
lists_in (absent fs) = lists_in fs
lists_in (field p fs) = list_in p ++ lists_in fs

abbrev pub lists_of : Node → List Items
lists_of (node at kind fs) = lists_in fs

-- excluded keys, if there are any
abbrev pub if_any : Items → List Items
if_any Items.none = []
if_any (hole ds) = hole ds ∷ []
if_any (item d ds) = item d ds ∷ []

module _ (new : ℕ → Bool) where
  abbrev pub is_new : Option ℕ → Bool
  is_new none = false
  is_new (some m) = new m

  abbrev pub unless_new : Bool → Node → Items → Items
  unless_new true n is = is
  unless_new false n is = item n is

  unfoldable mutual
    pub without : Node → Node
    without (node at kind fs) = node at kind (without_fields fs)

    pub without_fields : Fields → Fields
    without_fields done = done
    without_fields (absent fs) = absent (without_fields fs)
    without_fields (field p fs) = field (without_piece p) (without_fields fs)

    pub without_piece : Piece → Piece
    without_piece (one n) = one (without n)
    without_piece (list is) = list (without_items is)
    without_piece (text bs) = text bs
    without_piece (byte b) = byte b
    without_piece (mark m) = mark m
    without_piece (number n) = number n

    pub without_items : Items → Items
    without_items Items.none = Items.none
    without_items (hole is) = hole (without_items is)
    without_items (item n is) = unless_new (is_new (own_mark n)) (without n) (without_items is)

  -- the declarators of the new statements, in byte order
  unfoldable mutual
    pub declared : Node → List Items
    declared (node at kind fs) = declared_fields fs

    pub declared_fields : Fields → List Items
    declared_fields done = []
    declared_fields (absent fs) = declared_fields fs
    declared_fields (field p fs) = declared_piece p ++ declared_fields fs

    pub declared_piece : Piece → List Items
    declared_piece (one n) = declared n
    declared_piece (list is) = declared_items is
    declared_piece (text bs) = []
    declared_piece (byte b) = []
    declared_piece (mark m) = []
    declared_piece (number n) = []

    pub declared_items : Items → List Items
    declared_items Items.none = []
    declared_items (hole is) = declared_items is
    declared_items (item n is) = cond (is_new (own_mark n)) (lists_of n) (declared n) ++ declared_items is
