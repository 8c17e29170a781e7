-- A node's text as its own bytes and its children's texts.
use Rattle.std.specs.Prelude.{ℕ, List, [], ◌∷◌, ◌++◌, cond}
use Rattle.tree.specs.Tree.{Node, Fields, Piece, Items, map_of}
use Rattle.tree.specs.Tree.Node.{node}
use Rattle.tree.specs.Tree.Fields.{done, absent, field}
use Rattle.tree.specs.Tree.Piece.{one, list, text, byte, mark, number}
use Rattle.tree.specs.Tree.Items.{none, hole, item}
use Rattle.printer.specs.Layout.{word}
use Rattle.printer.specs.Places.{separator, begun, opening, closing, item_seen, list_opening, listed, list_closing, is_filled, leaves, text_bytes, number_bytes}
use Rattle.printer.specs.Text.{Cell, note_of, first, later, left_over_of, around_node, after_piece, quasis_for, quasis_after, text_node}
use Rattle.printer.specs.declared.frame.Frame.{Frame}

-- the node's own bytes, or a child with what is around it
pub data Part : Type 0 where
  own : List ℕ → Part
  child : Frame → List Cell → Node → Part

-- the children of a node in field order
unfoldable pub items_of : Items → List Node
items_of none = []
items_of (hole is) = items_of is
items_of (item n is) = n ∷ items_of is

abbrev pub nodes_in : Piece → List Node
nodes_in (one n) = n ∷ []
nodes_in (list is) = items_of is
nodes_in (text bs) = []
nodes_in (byte b) = []
nodes_in (mark n) = []
nodes_in (number n) = []

unfoldable pub children_of : Fields → List Node
children_of done = []
children_of (absent fs) = children_of fs
children_of (field p fs) = nodes_in p ++ children_of fs

unfoldable pub parts_items : Frame → List Cell → Items → List Part
parts_items l qs none = own (list_closing l ++ cond (leaves l) (left_over_of qs) []) ∷ []
parts_items l qs (hole is) = own (word (separator l)) ∷ parts_items (item_seen l 2) qs is
parts_items l qs (item n is) = child l qs n ∷ parts_items (around_node l n) (cond (is_filled l) (later qs) qs) is

abbrev pub parts_piece : Frame → List Cell → Piece → List Part
parts_piece f qs (one n) = child f qs n ∷ []
parts_piece f qs (list is) = own (list_opening f) ∷ parts_items (listed f) (quasis_for f qs is) is
parts_piece f qs (text bs) = own (text_bytes f bs) ∷ []
parts_piece f qs (byte b) = []
parts_piece f qs (mark n) = []
parts_piece f qs (number n) = own (number_bytes f n) ∷ []

unfoldable pub parts_fields : Frame → List Cell → Fields → List Part
parts_fields f qs done = own (closing f) ∷ []
parts_fields f qs (absent fs) = parts_fields f qs fs
parts_fields f qs (field p fs) = parts_piece f qs p ++ parts_fields (after_piece f p) (quasis_after f qs p) fs

abbrev pub parts_of : Frame → List Cell → Node → List Part
parts_of p qs (node at kind fs) =
    own (opening p kind (map_of fs) (note_of fs) (cond (is_filled p) (first qs) []))
    ∷ parts_fields (begun p kind (map_of fs) (note_of fs)) [] fs

abbrev pub part_text : Part → List ℕ
part_text (own bs) = bs
part_text (child f qs n) = text_node f qs n

unfoldable pub flat : List Part → List ℕ
flat [] = []
flat (p ∷ ps) = part_text p ++ flat ps

unfoldable pub children_in : List Part → List Node
children_in [] = []
children_in (own bs ∷ ps) = children_in ps
children_in (child f qs n ∷ ps) = n ∷ children_in ps
