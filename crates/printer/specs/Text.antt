-- The text of a rewritten tree, by recursion on the tree.
use Rattle.std.specs.Prelude.{ℕ, List, [], ◌∷◌, ◌++◌, cond}
use Rattle.tree.specs.Tree.{Node, Fields, Piece, Items, map_of, count}
use Rattle.tree.specs.Tree.Node.{node}
use Rattle.tree.specs.Tree.Fields.{done, absent, field}
use Rattle.tree.specs.Tree.Piece.{one, list, text, byte, mark, number}
use Rattle.tree.specs.Tree.Items.{none, hole, item}
use Rattle.printer.specs.Layout.{word}
use Rattle.printer.specs.Places.{past, separator, begun, opening, closing, item_seen, around, list_opening, listed, unlisted, list_closing, is_quasis, is_filled, leaves, text_bytes, text_past, is_quasi, number_bytes}
use Rattle.printer.specs.declared.frame.Frame.{Frame}

-- the byte of a node: its flags, stem, sort, op or await; 0 if it has none
abbrev pub note_by : ℕ → Piece → ℕ
note_by b (one n) = b
note_by b (list is) = b
note_by b (text bs) = b
note_by b (byte v) = v
note_by b (mark n) = b
note_by b (number n) = b

unfoldable pub note_from : ℕ → Fields → ℕ
note_from b done = b
note_from b (absent fs) = note_from b fs
note_from b (field p fs) = note_from (note_by b p) fs

abbrev pub note_of : Fields → ℕ
note_of fs = note_from 0 fs

-- ---- quasis: they wait until the expressions come

pub data Cell : Type 0 where
  quasi : List ℕ → Cell
  stop : Cell  -- behind the last quasi of a Template

abbrev pub cell_text : Cell → List ℕ
cell_text (quasi bs) = bs
cell_text stop = []

-- the next quasi, and those after it
abbrev pub first : List Cell → List ℕ
first [] = []
first (c ∷ cs) = cell_text c

abbrev pub later : List Cell → List Cell
later [] = []
later (quasi bs ∷ cs) = cs
later (stop ∷ cs) = stop ∷ cs

-- all that are left
unfoldable pub left_over_of : List Cell → List ℕ
left_over_of [] = []
left_over_of (quasi bs ∷ cs) = bs ++ left_over_of cs
left_over_of (stop ∷ cs) = []

-- ---- the frame of a node after a field, of a list after an item

abbrev pub around_node : Frame → Node → Frame
around_node p (node at kind fs) = around p kind (map_of fs)

abbrev pub after_piece : Frame → Piece → Frame
after_piece f (one n) = around_node f n
after_piece f (list is) = unlisted f (count is)
after_piece f (text bs) = text_past f bs
after_piece f (byte b) = past f
after_piece f (mark n) = past f
after_piece f (number n) = past f

-- ---- the quasis that the Literals of a part hold

unfoldable mutual
  pub held_node : Frame → Node → List Cell
  held_node p (node at kind fs) = held_fields (begun p kind (map_of fs) (note_of fs)) fs

  pub held_fields : Frame → Fields → List Cell
  held_fields f done = []
  held_fields f (absent fs) = held_fields f fs
  held_fields f (field p fs) = held_piece f p ++ held_fields (after_piece f p) fs

  pub held_piece : Frame → Piece → List Cell
  held_piece f (one n) = held_node f n
  held_piece f (list is) = held_items_of (listed f) is ++ cond (is_quasis (listed f)) (stop ∷ []) []
  held_piece f (text bs) = cond (is_quasi f) (quasi bs ∷ []) []
  held_piece f (byte b) = []
  held_piece f (mark n) = []
  held_piece f (number n) = []

  pub held_items_of : Frame → Items → List Cell
  held_items_of l none = []
  held_items_of l (hole is) = held_items_of (item_seen l 2) is
  held_items_of l (item n is) = held_node l n ++ held_items_of (around_node l n) is

-- the quasis for the items of a list, and for the fields after a field
abbrev pub quasis_for : Frame → List Cell → Items → List Cell
quasis_for f qs is = cond (is_quasis (listed f)) (held_items_of (listed f) is) qs

abbrev pub quasis_after : Frame → List Cell → Piece → List Cell
quasis_after f qs (one n) = qs
quasis_after f qs (list is) = quasis_for f qs is
quasis_after f qs (text bs) = qs
quasis_after f qs (byte b) = qs
quasis_after f qs (mark n) = qs
quasis_after f qs (number n) = qs

-- ---- the text; p is what is around the node, qs the quasis that wait

unfoldable mutual
  pub text_node : Frame → List Cell → Node → List ℕ
  text_node p qs (node at kind fs) =
      opening p kind (map_of fs) (note_of fs) (cond (is_filled p) (first qs) [])
      ++ text_fields (begun p kind (map_of fs) (note_of fs)) [] fs

  pub text_fields : Frame → List Cell → Fields → List ℕ
  text_fields f qs done = closing f
  text_fields f qs (absent fs) = text_fields f qs fs
  text_fields f qs (field p fs) = text_piece f qs p ++ text_fields (after_piece f p) (quasis_after f qs p) fs

  pub text_piece : Frame → List Cell → Piece → List ℕ
  text_piece f qs (one n) = text_node f qs n
  text_piece f qs (list is) = list_opening f ++ text_items (listed f) (quasis_for f qs is) is
  text_piece f qs (text bs) = text_bytes f bs
  text_piece f qs (byte b) = []
  text_piece f qs (mark n) = []
  text_piece f qs (number n) = number_bytes f n

  pub text_items : Frame → List Cell → Items → List ℕ
  text_items l qs none = list_closing l ++ cond (leaves l) (left_over_of qs) []
  text_items l qs (hole is) = word (separator l) ++ text_items (item_seen l 2) qs is
  text_items l qs (item n is) = text_node l qs n ++ text_items (around_node l n) (cond (is_filled l) (later qs) qs) is

-- what is around the Program
abbrev pub outside : Frame
outside = record { kind = 0; map = 1; note = 0; how = 0; seen = 0; rem = 1; list = 0 }

unfoldable pub text_of : Node → List ℕ
text_of n = text_node outside [] n
