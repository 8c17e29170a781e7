-- A node's text is its own bytes and its children's texts, each child once, in field order. (The quasis of a Template print
-- nothing at their own places; their spellings stand among the own bytes, before its expressions or behind the last.)
-- Assumes nothing.
use mathlib.Core.Path.{◌≡◌, refl, sym, ap, ◌∙◌}
use mathlib.Core.Bool.{cond}
use mathlib.Core.List.{List, [], ◌∷◌, ◌++◌, append_assoc, append-nil}
use Prim.Native.Nat.{ℕ}
use Rattle.tree.specs.Tree.{Node, Fields, Piece, Items, map_of}
use Rattle.tree.specs.Tree.Node.{node}
use Rattle.tree.specs.Tree.Fields.{done, absent, field}
use Rattle.tree.specs.Tree.Piece.{one, list, text, byte, mark, number}
use Rattle.tree.specs.Tree.Items.{none, hole, item}
use Rattle.printer.specs.Layout.{word}
use Rattle.printer.specs.Places.{separator, begun, opening, closing, item_seen, list_opening, listed, list_closing, is_filled, leaves, text_bytes, number_bytes}
use Rattle.printer.specs.Text.{Cell, note_of, first, later, left_over_of, around_node, after_piece, quasis_for, quasis_after, text_node, text_fields, text_piece, text_items}
use Rattle.printer.specs.Children.{Part, items_of, nodes_in, children_of, parts_items, parts_piece, parts_fields, parts_of, part_text, flat, children_in}
use Rattle.printer.specs.Children.Part.{own, child}
use Rattle.printer.specs.declared.frame.Frame.{Frame}

flat_append : (a b : List Part) → flat (a ++ b) ≡ flat a ++ flat b
unfolding flat
flat_append [] b = refl
flat_append (p ∷ a) b = ap (λ (l : List ℕ). part_text p ++ l) (flat_append a b) ∙ sym (append_assoc (part_text p) (flat a) (flat b))

children_append : (a b : List Part) → children_in (a ++ b) ≡ children_in a ++ children_in b
unfolding children_in
children_append [] b = refl
children_append (own bs ∷ a) b = children_append a b
children_append (child f qs n ∷ a) b = ap (λ (l : List Node). n ∷ l) (children_append a b)

items_parts : (is : Items) (l : Frame) (qs : List Cell) → text_items l qs is ≡ flat (parts_items l qs is)
unfolding text_items parts_items flat
items_parts none l qs = sym (append-nil (list_closing l ++ cond (leaves l) (left_over_of qs) []))
items_parts (hole is) l qs = ap (λ (x : List ℕ). word (separator l) ++ x) (items_parts is (item_seen l 2) qs)
items_parts (item n is) l qs = ap (λ (x : List ℕ). text_node l qs n ++ x) (items_parts is (around_node l n) (cond (is_filled l) (later qs) qs))

piece_parts : (p : Piece) (f : Frame) (qs : List Cell) → text_piece f qs p ≡ flat (parts_piece f qs p)
unfolding text_piece flat
piece_parts (one n) f qs = sym (append-nil (text_node f qs n))
piece_parts (list is) f qs = ap (λ (x : List ℕ). list_opening f ++ x) (items_parts is (listed f) (quasis_for f qs is))
piece_parts (text bs) f qs = sym (append-nil (text_bytes f bs))
piece_parts (byte b) f qs = refl
piece_parts (mark n) f qs = refl
piece_parts (number n) f qs = sym (append-nil (number_bytes f n))

fields_parts : (fs : Fields) (f : Frame) (qs : List Cell) → text_fields f qs fs ≡ flat (parts_fields f qs fs)
unfolding text_fields parts_fields flat
fields_parts done f qs = sym (append-nil (closing f))
fields_parts (absent fs) f qs = fields_parts fs f qs
fields_parts (field p fs) f qs =
    ap (λ (x : List ℕ). x ++ text_fields (after_piece f p) (quasis_after f qs p) fs) (piece_parts p f qs)
    ∙ ap (λ (x : List ℕ). flat (parts_piece f qs p) ++ x) (fields_parts fs (after_piece f p) (quasis_after f qs p))
    ∙ sym (flat_append (parts_piece f qs p) (parts_fields (after_piece f p) (quasis_after f qs p) fs))

items_children : (is : Items) (l : Frame) (qs : List Cell) → children_in (parts_items l qs is) ≡ items_of is
unfolding children_in parts_items items_of
items_children none l qs = refl
items_children (hole is) l qs = items_children is (item_seen l 2) qs
items_children (item n is) l qs = ap (λ (x : List Node). n ∷ x) (items_children is (around_node l n) (cond (is_filled l) (later qs) qs))

piece_children : (p : Piece) (f : Frame) (qs : List Cell) → children_in (parts_piece f qs p) ≡ nodes_in p
unfolding children_in
piece_children (one n) f qs = refl
piece_children (list is) f qs = items_children is (listed f) (quasis_for f qs is)
piece_children (text bs) f qs = refl
piece_children (byte b) f qs = refl
piece_children (mark n) f qs = refl
piece_children (number n) f qs = refl

fields_children : (fs : Fields) (f : Frame) (qs : List Cell) → children_in (parts_fields f qs fs) ≡ children_of fs
unfolding children_in parts_fields children_of
fields_children done f qs = refl
fields_children (absent fs) f qs = fields_children fs f qs
fields_children (field p fs) f qs =
    children_append (parts_piece f qs p) (parts_fields (after_piece f p) (quasis_after f qs p) fs)
    ∙ ap (λ (x : List Node). x ++ children_in (parts_fields (after_piece f p) (quasis_after f qs p) fs)) (piece_children p f qs)
    ∙ ap (λ (x : List Node). nodes_in p ++ x) (fields_children fs (after_piece f p) (quasis_after f qs p))

-- the law, for a node in any place
pub each_child_once : (at kind : ℕ) (fs : Fields) (p : Frame) (qs : List Cell) → (text_node p qs (node at kind fs) ≡ flat (parts_of p qs (node at kind fs))) × (children_in (parts_of p qs (node at kind fs)) ≡ children_of fs)
unfolding text_node flat children_in
each_child_once at kind fs p qs = (
  ap (λ (x : List ℕ). opening p kind (map_of fs) (note_of fs) (cond (is_filled p) (first qs) []) ++ x) (fields_parts fs (begun p kind (map_of fs) (note_of fs)) []),
  fields_children fs (begun p kind (map_of fs) (note_of fs)) [],
)
