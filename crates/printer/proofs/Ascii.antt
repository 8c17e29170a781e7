-- A tree whose texts are ASCII prints ASCII: own bytes, quotes, escapes and digits are.
-- Assumes nothing.
use mathlib.Core.Path.{◌≡◌, refl}
use mathlib.Core.Bool.{Bool, true, false, cond}
use mathlib.Core.List.{List, [], ◌∷◌, ◌++◌}
use Prim.Native.Nat.{ℕ, zero, suc, ◌+◌, ◌/◌, ◌%◌, ◌<◌}
use native.Mathlib.Omega.{arith}
use native.Mathlib.Decide.{dec_lt}
use lib.Dec.{T, ltb, eqb}
use borrow.Author.Tests.{le-ltb, ltb-true}
use Rattle.tree.specs.Tree.{Node, Fields, Piece, Items, map_of}
use Rattle.tree.specs.Tree.Node.{node}
use Rattle.tree.specs.Tree.Fields.{done, absent, field}
use Rattle.tree.specs.Tree.Piece.{one, list, text, byte, mark, number}
use Rattle.tree.specs.Tree.Items.{none, hole, item}
use Rattle.tree.proofs.Table.{both, both_left, both_right, below, below_at}
use Rattle.printer.specs.Ascii.{Ascii, AsciiNode, AsciiFields, AsciiPiece, AsciiItems}
use Rattle.printer.specs.Layout.{words, word, chosen_word, head_of, tail_of, close_of, lead_of}
use Rattle.printer.specs.Names.{bare, hex_digit, needs_escape, escaped_byte, escaped, in_quotes, decimal_from, decimal}
use Rattle.printer.specs.Places.{field_in, in_method_form, wrapping, separator, leading, joining, noted_at, begun, computed, opening, closing, item_seen, list_opening, listed, list_closing, is_quasis, is_filled, leaves, literal_text, member_name, key_name, text_bytes, is_quasi, number_bytes}
use Rattle.printer.specs.Text.{Cell, note_of, first, later, left_over_of, around_node, after_piece, held_node, held_fields, held_piece, held_items_of, quasis_for, quasis_after, text_node, text_fields, text_piece, text_items, outside, text_of}
use Rattle.printer.specs.Text.Cell.{quasi, stop}
use Rattle.printer.specs.declared.frame.Frame.{Frame}
use Rattle.printer.proofs.LayoutNumbers.{word_none}

-- ---- bytes

append_ascii : (a b : List ℕ) → Ascii a → Ascii b → Ascii (a ++ b)
append_ascii [] b h g = g
append_ascii (x ∷ a) b h g = (h.0, append_ascii a b h.1 g)

either_ascii : (c : Bool) (a b : List ℕ) → Ascii a → Ascii b → Ascii (cond c a b)
either_ascii true a b h g = h
either_ascii false a b h g = g

all_ascii : List ℕ → Bool
all_ascii [] = true
all_ascii (b ∷ bs) = both (ltb b 128) (all_ascii bs)

ascii_word : ℕ → Bool
ascii_word i = all_ascii (word i)

ascii_words : T (below 94 ascii_word)
unfolding ascii_word all_ascii word words
ascii_words = tt

by_test : (bs : List ℕ) → T (all_ascii bs) → Ascii bs
unfolding all_ascii
by_test [] t = tt
by_test (b ∷ bs) t = (less b (both_left (ltb b 128) (all_ascii bs) t), by_test bs (both_right (ltb b 128) (all_ascii bs) t))
  where
    less : (x : ℕ) → T (ltb x 128) → x < 128
    less x u = elim (dec_lt x 128) [ yes h ↦ h | no h ↦ absurd (rw (le-ltb x 128 (omega arith)) at u) ]

-- the words of the layout
pub words_ascii : (i : ℕ) → Ascii (word i)
unfolding ascii_word
words_ascii i = elim (dec_lt i 94) [ yes h ↦ by_test (word i) (below_at ascii_word 94 ascii_words i h) | no h ↦ rw (word_none i (omega arith)) tt ]

-- ---- quotes and digits

digit : (c : Bool) (x y : ℕ) → x < 128 → y < 128 → cond c x y < 128
digit true x y h g = h
digit false x y h g = g

hex : (d : ℕ) → d < 16 → hex_digit d < 128
unfolding hex_digit
hex d h = digit (ltb d 10) (48 + d) (87 + d) (omega arith) (omega arith)

byte_escaped : (b : ℕ) → b < 128 → Ascii (escaped_byte b)
unfolding escaped_byte
byte_escaped b h = either_ascii (needs_escape b) (92 ∷ 120 ∷ hex_digit (b / 16) ∷ hex_digit (b % 16) ∷ []) (b ∷ []) (omega arith, (omega arith, (hex (b / 16) (omega arith), (hex (b % 16) (omega arith), tt)))) (h, tt)

text_escaped : (bs : List ℕ) → Ascii bs → Ascii (escaped bs)
unfolding escaped
text_escaped [] h = tt
text_escaped (b ∷ bs) h = append_ascii (escaped_byte b) (escaped bs) (byte_escaped b h.0) (text_escaped bs h.1)

quoted : (bs : List ℕ) → Ascii bs → Ascii (in_quotes bs)
unfolding in_quotes
quoted bs h = (omega arith, append_ascii (escaped bs) (34 ∷ []) (text_escaped bs h) (omega arith, tt))

digits : (f n : ℕ) → Ascii (decimal_from f n)
unfolding decimal_from
digits zero n = tt
digits (suc f) n = go (ltb n 10) (λ e. ltb-true n 10 e) (digits f (n / 10))
  where
    go : (a : Bool) → (a ≡ true → n < 10) → Ascii (decimal_from f (n / 10)) → Ascii (elim a [ true ↦ (48 + n) ∷ [] | false ↦ decimal_from f (n / 10) ++ ((48 + n % 10) ∷ []) ])
    go true h r = let l : n < 10 = h refl in (omega arith, tt)
    go false h r = append_ascii (decimal_from f (n / 10)) ((48 + n % 10) ∷ []) r (omega arith, tt)

literal_ascii : (f : Frame) (bs : List ℕ) → Ascii bs → Ascii (literal_text f bs)
unfolding literal_text
literal_ascii f [] h = either_ascii (eqb f.seen 0) (cond (eqb (field_in f) 1) (cond (eqb (f.map / 4 % 2) 0) (in_quotes []) []) (in_quotes [])) [] (either_ascii (eqb (field_in f) 1) (cond (eqb (f.map / 4 % 2) 0) (in_quotes []) []) (in_quotes []) (either_ascii (eqb (f.map / 4 % 2) 0) (in_quotes []) [] (quoted [] tt) tt) (quoted [] tt)) tt
literal_ascii f (b ∷ bs) h = either_ascii (eqb f.seen 0) (cond (eqb (field_in f) 1) (b ∷ bs) (in_quotes (b ∷ bs))) [] (either_ascii (eqb (field_in f) 1) (b ∷ bs) (in_quotes (b ∷ bs)) h (quoted (b ∷ bs) h)) tt

member_ascii : (bs : List ℕ) → Ascii bs → Ascii (member_name bs)
unfolding member_name
member_ascii bs h = either_ascii (bare bs) (46 ∷ bs) (91 ∷ (in_quotes bs ++ (93 ∷ []))) (omega arith, h) (omega arith, append_ascii (in_quotes bs) (93 ∷ []) (quoted bs h) (omega arith, tt))

key_ascii : (bs : List ℕ) → Ascii bs → Ascii (key_name bs)
unfolding key_name
key_ascii bs h = either_ascii (bare bs) bs (in_quotes bs) h (quoted bs h)

text_ascii : (f : Frame) (bs : List ℕ) → Ascii bs → Ascii (text_bytes f bs)
unfolding text_bytes
text_ascii f bs h =
    let w : ℕ = chosen_word (lead_of f.kind (field_in f)) f.note f.map f.seen 0 in
    either_ascii (eqb f.kind 22) (literal_text f bs) (cond (eqb f.kind 30) (member_name bs) (cond (eqb f.kind 38) (key_name bs) (word w ++ bs))) (literal_ascii f bs h)
    (either_ascii (eqb f.kind 30) (member_name bs) (cond (eqb f.kind 38) (key_name bs) (word w ++ bs)) (member_ascii bs h)
    (either_ascii (eqb f.kind 38) (key_name bs) (word w ++ bs) (key_ascii bs h) (append_ascii (word w) bs (words_ascii w) h)))

number_ascii : (f : Frame) (n : ℕ) → Ascii (number_bytes f n)
unfolding number_bytes decimal
number_ascii f n = either_ascii (eqb f.kind 20) (decimal_from (suc n) n) [] (digits (suc n) n) tt

-- ---- around a node

opening_ascii : (p : Frame) (kind map note : ℕ) (q : List ℕ) → Ascii q → Ascii (opening p kind map note q)
unfolding opening
opening_ascii p kind map note q h =
    let a : ℕ = joining p kind note in
    let b : ℕ = cond (eqb (wrapping p kind map note) 1) 64 0 in
    let c : ℕ = chosen_word (head_of kind) note map (noted_at p kind) (in_method_form p kind map) in
    let d : ℕ = computed kind note in
    append_ascii (word (leading p kind map)) (q ++ (word a ++ (word b ++ (word c ++ word d)))) (words_ascii (leading p kind map))
    (append_ascii q (word a ++ (word b ++ (word c ++ word d))) h
    (append_ascii (word a) (word b ++ (word c ++ word d)) (words_ascii a)
    (append_ascii (word b) (word c ++ word d) (words_ascii b) (append_ascii (word c) (word d) (words_ascii c) (words_ascii d)))))

closing_ascii : (f : Frame) → Ascii (closing f)
unfolding closing
closing_ascii f = append_ascii (word (chosen_word (tail_of f.kind) f.note f.map f.seen 0)) (word f.how) (words_ascii (chosen_word (tail_of f.kind) f.note f.map f.seen 0)) (words_ascii f.how)

list_opening_lem : (f : Frame) → Ascii (list_opening f)
unfolding list_opening
list_opening_lem f = words_ascii (chosen_word (lead_of f.kind (field_in f)) f.note f.map f.seen 0)

list_closing_lem : (l : Frame) → Ascii (list_closing l)
unfolding list_closing
list_closing_lem l = words_ascii (chosen_word (close_of l.kind) l.note l.map l.seen 0)

-- ---- quasis that wait

abbrev Waiting : List Cell → Type 0
Waiting [] = Unit {0}
Waiting (quasi bs ∷ cs) = Ascii bs × Waiting cs
Waiting (stop ∷ cs) = Waiting cs

waiting_over : (a b : List Cell) → Waiting a → Waiting b → Waiting (a ++ b)
waiting_over [] b h g = g
waiting_over (quasi bs ∷ a) b h g = (h.0, waiting_over a b h.1 g)
waiting_over (stop ∷ a) b h g = waiting_over a b h g

waiting_either : (c : Bool) (a b : List Cell) → Waiting a → Waiting b → Waiting (cond c a b)
waiting_either true a b h g = h
waiting_either false a b h g = g

first_ascii : (qs : List Cell) → Waiting qs → Ascii (first qs)
first_ascii [] h = tt
first_ascii (quasi bs ∷ cs) h = h.0
first_ascii (stop ∷ cs) h = tt

later_waiting : (qs : List Cell) → Waiting qs → Waiting (later qs)
later_waiting [] h = tt
later_waiting (quasi bs ∷ cs) h = h.1
later_waiting (stop ∷ cs) h = h

left_ascii : (qs : List Cell) → Waiting qs → Ascii (left_over_of qs)
unfolding left_over_of
left_ascii [] h = tt
left_ascii (quasi bs ∷ cs) h = append_ascii bs (left_over_of cs) h.0 (left_ascii cs h.1)
left_ascii (stop ∷ cs) h = tt

mutual
  unfolding held_node held_fields held_piece held_items_of AsciiNode AsciiFields AsciiPiece AsciiItems

  held_node_lem : (n : Node) (p : Frame) → AsciiNode n → Waiting (held_node p n)
  held_node_lem (node at kind fs) p h = held_fields_lem fs (begun p kind (map_of fs) (note_of fs)) h

  held_fields_lem : (fs : Fields) (f : Frame) → AsciiFields fs → Waiting (held_fields f fs)
  held_fields_lem done f h = tt
  held_fields_lem (absent fs) f h = held_fields_lem fs f h
  held_fields_lem (field p fs) f h = waiting_over (held_piece f p) (held_fields (after_piece f p) fs) (held_piece_lem p f h.0) (held_fields_lem fs (after_piece f p) h.1)

  held_piece_lem : (p : Piece) (f : Frame) → AsciiPiece p → Waiting (held_piece f p)
  held_piece_lem (one n) f h = held_node_lem n f h
  held_piece_lem (list is) f h = waiting_over (held_items_of (listed f) is) (cond (is_quasis (listed f)) (stop ∷ []) []) (held_items is (listed f) h) (waiting_either (is_quasis (listed f)) (stop ∷ []) [] tt tt)
  held_piece_lem (text bs) f h = waiting_either (is_quasi f) (quasi bs ∷ []) [] (h, tt) tt
  held_piece_lem (byte b) f h = tt
  held_piece_lem (mark n) f h = tt
  held_piece_lem (number n) f h = tt

  held_items : (is : Items) (l : Frame) → AsciiItems is → Waiting (held_items_of l is)
  held_items none l h = tt
  held_items (hole is) l h = held_items is (item_seen l 2) h
  held_items (item n is) l h = waiting_over (held_node l n) (held_items_of (around_node l n) is) (held_node_lem n l h.0) (held_items is (around_node l n) h.1)

for_items : (f : Frame) (qs : List Cell) (is : Items) → Waiting qs → AsciiItems is → Waiting (quasis_for f qs is)
for_items f qs is w h = waiting_either (is_quasis (listed f)) (held_items_of (listed f) is) qs (held_items is (listed f) h) w

after_piece_lem : (p : Piece) (f : Frame) (qs : List Cell) → Waiting qs → AsciiPiece p → Waiting (quasis_after f qs p)
unfolding AsciiPiece
after_piece_lem (one n) f qs w h = w
after_piece_lem (list is) f qs w h = for_items f qs is w h
after_piece_lem (text bs) f qs w h = w
after_piece_lem (byte b) f qs w h = w
after_piece_lem (mark n) f qs w h = w
after_piece_lem (number n) f qs w h = w

-- ---- the text

mutual
  unfolding text_node text_fields text_piece text_items AsciiNode AsciiFields AsciiPiece AsciiItems

  node_ascii : (n : Node) (p : Frame) (qs : List Cell) → Waiting qs → AsciiNode n → Ascii (text_node p qs n)
  node_ascii (node at kind fs) p qs w h =
      let q : List ℕ = cond (is_filled p) (first qs) [] in
      append_ascii (opening p kind (map_of fs) (note_of fs) q) (text_fields (begun p kind (map_of fs) (note_of fs)) [] fs)
      (opening_ascii p kind (map_of fs) (note_of fs) q (either_ascii (is_filled p) (first qs) [] (first_ascii qs w) tt))
      (fields_ascii fs (begun p kind (map_of fs) (note_of fs)) [] tt h)

  fields_ascii : (fs : Fields) (f : Frame) (qs : List Cell) → Waiting qs → AsciiFields fs → Ascii (text_fields f qs fs)
  fields_ascii done f qs w h = closing_ascii f
  fields_ascii (absent fs) f qs w h = fields_ascii fs f qs w h
  fields_ascii (field p fs) f qs w h =
      append_ascii (text_piece f qs p) (text_fields (after_piece f p) (quasis_after f qs p) fs) (piece_ascii p f qs w h.0)
      (fields_ascii fs (after_piece f p) (quasis_after f qs p) (after_piece_lem p f qs w h.0) h.1)

  piece_ascii : (p : Piece) (f : Frame) (qs : List Cell) → Waiting qs → AsciiPiece p → Ascii (text_piece f qs p)
  piece_ascii (one n) f qs w h = node_ascii n f qs w h
  piece_ascii (list is) f qs w h = append_ascii (list_opening f) (text_items (listed f) (quasis_for f qs is) is) (list_opening_lem f) (items_ascii is (listed f) (quasis_for f qs is) (for_items f qs is w h) h)
  piece_ascii (text bs) f qs w h = text_ascii f bs h
  piece_ascii (byte b) f qs w h = tt
  piece_ascii (mark n) f qs w h = tt
  piece_ascii (number n) f qs w h = number_ascii f n

  items_ascii : (is : Items) (l : Frame) (qs : List Cell) → Waiting qs → AsciiItems is → Ascii (text_items l qs is)
  items_ascii none l qs w h = append_ascii (list_closing l) (cond (leaves l) (left_over_of qs) []) (list_closing_lem l) (either_ascii (leaves l) (left_over_of qs) [] (left_ascii qs w) tt)
  items_ascii (hole is) l qs w h = append_ascii (word (separator l)) (text_items (item_seen l 2) qs is) (words_ascii (separator l)) (items_ascii is (item_seen l 2) qs w h)
  items_ascii (item n is) l qs w h =
      append_ascii (text_node l qs n) (text_items (around_node l n) (cond (is_filled l) (later qs) qs) is) (node_ascii n l qs w h.0)
      (items_ascii is (around_node l n) (cond (is_filled l) (later qs) qs) (waiting_either (is_filled l) (later qs) qs (later_waiting qs w) w) h.1)

-- the law: what a text has beside the bytes of the tree's texts is ASCII
pub own_ascii : (n : Node) → AsciiNode n → Ascii (text_of n)
unfolding text_of
own_ascii n h = node_ascii n outside [] tt h
