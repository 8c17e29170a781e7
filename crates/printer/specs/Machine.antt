-- The text as a pass over the entries of a tree: a fold with what is open on a stack.
use Rattle.std.specs.Prelude.{ℕ, zero, suc, List, [], ◌∷◌, ◌++◌, cond, length, get_or, drop}
use Rattle.printer.specs.Entries.{Entry}
use Rattle.printer.specs.Layout.{word}
use Rattle.printer.specs.Places.{past, separator, begun, opening, closing, item_seen, around, list_opening, listed, unlisted, list_closing, is_quasis, is_filled, leaves, text_bytes, text_past, is_quasi, number_bytes}
use Rattle.printer.specs.Text.{Cell, cell_text, left_over_of, outside}
use Rattle.printer.specs.Text.Cell.{quasi, stop}
use Rattle.printer.specs.declared.frame.Frame.{Frame}

-- ---- the pass

-- a frame, and the place of the next quasi among those that are held, counted from 1; 0 if there is none
pub record Open : Type 0 where
  pub frame : Frame
  pub next : ℕ

pub record Printing : Type 0 where
  pub top : Frame
  pub next : ℕ
  pub stack : List Open
  pub held : List Cell
  pub out : List ℕ

abbrev pub cell_at : List Cell → ℕ → Cell
cell_at held zero = stop
cell_at held (suc i) = get_or held i stop

abbrev pub cells_from : List Cell → ℕ → List Cell
cells_from held zero = []
cells_from held (suc i) = drop i held

abbrev pub step_over : Cell → ℕ → ℕ
step_over (quasi bs) x = suc x
step_over stop x = x

abbrev pub top_of : List Open → Frame
top_of [] = outside
top_of (o ∷ os) = o.frame

abbrev pub next_of : List Open → ℕ
next_of [] = 0
next_of (o ∷ os) = o.next

abbrev pub below : List Open → List Open
below [] = []
below (o ∷ os) = os

abbrev pub next_around : Frame → List Cell → ℕ → ℕ
next_around p held x = cond (is_filled p) (step_over (cell_at held x) x) x

unfoldable pub print : Printing → Entry → Printing
print s (Entry.node kind map note) = record {
  top = begun s.top kind map note;
  next = 0;
  stack = record { frame = around s.top kind map; next = next_around s.top s.held s.next } ∷ s.stack;
  held = s.held;
  out = s.out ++ opening s.top kind map note (cond (is_filled s.top) (cell_text (cell_at s.held s.next)) []);
}
print s Entry.ends = record {
  top = top_of s.stack;
  next = next_of s.stack;
  stack = below s.stack;
  held = s.held;
  out = s.out ++ closing s.top;
}
print s (Entry.opens n) = record {
  top = listed s.top;
  next = cond (is_quasis (listed s.top)) (suc (length s.held)) s.next;
  stack = record { frame = unlisted s.top n; next = s.next } ∷ s.stack;
  held = s.held;
  out = s.out ++ list_opening s.top;
}
print s Entry.closes = record {
  top = top_of s.stack;
  next = cond (is_quasis s.top) s.next (next_of s.stack);
  stack = below s.stack;
  held = s.held ++ cond (is_quasis s.top) (stop ∷ []) [];
  out = s.out ++ (list_closing s.top ++ cond (leaves s.top) (left_over_of (cells_from s.held s.next)) []);
}
print s Entry.hole = record {
  top = item_seen s.top 2;
  next = s.next;
  stack = s.stack;
  held = s.held;
  out = s.out ++ word (separator s.top);
}
print s (Entry.text bs) = record {
  top = text_past s.top bs;
  next = s.next;
  stack = s.stack;
  held = s.held ++ cond (is_quasi s.top) (quasi bs ∷ []) [];
  out = s.out ++ text_bytes s.top bs;
}
print s Entry.quiet = record { top = past s.top; next = s.next; stack = s.stack; held = s.held; out = s.out }
print s (Entry.number n) = record {
  top = past s.top;
  next = s.next;
  stack = s.stack;
  held = s.held;
  out = s.out ++ number_bytes s.top n;
}

-- some entries, one after the other
unfoldable pub print_all : Printing → List Entry → Printing
print_all s [] = s
print_all s (e ∷ es) = print_all (print s e) es
