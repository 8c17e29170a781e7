-- The pass over the entries of a node adds its text, and leaves what is open as it was.
-- Assumes nothing.
use mathlib.Core.Path.{◌≡◌, refl, sym, ap, ◌∙◌}
use mathlib.Core.Bool.{Bool, true, false, cond, ◌||◌, ◌&&◌}
use mathlib.Core.List.{List, [], ◌∷◌, ◌++◌, append_assoc, append-nil}
use Prim.Native.Nat.{ℕ, zero, suc, ◌/◌, ◌%◌, ◌≤◌}
use native.Mathlib.Omega.{arith}
use lib.Dec.{eqb}
use lib.ListN.{length, get_or, drop, length-append}
use borrow.Author.Tests.{eqb-true}
use Rattle.tree.specs.Tree.{Node, Fields, Piece, Items, map_of, count}
use Rattle.tree.specs.Tree.Node.{node}
use Rattle.tree.specs.Tree.Fields.{done, absent, field}
use Rattle.tree.specs.Tree.Piece.{one, list, text, byte, mark, number}
use Rattle.tree.specs.Tree.Items.{none, hole, item}
use Rattle.printer.specs.Layout.{word}
use Rattle.printer.specs.Places.{manner_in, past, noting, separator, begun, opening, item_seen, around, list_opening, listed, unlisted, list_closing, is_quasis, is_filled, leaves, text_past, is_quasi, field_in}
use Rattle.printer.specs.Text.{Cell, note_of, cell_text, first, later, left_over_of, around_node, after_piece, held_node, held_fields, held_piece, held_items_of, quasis_for, quasis_after, text_node, text_fields, text_piece, text_items, outside, text_of}
use Rattle.printer.specs.Text.Cell.{quasi, stop}
use Rattle.printer.specs.Entries.{Entry, entries, entries_fields, entries_piece, entries_items}
use Rattle.printer.specs.Entries.Entry.{ends, closes}
use Rattle.printer.specs.Machine.{Open, Printing, print, print_all, cell_at, cells_from, step_over, next_around}
use Rattle.printer.specs.declared.frame.Frame.{Frame}

-- ---- quasis that wait: from place x on qs are held, and a stop behind them

pub data Waits (h : List Cell) : ℕ → List Cell → Type 0 where
  nothing : Waits h zero []
  from : {k : ℕ} {qs : List Cell} (rest : List Cell) → drop k h ≡ qs ++ (stop ∷ rest) → k ≤ length h → Waits h (suc k) qs

drop_append : (k : ℕ) (h m : List Cell) → k ≤ length h → drop k (h ++ m) ≡ drop k h ++ m
drop_append zero h m l = refl
drop_append (suc k) [] m l = absurd (omega arith)
drop_append (suc k) (c ∷ h) m l = drop_append k h m (omega arith)

drop_all : (h m : List Cell) → drop (length h) (h ++ m) ≡ m
drop_all [] m = refl
drop_all (c ∷ h) m = drop_all h m

head_cell : List Cell → Cell
head_cell [] = stop
head_cell (c ∷ cs) = c

tail_cells : List Cell → List Cell
tail_cells [] = []
tail_cells (c ∷ cs) = cs

head_drop : (k : ℕ) (h : List Cell) → get_or h k stop ≡ head_cell (drop k h)
unfolding head_cell
head_drop zero [] = refl
head_drop zero (c ∷ h) = refl
head_drop (suc k) [] = refl
head_drop (suc k) (c ∷ h) = head_drop k h

tail_drop : (k : ℕ) (h : List Cell) → drop (suc k) h ≡ tail_cells (drop k h)
unfolding tail_cells
tail_drop zero [] = refl
tail_drop zero (c ∷ h) = refl
tail_drop (suc k) [] = refl
tail_drop (suc k) (c ∷ h) = tail_drop k h

drop_some : (k : ℕ) (h : List Cell) (c : Cell) (cs : List Cell) → drop k h ≡ c ∷ cs → suc k ≤ length h
drop_some zero [] c cs e = let z : ◌≡◌ {A = ℕ} 0 1 = cc in omega arith
drop_some zero (d ∷ h) c cs e = omega arith
drop_some (suc k) [] c cs e = let z : ◌≡◌ {A = ℕ} 0 1 = cc in omega arith
drop_some (suc k) (d ∷ h) c cs e = let r : suc k ≤ length h = drop_some k h c cs e in omega arith

waits_more : {h : List Cell} {x : ℕ} {qs : List Cell} (m : List Cell) → Waits h x qs → Waits (h ++ m) x qs
waits_more m nothing = nothing
waits_more {h} m (from {k = k} {qs = qs} rest e l) = from {k = k} (rest ++ m) (drop_append k h m l ∙ ap (λ (cs : List Cell). cs ++ m) e ∙ append_assoc qs (stop ∷ rest) m) (omega (arith, length-append h m))

first_of : (qs rest : List Cell) → cell_text (head_cell (qs ++ (stop ∷ rest))) ≡ first qs
unfolding head_cell
first_of [] rest = refl
first_of (c ∷ qs) rest = refl

waits_first : {h : List Cell} {x : ℕ} {qs : List Cell} → Waits h x qs → cell_text (cell_at h x) ≡ first qs
waits_first nothing = refl
waits_first {h} (from {k = k} {qs = qs} rest e l) = ap cell_text (head_drop k h ∙ ap head_cell e) ∙ first_of qs rest

waits_later : {h : List Cell} {x : ℕ} {qs : List Cell} → Waits h x qs → Waits h (step_over (cell_at h x) x) (later qs)
unfolding head_cell tail_cells
waits_later nothing = nothing
waits_later {h} (from {k = k} {qs = []} rest e l) = rw (head_drop k h ∙ ap head_cell e) (from rest e l)
waits_later {h} (from {k = k} {qs = stop ∷ qs} rest e l) = rw (head_drop k h ∙ ap head_cell e) (from rest e l)
waits_later {h} (from {k = k} {qs = quasi bs ∷ qs} rest e l) = rw (head_drop k h ∙ ap head_cell e) (from rest (tail_drop k h ∙ ap tail_cells e) (drop_some k h (quasi bs) (qs ++ (stop ∷ rest)) e))

left_stop : (qs rest : List Cell) → left_over_of (qs ++ (stop ∷ rest)) ≡ left_over_of qs
unfolding left_over_of
left_stop [] rest = refl
left_stop (quasi bs ∷ qs) rest = ap (λ (l : List ℕ). bs ++ l) (left_stop qs rest)
left_stop (stop ∷ qs) rest = refl

waits_left : {h : List Cell} {x : ℕ} {qs : List Cell} → Waits h x qs → left_over_of (cells_from h x) ≡ left_over_of qs
unfolding left_over_of
waits_left nothing = refl
waits_left (from {qs = qs} rest e l) = ap left_over_of e ∙ left_stop qs rest

-- ---- a list's items

abbrev at_item : Frame → ℕ → Frame
at_item f s = item_seen (listed f) s

not_both : (m : ℕ) → eqb m 6 ≡ true → eqb m 10 ≡ false
not_both m e = rw (eqb-true m 6 e) refl

record Ready (l : Frame) (h : List Cell) (x : ℕ) (qs cs : List Cell) : Type 0 where
  fill : is_filled l ≡ true → Waits h x qs
  left : leaves l ≡ true → is_filled l ≡ false → left_over_of (cells_from (h ++ cs) x) ≡ left_over_of qs

by_bool : {A : Type 0} (b : Bool) → (b ≡ true → A) → (b ≡ false → A) → A
by_bool true f g = f refl
by_bool false f g = g refl

ready_left : (l : Frame) (h : List Cell) (x : ℕ) (qs : List Cell) → Ready l h x qs [] → cond (leaves l) (left_over_of (cells_from h x)) [] ≡ cond (leaves l) (left_over_of qs) []
ready_left l h x qs r =
    by_bool (leaves l)
    (λ e. ap (λ (z : List ℕ). cond (leaves l) z [])
    (by_bool (is_filled l) (λ f. waits_left (r.fill f)) (λ f. ap (λ (c : List Cell). left_over_of (cells_from c x)) (sym (append-nil h)) ∙ r.left e f)))
    (λ e. rw e refl)

ready_first : (l : Frame) (h : List Cell) (x : ℕ) (qs cs : List Cell) → Ready l h x qs cs → cond (is_filled l) (cell_text (cell_at h x)) [] ≡ cond (is_filled l) (first qs) []
ready_first l h x qs cs r = by_bool (is_filled l) (λ f. ap (λ (z : List ℕ). cond (is_filled l) z []) (waits_first (r.fill f))) (λ f. rw f refl)

module _ (f : Frame) where
  ready_again : (s t : ℕ) (h : List Cell) (x : ℕ) (qs cs : List Cell) → Ready (at_item f s) h x qs cs → Ready (at_item f t) h x qs cs
  unfolding is_filled leaves manner_in field_in item_seen listed
  ready_again s t h x qs cs r = record { fill = r.fill; left = r.left }

  ready_next : (s t : ℕ) (h m : List Cell) (x : ℕ) (qs cs : List Cell) → Ready (at_item f s) h x qs (m ++ cs) → Ready (at_item f t) (h ++ m) (next_around (at_item f s) h x) (cond (is_filled (at_item f s)) (later qs) qs) cs
  unfolding is_filled leaves manner_in field_in item_seen listed
  ready_next s t h m x qs cs r = record {
    fill = λ e. rw e (waits_more m (waits_later (r.fill e)));
    left = λ e g. rw g (ap (λ (c : List Cell). left_over_of (cells_from c x)) (append_assoc h m cs) ∙ r.left e g);
  }

  quasis_stay : (s : ℕ) (h : List Cell) (x y : ℕ) → cond (is_quasis (listed f)) (next_around (at_item f s) h x) y ≡ cond (is_quasis (listed f)) x y
  unfolding is_filled is_quasis manner_in field_in item_seen listed
  quasis_stay s h x y =
      by_bool (is_filled (at_item f s))
      (λ e. let q : is_quasis (listed f) ≡ false = not_both (manner_in (listed f)) (both_true (eqb (manner_in (listed f)) 6) e) in rw q refl)
      (λ e. ap (λ (z : ℕ). cond (is_quasis (listed f)) z y) (rw e refl))
    where
      both_true : (a : Bool) → (a && true) ≡ true → a ≡ true
      both_true true t = refl
      both_true false t = t

  ready_start : (x : ℕ) (h qs : List Cell) (is : Items) → Waits h x qs → Ready (listed f) h (cond (is_quasis (listed f)) (suc (length h)) x) (quasis_for f qs is) (held_items_of (listed f) is)
  unfolding is_filled leaves is_quasis manner_in field_in listed
  ready_start x h qs is w = record {
    fill = λ e. filled_not (eqb (manner_in (listed f)) 6) e refl;
    left = λ e g. quoted_so (eqb (manner_in (listed f)) 6) (eqb (manner_in (listed f)) 10) e g refl;
  }
    where
      filled_not : (a : Bool) → (a && true) ≡ true → a ≡ eqb (manner_in (listed f)) 6 → Waits h (cond (is_quasis (listed f)) (suc (length h)) x) (quasis_for f qs is)
      filled_not true t e = let q : is_quasis (listed f) ≡ false = not_both (manner_in (listed f)) (sym e) in rw q w
      filled_not false t e = absurd (let z : ◌≡◌ {A = Bool} true false = sym t in true_false z)
        where
          true_false : true ≡ false → ⊥
          true_false z = let y : ◌≡◌ {A = ℕ} 0 1 = cc in omega arith

      quoted_so : (a b : Bool) → (a || (b && eqb (f.map / 2 % 2) 0)) ≡ true → (a && true) ≡ false → b ≡ eqb (manner_in (listed f)) 10 → left_over_of (cells_from (h ++ held_items_of (listed f) is) (cond (is_quasis (listed f)) (suc (length h)) x)) ≡ left_over_of (quasis_for f qs is)
      quoted_so true b t g e = absurd (let y : ◌≡◌ {A = ℕ} 0 1 = cc in omega arith)
      quoted_so false true t g e = let q : is_quasis (listed f) ≡ true = sym e in rw q (ap left_over_of (drop_all h (held_items_of (listed f) is)))
      quoted_so false false t g e = absurd (let y : ◌≡◌ {A = ℕ} 0 1 = cc in omega arith)

-- ---- a node's fields

and_false : (b : Bool) → (b && false) ≡ false
and_false true = refl
and_false false = refl

not_filled : (f : Frame) → f.list ≡ 0 → is_filled f ≡ false
unfolding is_filled
not_filled f z = ap (λ (l : ℕ). eqb (manner_in f) 6 && eqb l 1) z ∙ and_false (eqb (manner_in f) 6)

around_list : (f : Frame) (kind map : ℕ) → f.list ≡ 0 → (around f kind map).list ≡ 0
unfolding around item_seen noting
around_list f kind map z = rw z refl

begun_list : (p : Frame) (kind map note : ℕ) → (begun p kind map note).list ≡ 0
unfolding begun
begun_list p kind map note = refl

abbrev next_after : Frame → List Cell → ℕ → Piece → ℕ
next_after f h x (one n) = next_around f h x
next_after f h x (list is) = cond (is_quasis (listed f)) (suc (length h)) x
next_after f h x (text bs) = x
next_after f h x (byte b) = x
next_after f h x (mark n) = x
next_after f h x (number n) = x

list_kept : (f : Frame) (p : Piece) → f.list ≡ 0 → (after_piece f p).list ≡ 0
unfolding unlisted noting text_past past
list_kept f (one (node at kind fs)) z = around_list f kind (map_of fs) z
list_kept f (list is) z = z
list_kept f (text bs) z = z
list_kept f (byte b) z = z
list_kept f (mark n) z = z
list_kept f (number n) z = z

piece_waits : (f : Frame) (p : Piece) (x : ℕ) (h qs : List Cell) → f.list ≡ 0 → Waits h x qs → Waits (h ++ held_piece f p) (next_after f h x p) (quasis_after f qs p)
unfolding held_piece
piece_waits f (one n) x h qs z w = rw (not_filled f z) (waits_more (held_node f n) w)
piece_waits f (list is) x h qs z w = go (is_quasis (listed f)) refl
  where
    go : (b : Bool) → b ≡ is_quasis (listed f) → Waits (h ++ (held_items_of (listed f) is ++ cond b (stop ∷ []) [])) (cond b (suc (length h)) x) (cond b (held_items_of (listed f) is) qs)
    go true e = from {k = length h} [] (drop_all h (held_items_of (listed f) is ++ (stop ∷ []))) (omega (arith, length-append h (held_items_of (listed f) is ++ (stop ∷ []))))
    go false e = waits_more (held_items_of (listed f) is ++ []) w
piece_waits f (text bs) x h qs z w = waits_more (cond (is_quasi f) (quasi bs ∷ []) []) w
piece_waits f (byte b) x h qs z w = waits_more [] w
piece_waits f (mark n) x h qs z w = waits_more [] w
piece_waits f (number n) x h qs z w = waits_more [] w

-- ---- the law

pub print_all_append : (s : Printing) (a b : List Entry) → print_all s (a ++ b) ≡ print_all (print_all s a) b
unfolding print_all
print_all_append s [] b = refl
print_all_append s (e ∷ a) b = print_all_append (print s e) a b

abbrev pub at : Frame → ℕ → List Open → List Cell → List ℕ → Printing
at f x st h o = record { top = f; next = x; stack = st; held = h; out = o }

abbrev opened : Frame → ℕ → Open
opened f x = record { frame = f; next = x }

alike : {f : Frame} {x : ℕ} {st : List Open} {h i : List Cell} {o q : List ℕ} → h ≡ i → o ≡ q → at f x st h o ≡ at f x st i q
alike {f} {x} {st} {h} {i} {o} {q} d e = ap (λ (c : List Cell). at f x st c o) d ∙ ap (λ (t : List ℕ). at f x st i t) e

twice : (b : Bool) (x y : ℕ) → cond b (cond b x y) y ≡ cond b x y
twice true x y = refl
twice false x y = refl

closes_printed : (f : Frame) (s x : ℕ) (w : Open) (st : List Open) (h : List Cell) (o : List ℕ) (qs : List Cell) → cond (leaves (at_item f s)) (left_over_of (cells_from h x)) [] ≡ cond (leaves (at_item f s)) (left_over_of qs) [] → print_all (at (at_item f s) x (w ∷ st) h o) (closes ∷ []) ≡ at w.frame (cond (is_quasis (listed f)) x w.next) st (h ++ cond (is_quasis (listed f)) (stop ∷ []) []) (o ++ (list_closing (at_item f s) ++ cond (leaves (at_item f s)) (left_over_of qs) []))
unfolding print_all print is_quasis manner_in field_in item_seen listed
closes_printed f s x w st h o qs e = ap (λ (t : List ℕ). at w.frame (cond (is_quasis (listed f)) x w.next) st (h ++ cond (is_quasis (listed f)) (stop ∷ []) []) (o ++ (list_closing (at_item f s) ++ t))) e

around_item : (f : Frame) (s : ℕ) (n : Node) → around_node (at_item f s) n ≡ at_item f 1
unfolding around item_seen listed
around_item f s (node at kind fs) = refl

mutual
  unfolding print_all print entries entries_fields entries_piece entries_items held_node held_fields held_piece held_items_of text_node text_fields text_piece text_items around item_seen listed

  pub node_printed : (n : Node) (p : Frame) (x : ℕ) (st : List Open) (h : List Cell) (o : List ℕ) (qs : List Cell) → cond (is_filled p) (cell_text (cell_at h x)) [] ≡ cond (is_filled p) (first qs) [] → print_all (at p x st h o) (entries n) ≡ at (around_node p n) (next_around p h x) st (h ++ held_node p n) (o ++ text_node p qs n)
  node_printed (node q kind fs) p x st h o qs e =
      ap (λ (t : List ℕ). print_all (at (begun p kind (map_of fs) (note_of fs)) 0 (opened (around p kind (map_of fs)) (next_around p h x) ∷ st) h (o ++ opening p kind (map_of fs) (note_of fs) t)) (entries_fields fs ++ (ends ∷ []))) e
      ∙ fields_printed fs (begun p kind (map_of fs) (note_of fs)) 0 (opened (around p kind (map_of fs)) (next_around p h x)) st h (o ++ opening p kind (map_of fs) (note_of fs) (cond (is_filled p) (first qs) [])) [] (begun_list p kind (map_of fs) (note_of fs)) nothing
      ∙ alike refl (append_assoc o (opening p kind (map_of fs) (note_of fs) (cond (is_filled p) (first qs) [])) (text_fields (begun p kind (map_of fs) (note_of fs)) [] fs))

  fields_printed : (fs : Fields) (f : Frame) (x : ℕ) (w : Open) (st : List Open) (h : List Cell) (o : List ℕ) (qs : List Cell) → f.list ≡ 0 → Waits h x qs → print_all (at f x (w ∷ st) h o) (entries_fields fs ++ (ends ∷ [])) ≡ at w.frame w.next st (h ++ held_fields f fs) (o ++ text_fields f qs fs)
  fields_printed done f x w st h o qs z t = alike (sym (append-nil h)) refl
  fields_printed (absent fs) f x w st h o qs z t = fields_printed fs f x w st h o qs z t
  fields_printed (field p fs) f x w st h o qs z t =
      ap (print_all (at f x (w ∷ st) h o)) (append_assoc (entries_piece p) (entries_fields fs) (ends ∷ []))
      ∙ print_all_append (at f x (w ∷ st) h o) (entries_piece p) (entries_fields fs ++ (ends ∷ []))
      ∙ ap (λ (s : Printing). print_all s (entries_fields fs ++ (ends ∷ []))) (piece_printed p f x (w ∷ st) h o qs z t)
      ∙ fields_printed fs (after_piece f p) (next_after f h x p) w st (h ++ held_piece f p) (o ++ text_piece f qs p) (quasis_after f qs p) (list_kept f p z) (piece_waits f p x h qs z t)
      ∙ alike (append_assoc h (held_piece f p) (held_fields (after_piece f p) fs)) (append_assoc o (text_piece f qs p) (text_fields (after_piece f p) (quasis_after f qs p) fs))

  piece_printed : (p : Piece) (f : Frame) (x : ℕ) (st : List Open) (h : List Cell) (o : List ℕ) (qs : List Cell) → f.list ≡ 0 → Waits h x qs → print_all (at f x st h o) (entries_piece p) ≡ at (after_piece f p) (next_after f h x p) st (h ++ held_piece f p) (o ++ text_piece f qs p)
  piece_printed (one n) f x st h o qs z t = node_printed n f x st h o qs (rw (not_filled f z) refl)
  piece_printed (list is) f x st h o qs z t =
      items_printed is f 0 (cond (is_quasis (listed f)) (suc (length h)) x) (opened (unlisted f (count is)) x) st h (o ++ list_opening f) (quasis_for f qs is) (ready_start f x h qs is t)
      ∙ ap (λ (y : ℕ). at (unlisted f (count is)) y st (h ++ (held_items_of (listed f) is ++ cond (is_quasis (listed f)) (stop ∷ []) [])) ((o ++ list_opening f) ++ text_items (listed f) (quasis_for f qs is) is)) (twice (is_quasis (listed f)) (suc (length h)) x)
      ∙ alike refl (append_assoc o (list_opening f) (text_items (listed f) (quasis_for f qs is) is))
  piece_printed (text bs) f x st h o qs z t = refl
  piece_printed (byte b) f x st h o qs z t = alike (sym (append-nil h)) (sym (append-nil o))
  piece_printed (mark n) f x st h o qs z t = alike (sym (append-nil h)) (sym (append-nil o))
  piece_printed (number n) f x st h o qs z t = alike (sym (append-nil h)) refl

  items_printed : (is : Items) (f : Frame) (s x : ℕ) (w : Open) (st : List Open) (h : List Cell) (o : List ℕ) (qs : List Cell) → Ready (at_item f s) h x qs (held_items_of (at_item f s) is) → print_all (at (at_item f s) x (w ∷ st) h o) (entries_items is ++ (closes ∷ [])) ≡ at w.frame (cond (is_quasis (listed f)) x w.next) st (h ++ (held_items_of (at_item f s) is ++ cond (is_quasis (listed f)) (stop ∷ []) [])) (o ++ text_items (at_item f s) qs is)
  items_printed none f s x w st h o qs r = closes_printed f s x w st h o qs (ready_left (at_item f s) h x qs r)
  items_printed (hole is) f s x w st h o qs r =
      items_printed is f 2 x w st h (o ++ word (separator (at_item f s))) qs (ready_again f s 2 h x qs (held_items_of (at_item f 2) is) r)
      ∙ alike refl (append_assoc o (word (separator (at_item f s))) (text_items (at_item f 2) qs is))
  items_printed (item n is) f s x w st h o qs r =
      let ready : Ready (at_item f s) h x qs (held_node (at_item f s) n ++ held_items_of (at_item f 1) is) = rw (around_item f s n) at r in
      rw (around_item f s n)
      (ap (print_all (at (at_item f s) x (w ∷ st) h o)) (append_assoc (entries n) (entries_items is) (closes ∷ []))
      ∙ print_all_append (at (at_item f s) x (w ∷ st) h o) (entries n) (entries_items is ++ (closes ∷ []))
      ∙ ap (λ (t : Printing). print_all t (entries_items is ++ (closes ∷ [])))
      (node_printed n (at_item f s) x (w ∷ st) h o qs (ready_first (at_item f s) h x qs (held_node (at_item f s) n ++ held_items_of (at_item f 1) is) ready)
      ∙ ap (λ (g : Frame). at g (next_around (at_item f s) h x) (w ∷ st) (h ++ held_node (at_item f s) n) (o ++ text_node (at_item f s) qs n)) (around_item f s n))
      ∙ items_printed is f 1 (next_around (at_item f s) h x) w st (h ++ held_node (at_item f s) n) (o ++ text_node (at_item f s) qs n) (cond (is_filled (at_item f s)) (later qs) qs) (ready_next f s 1 h (held_node (at_item f s) n) x qs (held_items_of (at_item f 1) is) ready)
      ∙ ap (λ (y : ℕ). at w.frame y st ((h ++ held_node (at_item f s) n) ++ (held_items_of (at_item f 1) is ++ cond (is_quasis (listed f)) (stop ∷ []) [])) ((o ++ text_node (at_item f s) qs n) ++ text_items (at_item f 1) (cond (is_filled (at_item f s)) (later qs) qs) is)) (quasis_stay f s h x w.next)
      ∙ alike
      (append_assoc h (held_node (at_item f s) n) (held_items_of (at_item f 1) is ++ cond (is_quasis (listed f)) (stop ∷ []) []) ∙ ap (λ (z : List Cell). h ++ z) (sym (append_assoc (held_node (at_item f s) n) (held_items_of (at_item f 1) is) (cond (is_quasis (listed f)) (stop ∷ []) []))))
      (append_assoc o (text_node (at_item f s) qs n) (text_items (at_item f 1) (cond (is_filled (at_item f s)) (later qs) qs) is)))

-- the law: the pass over a tree's entries gives its text
pub text_led : (n : Node) → (print_all (at outside 0 [] [] []) (entries n)).out ≡ text_of n
unfolding is_filled text_of
text_led n = ap (λ (s : Printing). s.out) (node_printed n outside 0 [] [] [] [] refl)
