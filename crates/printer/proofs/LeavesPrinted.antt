-- A leaf from its begin to its end: what the pass prints, and that the code does so.
-- Assumes nothing.
use mathlib.Core.Path.{◌≡◌, refl, sym, ap, ap₂, ◌∙◌}
use mathlib.Core.Bool.{Bool, true, false, cond}
use mathlib.Core.List.{List, [], ◌∷◌, ◌++◌, append_assoc, append-nil}
use Prim.Native.Nat.{ℕ, ◌+◌, ◌<◌}
use native.Mathlib.Omega.{arith}
use lib.Dec.{eqb}
use lib.ListN.{get_or}
use borrow.Author.Tests.{eqb-true}
use Rattle.tree.specs.Grammar.{among}
use Rattle.tree.specs.Read.{wide_at}
use Rattle.printer.specs.Layout.{words, word, chosen_word, layout, tail_of, lead_of}
use Rattle.printer.specs.Names.{in_quotes}
use Rattle.printer.specs.Places.{lowest, lowest_from, without, without_from, field_in, manner_in, noting, past, is_statement, is_wrapped, in_method_form, wrapping, trailing, following, noted_at, begun, opening, closing, around, is_quasis, is_filled, literal_text, key_name, text_bytes, spelled, text_past, is_quasi}
use Rattle.printer.specs.Text.{Cell, cell_text}
use Rattle.printer.specs.Text.Cell.{quasi}
use Rattle.printer.specs.Entries.{Entry, is_leaf_of}
use Rattle.printer.specs.Machine.{Open, Printing, print, print_all, cell_at, next_around}
use Rattle.printer.specs.Logged.{entries_for, leaf_text}
use Rattle.printer.specs.Stacks.{frame_in, next_in, packed_frame, opens_in, text_at_of, held_in, is_empty, Buffer, write}
use Rattle.printer.specs.Turns.{state_in, unwritten, Kept, Turned}
use Rattle.printer.specs.declared.frame.Frame.{Frame}
use Rattle.printer.specs.declared.print.State.{State}
use Rattle.printer.proofs.Fold.{at}
use Rattle.printer.proofs.StepTurns.{around_in, by_leaf, same_state, written}

-- ---- a leaf's kind and bit map by its code

abbrev pub leaf_kind : ℕ → ℕ
leaf_kind code = get_or (0 ∷ 0 ∷ 0 ∷ 0 ∷ 0 ∷ 0 ∷ 0 ∷ 0 ∷ 0 ∷ 0 ∷ 18 ∷ 19 ∷ 38 ∷ 22 ∷ []) code 0

abbrev pub leaf_map : ℕ → ℕ
leaf_map code = get_or (1 ∷ 1 ∷ 1 ∷ 1 ∷ 1 ∷ 1 ∷ 1 ∷ 1 ∷ 1 ∷ 1 ∷ 1 ∷ 1 ∷ 1 ∷ 7 ∷ []) code 1

-- it is no statement, stands in no parentheses, and is no method
pub record Plain (p : Frame) (kind map note : ℕ) : Type 0 where
  pub leaf : is_leaf_of kind ≡ true
  pub method : 0 ≡ in_method_form p kind map
  pub statement : false ≡ is_statement kind note
  pub wrapped : 0 ≡ wrapping p kind map note

same_zero : (b : Bool) → ◌≡◌ {A = ℕ} 0 (cond b 0 0)
same_zero true = refl
same_zero false = refl

module _ (p : Frame) where
  plain_by : (kind map note : ℕ) → is_leaf_of kind ≡ true → eqb kind 14 ≡ false → is_statement kind note ≡ false → is_wrapped kind note ≡ false → Plain p kind map note
  unfolding in_method_form wrapping
  plain_by kind map note l k s w =
      record {
        leaf = l;
        method = rw k (same_zero (eqb (manner_in p) 12));
        statement = sym s;
        wrapped = rw w (same_zero (eqb (in_method_form p kind map) 0));
      }

  pub plain : (code note : ℕ) → 9 < code → code < 14 → Plain p (leaf_kind code) (leaf_map code) note
  unfolding is_leaf_of is_statement is_wrapped among
  plain code note =
      by_leaf (λ (c : ℕ). Plain p (leaf_kind c) (leaf_map c) note)
      (plain_by 18 1 note refl refl refl refl)
      (plain_by 19 1 note refl refl refl refl)
      (plain_by 38 1 note refl refl refl refl)
      (plain_by 22 7 note refl refl refl refl)
      code

-- ---- what the pass prints

alike : {f : Frame} {x : ℕ} {st : List Open} {h i : List Cell} {o q : List ℕ} → h ≡ i → o ≡ q → at f x st h o ≡ at f x st i q
alike {f} {x} {st} {h} {i} {o} {q} d e = ap₂ (λ (c : List Cell) (t : List ℕ). at f x st c t) d e

module _ (p : Frame) (x : ℕ) (st : List Open) (h : List Cell) where
  -- what stands before it
  abbrev before : ℕ → ℕ → ℕ → List ℕ
  before kind map note = opening p kind map note (cond (is_filled p) (cell_text (cell_at h x)) [])

  -- the state after it, with more that is held and written
  abbrev after_leaf : ℕ → ℕ → List Cell → List ℕ → Printing
  after_leaf kind map held out = at (around p kind map) (next_around p h x) st held out

  name_printed : (kind note : ℕ) (bs ts : List ℕ) → is_quasi (begun p kind 1 note) ≡ false → text_bytes (begun p kind 1 note) bs ≡ ts → closing (text_past (begun p kind 1 note) bs) ≡ word (following p kind 1 note) → print_all (at p x st h []) (Entry.node kind 1 note ∷ Entry.text bs ∷ Entry.ends ∷ []) ≡ after_leaf kind 1 h (before kind 1 note ++ (ts ++ word (following p kind 1 note)))
  unfolding print_all print
  name_printed kind note bs ts q t c =
      alike
      (ap (λ (z : Bool). h ++ cond z (quasi bs ∷ []) []) q ∙ append-nil h)
      (ap₂ (λ (y z : List ℕ). (before kind 1 note ++ y) ++ z) t c ∙ append_assoc (before kind 1 note) ts (word (following p kind 1 note)))

  -- a Literal, with what is noted of it
  abbrev literal : ℕ → ℕ → Frame
  literal note seen = record { kind = 22; map = 7; note = note; how = following p 22 7 note; seen = seen; rem = 7; list = 0 }

  abbrev Run : ℕ → ℕ → List ℕ → List ℕ → Printing
  Run note seen bs cs = print_all (at (literal note seen) 0 (record { frame = around p 22 7; next = next_around p h x } ∷ st) h (before 22 7 note)) (Entry.quiet ∷ Entry.text bs ∷ Entry.text cs ∷ Entry.ends ∷ [])

  spelled_printed : (note : ℕ) (bs cs : List ℕ) → Run note 0 bs cs ≡ after_leaf 22 7 h (before 22 7 note ++ (cond (is_empty bs) (in_quotes cs) bs ++ word (following p 22 7 note)))
  unfolding print_all print past noting text_past spelled text_bytes literal_text is_quasi field_in lowest lowest_from without without_from closing chosen_word tail_of layout word words
  spelled_printed note [] [] = alike (append-nil (h ++ []) ∙ append-nil h) (ap (λ (l : List ℕ). (l ++ in_quotes []) ++ word (following p 22 7 note)) (append-nil (before 22 7 note)) ∙ append_assoc (before 22 7 note) (in_quotes []) (word (following p 22 7 note)))
  spelled_printed note [] (c ∷ cs) = alike (append-nil (h ++ []) ∙ append-nil h) (ap (λ (l : List ℕ). (l ++ in_quotes (c ∷ cs)) ++ word (following p 22 7 note)) (append-nil (before 22 7 note)) ∙ append_assoc (before 22 7 note) (in_quotes (c ∷ cs)) (word (following p 22 7 note)))
  spelled_printed note (b ∷ bs) [] = alike (append-nil (h ++ []) ∙ append-nil h) (ap (λ (l : List ℕ). l ++ word (following p 22 7 note)) (append-nil (before 22 7 note ++ (b ∷ bs))) ∙ append_assoc (before 22 7 note) (b ∷ bs) (word (following p 22 7 note)))
  spelled_printed note (b ∷ bs) (c ∷ cs) = alike (append-nil (h ++ []) ∙ append-nil h) (ap (λ (l : List ℕ). l ++ word (following p 22 7 note)) (append-nil (before 22 7 note ++ (b ∷ bs))) ∙ append_assoc (before 22 7 note) (b ∷ bs) (word (following p 22 7 note)))

  held_printed : (note : ℕ) (bs cs : List ℕ) → Run note 2 bs cs ≡ after_leaf 22 7 (h ++ (quasi bs ∷ [])) (before 22 7 note ++ word (following p 22 7 note))
  unfolding print_all print past noting text_past spelled text_bytes literal_text is_quasi field_in lowest lowest_from without without_from closing chosen_word tail_of layout word words
  held_printed note [] [] = alike (append-nil (h ++ (quasi [] ∷ []))) (ap (λ (l : List ℕ). l ++ word (following p 22 7 note)) (append-nil (before 22 7 note ++ []) ∙ append-nil (before 22 7 note)))
  held_printed note [] (c ∷ cs) = alike (append-nil (h ++ (quasi [] ∷ []))) (ap (λ (l : List ℕ). l ++ word (following p 22 7 note)) (append-nil (before 22 7 note ++ []) ∙ append-nil (before 22 7 note)))
  held_printed note (b ∷ bs) [] = alike (append-nil (h ++ (quasi (b ∷ bs) ∷ []))) (ap (λ (l : List ℕ). l ++ word (following p 22 7 note)) (append-nil (before 22 7 note ++ []) ∙ append-nil (before 22 7 note)))
  held_printed note (b ∷ bs) (c ∷ cs) = alike (append-nil (h ++ (quasi (b ∷ bs) ∷ []))) (ap (λ (l : List ℕ). l ++ word (following p 22 7 note)) (append-nil (before 22 7 note ++ []) ∙ append-nil (before 22 7 note)))

  literal_run : (note seen : ℕ) (bs cs : List ℕ) → noted_at p 22 ≡ seen → print_all (at p x st h []) (Entry.node 22 7 note ∷ Entry.quiet ∷ Entry.text bs ∷ Entry.text cs ∷ Entry.ends ∷ []) ≡ Run note seen bs cs
  unfolding print_all print begun
  literal_run note seen bs cs e = ap (λ (s : ℕ). Run note s bs cs) e

  not_noted : is_quasis p ≡ false → noted_at p 22 ≡ 0
  unfolding is_quasis noted_at
  not_noted q = rw q (sym (same_zero (eqb (manner_in p) 9)))

  is_noted : is_quasis p ≡ true → noted_at p 22 ≡ 2
  unfolding is_quasis noted_at
  is_noted q = rw (eqb-true (manner_in p) 10 q) refl

  -- nothing stands behind a quasi
  no_word : (note : ℕ) → is_quasis p ≡ true → word (following p 22 7 note) ≡ []
  unfolding is_quasis following trailing word words
  no_word note q = rw (sym (plain p 13 note (omega arith) (omega arith)).wrapped, eqb-true (manner_in p) 10 q) refl

  quasi_printed : (tree : List ℕ) (at note : ℕ) → is_quasis p ≡ true → print_all (record { top = p; next = x; stack = st; held = h; out = [] }) (entries_for tree 13 at note) ≡ after_leaf 22 7 (h ++ (quasi (text_at_of tree at) ∷ [])) (before 22 7 note)
  unfolding entries_for
  quasi_printed tree at note q =
      literal_run note 2 (text_at_of tree at) (text_at_of tree (at + 2 + wide_at tree at)) (is_noted q)
      ∙ held_printed note (text_at_of tree at) (text_at_of tree (at + 2 + wide_at tree at))
      ∙ alike refl (ap (λ (l : List ℕ). before 22 7 note ++ l) (no_word note q) ∙ append-nil (before 22 7 note))

  leaf_printed : (tree : List ℕ) (q note code : ℕ) → 9 < code → code < 14 → (code ≡ 13 → is_quasis p ≡ false) → print_all (at p x st h []) (entries_for tree code q note) ≡ after_leaf (leaf_kind code) (leaf_map code) h (before (leaf_kind code) (leaf_map code) note ++ (leaf_text tree code q ++ word (following p (leaf_kind code) (leaf_map code) note)))
  unfolding entries_for begun is_quasi text_bytes text_past noting closing chosen_word tail_of lead_of layout word words
  leaf_printed tree q note code =
      by_leaf (λ (c : ℕ). (c ≡ 13 → is_quasis p ≡ false) → print_all (at p x st h []) (entries_for tree c q note) ≡ after_leaf (leaf_kind c) (leaf_map c) h (before (leaf_kind c) (leaf_map c) note ++ (leaf_text tree c q ++ word (following p (leaf_kind c) (leaf_map c) note))))
      (λ n. name_printed 18 note (text_at_of tree q) (text_at_of tree q) refl refl refl)
      (λ n. name_printed 19 note (text_at_of tree q) (text_at_of tree q) refl refl refl)
      (λ n. name_printed 38 note (text_at_of tree q) (key_name (text_at_of tree q)) refl refl refl)
      (λ n. literal_run note 0 (text_at_of tree q) (text_at_of tree (q + 2 + wide_at tree q)) (not_noted (n refl)) ∙ spelled_printed note (text_at_of tree q) (text_at_of tree (q + 2 + wide_at tree q)))
      code

-- ---- the step

module _ (tree stack starts : List ℕ) (b after : Buffer) (s : State) (code note p top spot : ℕ) where
  abbrev f : Frame
  f = frame_in s.top

  abbrev held : List Cell
  held = held_in tree starts s.count

  abbrev led : ℕ → ℕ → List ℕ
  led kind map = opening f kind map note (cond (is_filled f) (cell_text (cell_at held (next_in s.top))) [])

  pub leaf_turned : (a c : Buffer) → 9 < code → code < 14 → (code ≡ 13 → is_quasis f ≡ false) → s.count < 65536 → a ≡ write b (led (leaf_kind code) (leaf_map code)) → c ≡ write a (leaf_text tree code p) → after ≡ write c (word (following f (leaf_kind code) (leaf_map code) note)) → top ≡ packed_frame (around f (leaf_kind code) (leaf_map code)) (next_around f held (next_in s.top)) → Turned tree stack starts b after (record { top = top; level = s.level; count = s.count; spot = spot }) (print_all (state_in tree stack starts s) (entries_for tree code p note)) s.level (s.count + 1)
  leaf_turned a c l m q hc ha hb hw ht =
      let e = leaf_printed f (next_in s.top) (opens_in stack s.level) held tree p note code l m q in
      record {
        state = same_state (around_in tree stack starts b after s (leaf_kind code) (leaf_map code) top hc ht) refl refl ∙ sym (ap (λ (t : Printing). unwritten t) e);
        wrote = written b a after _ _ ha (written a c after _ _ hb hw) ∙ sym (ap (λ (t : Printing). write b t.out) e);
        level = refl;
        count = omega arith;
      }

  pub quasi_turned : (count : ℕ) (starts' : List ℕ) → code ≡ 13 → is_quasis f ≡ true → s.count < 65536 → after ≡ write b (led 22 7) → top ≡ packed_frame (around f 22 7) (next_around f held (next_in s.top)) → Kept tree starts starts' s.count count (quasi (text_at_of tree p) ∷ []) → Turned tree stack starts' b after (record { top = top; level = s.level; count = count; spot = spot }) (print_all (state_in tree stack starts s) (entries_for tree code p note)) s.level (s.count + 1)
  quasi_turned count starts' z q hc hw ht hk =
      let e = ap (λ (k : ℕ). print_all (state_in tree stack starts s) (entries_for tree k p note)) z ∙ quasi_printed f (next_in s.top) (opens_in stack s.level) held tree p note q in
      record {
        state = same_state (around_in tree stack starts b after s 22 7 top hc ht) refl hk.cells ∙ sym (ap (λ (t : Printing). unwritten t) e);
        wrote = hw ∙ sym (ap (λ (t : Printing). write b t.out) e);
        level = refl;
        count = hk.few;
      }
