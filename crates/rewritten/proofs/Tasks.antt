-- The laws of a loop that takes each sort of field its own way: what was found of the sort that comes next is what stands next in the innermost
-- task, and the step that it is.
-- Assumes nothing.
use mathlib.Core.Path.{◌≡◌, refl, sym, ap, subst, ◌∙◌}
use mathlib.Core.Bool.{Bool, true, false, cond}
use mathlib.Core.List.{List, [], ◌∷◌}
use Prim.Native.Nat.{ℕ, zero, suc, ◌+◌, ◌-◌, ◌*◌, ◌/◌, ◌%◌, ◌<◌, ◌≤◌}
use native.Mathlib.Omega.{arith}
use native.Mathlib.Decide.{dec_lt}
use lib.Dec.{eqb}
use lib.ListN.{length, get_or, set, length-set, get_or-eq_default}
use borrow.Author.Tests.{lt-ltb, eq-eqb, ne_eqb}
use Rattle.tree.specs.Grammar.{Sort}
use Rattle.tree.specs.Grammar.Sort.{child, chosen, many, gaps, text, byte, mark, number}
use Rattle.tree.specs.Rows.{sort_from}
use Rattle.tree.specs.Read.{Got, byte_at, chosen_place}
use Rattle.tree.specs.Answer.{Peeked}
use Rattle.rewritten.specs.Events.{Event}
use Rattle.rewritten.specs.Steps.{coming_at, coming_fields, coming_items, coming_piece, coming_node, list_sort, event_in, Took, Onward}
use Rattle.rewritten.specs.Look.{is_closed, rest_of, place_next, end_for, deeper, event_for, cursor_for, frames_for, step_for, Ahead, new_for, noted_for}
use Rattle.rewritten.specs.Marks.{new_in, noted}
use Rattle.rewritten.specs.declared.step.Cursor.{Cursor}
use Rattle.rewritten.specs.declared.step.Event as told
use Rattle.rewritten.specs.declared.step.Event.TheVariants.{Begins, Opens, Hole, Text, Byte, Mark, Number}
use Rattle.rewritten.specs.declared.step.Step.TheVariants.{Next}
use Rattle.rewritten.proofs.Moves.{took, item_plain, item_other, field_class, field_child, field_chosen, field_other}
use Rattle.rewritten.proofs.Ahead.{ahead_as, hole_ahead, ahead_node, ahead_list, step_goes}
use Rattle.rewritten.proofs.Pass.{coming, onward, Inside, frames_suffice}
use Rattle.rewritten.proofs.Marks.{by_same}
use Rattle.rewritten.proofs.MarksReader.{Reading, reading_next, ahead_refused}

-- `what` is what stands next in the task `top`
abbrev pub InTask : List ℕ → ℕ → ℕ → ℕ → Type 0
InTask l at top what = Ahead l at (rest_of top) (λ fs deep. coming_at l fs at deep top) what

-- it is the node at the place, or a field of the sort, whatever task is around it
abbrev pub AsNode : List ℕ → ℕ → ℕ → ℕ → Type 0
AsNode l at place what = (rest : ℕ) → Ahead l at rest (λ fs deep. coming_node l fs place at deep rest) what

abbrev pub AsField : List ℕ → ℕ → Sort → ℕ → Type 0
AsField l at s what = (rest : ℕ) → Ahead l at rest (λ fs deep. coming_piece l fs s at deep rest) what

-- ---- which sort comes next

-- a byte that is 0 is there
peeked_zero : (l : List ℕ) (at : ℕ) → byte_at l at ≡ 0 → Peeked l at 0
unfolding byte_at
peeked_zero l at z = record { value = sym z; small = omega arith; within = λ _. there; past = λ h. absurd (omega arith) }
  where
    there : at < length l
    there = elim (dec_lt at (length l)) [ yes h ↦ h | no h ↦ let e : get_or l at 256 ≡ 256 = get_or-eq_default l 256 (omega arith) in absurd (omega (arith, z, e)) ]

byte_class : (class a : ℕ) → 6 < class → class < 10 → sort_from class a ≡ byte (class - 7) a
byte_class class a h f = by_same class 7 (λ e. rw e refl) (λ m. by_same class 8 (λ e. rw e refl) (λ n. let e : class ≡ 9 = omega arith in rw e refl))

number_class : (class a : ℕ) → (class ≡ 1 → ⊥) → (class ≡ 2 → ⊥) → (2 < class → 9 < class) → number ≡ sort_from class a
number_class zero a m n h = refl
number_class (suc c) a m n h = sym (get_or-eq_default (number ∷ child a ∷ chosen a (a + 1) ∷ many a ∷ gaps a ∷ text ∷ mark ∷ byte 0 a ∷ byte 1 a ∷ byte 2 a ∷ []) number {n = suc c} (h (omega arith)))

module _ (l : List ℕ) (at top : ℕ) (more : is_closed top ≡ false) where
  items_ahead : top % 2 ≡ 1 → (what : ℕ) → (64 ≤ top / 2 → Ahead l at ((top / 2 - 64) * 2 + 1) (λ fs deep. coming_items l fs at deep (top / 2)) what) → InTask l at top what
  items_ahead odd what a = ahead_list l at top what (λ z. absurd (omega arith)) a more

  fields_ahead : (top % 2 ≡ 1 → ⊥) → (what : ℕ) → ((top / 2 ≡ 0 → ⊥) → Ahead l at (top / 2 / 1024 * 2) (λ fs deep. coming_fields l fs at deep (top / 2)) what) → InTask l at top what
  fields_ahead even what a = ahead_node l at top what (omega arith) a more

  -- the class and the number of a field as `look::field` has them
  same_class : top / 2 % 512 / 32 ≡ top / 64 % 16
  same_class = omega arith

  same_number : top / 2 % 512 % 32 ≡ top / 2 % 32
  same_number = omega arith

  module _ (place : ℕ) (next : place ≡ place_next l at top) where
    place_item : top % 2 ≡ 1 → place ≡ cond (eqb (top / 2 % 2) 1) (cond (eqb (byte_at l at) 0) 33 (top / 4 % 32)) (top / 4 % 32)
    unfolding place_next
    place_item odd = next ∙ rw (eq-eqb (top % 2) 1 odd)

    place_hole : top % 2 ≡ 1 → top / 2 % 2 ≡ 1 → byte_at l at ≡ 0 → place ≡ 33
    place_hole odd o z = place_item odd ∙ rw (eq-eqb (top / 2 % 2) 1 o, eq-eqb (byte_at l at) 0 z)

    place_other : top % 2 ≡ 1 → top / 2 % 2 ≡ 1 → (byte_at l at ≡ 0 → ⊥) → place ≡ top / 4 % 32
    place_other odd o n = place_item odd ∙ rw (eq-eqb (top / 2 % 2) 1 o, ne_eqb (byte_at l at) 0 n)

    place_plain : top % 2 ≡ 1 → (top / 2 % 2 ≡ 1 → ⊥) → place ≡ top / 4 % 32
    place_plain odd o = place_item odd ∙ rw (ne_eqb (top / 2 % 2) 1 o)

    place_field : (top % 2 ≡ 1 → ⊥) → place ≡ cond (eqb (top / 64 % 16) 1) (top / 2 % 32) (cond (eqb (top / 64 % 16) 2) (chosen_place l (top / 2 % 32) (top / 2 % 32 + 1) at) 33)
    unfolding place_next
    place_field even = next ∙ rw (ne_eqb (top % 2) 1 even)

    place_child : (top % 2 ≡ 1 → ⊥) → top / 64 % 16 ≡ 1 → place ≡ top / 2 % 32
    place_child even e = place_field even ∙ rw (eq-eqb (top / 64 % 16) 1 e)

    place_chosen : (top % 2 ≡ 1 → ⊥) → top / 64 % 16 ≡ 2 → place ≡ chosen_place l (top / 2 % 32) (top / 2 % 32 + 1) at
    place_chosen even e = place_field even ∙ rw (ne_eqb (top / 64 % 16) 1 (λ z. absurd (omega arith)), eq-eqb (top / 64 % 16) 2 e)

    chosen_low : chosen_place l (top / 2 % 32) (top / 2 % 32 + 1) at < 33
    unfolding chosen_place
    chosen_low = go (eqb (byte_at l (at - 1)) 1)
      where
        go : (b : Bool) → cond b (top / 2 % 32) (top / 2 % 32 + 1) < 33
        go true = omega arith
        go false = omega arith

    place_none : (top % 2 ≡ 1 → ⊥) → (top / 64 % 16 ≡ 1 → ⊥) → (top / 64 % 16 ≡ 2 → ⊥) → place ≡ 33
    place_none even m n = place_field even ∙ rw (ne_eqb (top / 64 % 16) 1 m, ne_eqb (top / 64 % 16) 2 n)

    -- ---- a node

    module _ (low : place < 33) (what : ℕ) (a : AsNode l at place what) where
      item_ahead : top % 2 ≡ 1 → place ≡ top / 4 % 32 → (64 ≤ top / 2 → (fs : List ℕ) (deep : ℕ) → coming_items l fs at deep (top / 2) ≡ coming_node l fs (top / 2 / 2 % 32) at deep ((top / 2 - 64) * 2 + 1)) → InTask l at top what
      item_ahead odd e is =
          let p : place ≡ top / 2 / 2 % 32 = omega arith in
          items_ahead odd what (λ some. ahead_as (is some) (rw p at (a ((top / 2 - 64) * 2 + 1))))

      next_item : top % 2 ≡ 1 → InTask l at top what
      next_item odd =
          by_same (top / 2 % 2) 1
          (λ o. by_same (byte_at l at) 0
          (λ z. absurd (omega (arith, place_hole odd o z)))
          (λ n. item_ahead odd (place_other odd o n) (λ some fs deep. item_other l fs at deep (top / 2) some o n)))
          (λ o. item_ahead odd (place_plain odd o) (λ some fs deep. item_plain l fs at deep (top / 2) some o))

      next_child : (top % 2 ≡ 1 → ⊥) → InTask l at top what
      next_child even =
          by_same (top / 64 % 16) 1
          (λ e.
          let p : place ≡ top / 2 % 512 % 32 = place_child even e ∙ sym same_number in
          fields_ahead even what (λ some. ahead_as (λ fs deep. field_child l fs at deep (top / 2) some (same_class ∙ e)) (rw p at (a (top / 2 / 1024 * 2)))))
          (λ m. by_same (top / 64 % 16) 2
          (λ e. fields_ahead even what (λ some. ahead_as (λ fs deep. field_chosen l fs at deep (top / 2) some (same_class ∙ e) place (place_chosen even e ∙ ap (λ (x : ℕ). chosen_place l x (x + 1) at) (sym same_number))) (a (top / 2 / 1024 * 2))))
          (λ n. absurd (omega (arith, place_none even m n))))

      pub next_node : InTask l at top what
      next_node = by_same (top % 2) 1 next_item next_child

    module _ (high : 33 ≤ place) where
      -- ---- a hole

      pub next_hole : top % 2 ≡ 1 → InTask l at top 7
      next_hole odd =
          by_same (top / 2 % 2) 1
          (λ o. by_same (byte_at l at) 0
          (λ z. items_ahead odd 7 (λ some. hole_ahead l at (top / 2) 0 some o (peeked_zero l at z) refl))
          (λ n. absurd (omega (arith, place_other odd o n))))
          (λ o. absurd (omega (arith, place_plain odd o)))

      -- ---- a number: any class that is not below

      pub next_number : (top % 2 ≡ 1 → ⊥) → (2 < top / 64 % 16 → 9 < top / 64 % 16) → (what : ℕ) → AsField l at number what → InTask l at top what
      next_number even h what a =
          fields_ahead even what
          (λ some. ahead_as
          (λ fs deep. field_other l fs at deep (top / 2) some
          (rw same_class (number_class (top / 64 % 16) (top / 2 % 512 % 32) (λ e. absurd (omega (arith, place_child even e))) (λ e. absurd (omega (arith, place_chosen even e, chosen_low))) h)))
          (a (top / 2 / 1024 * 2)))

  -- ---- the other fields

  module _ (even : top % 2 ≡ 1 → ⊥) (what : ℕ) where
    as_field : (s : Sort) → sort_from (top / 64 % 16) (top / 2 % 32) ≡ s → AsField l at s what → InTask l at top what
    as_field s e a =
        fields_ahead even what
        (λ some. ahead_as
        (λ fs deep. field_class l fs at deep (top / 2) some (top / 64 % 16) same_class ∙ ap (λ (x : ℕ). coming_piece l fs (sort_from (top / 64 % 16) x) at deep (top / 2 / 1024 * 2)) same_number ∙ ap (λ (x : Sort). coming_piece l fs x at deep (top / 2 / 1024 * 2)) e)
        (a (top / 2 / 1024 * 2)))

    pub next_text : top / 64 % 16 ≡ 5 → AsField l at text what → InTask l at top what
    next_text e = as_field text (rw e refl)

    pub next_mark_lem : top / 64 % 16 ≡ 6 → AsField l at mark what → InTask l at top what
    next_mark_lem e = as_field mark (rw e refl)

    pub next_byte : 6 < top / 64 % 16 → top / 64 % 16 < 10 → AsField l at (byte (top / 64 % 16 - 7) (top / 2 % 32)) what → InTask l at top what
    next_byte h f = as_field (byte (top / 64 % 16 - 7) (top / 2 % 32)) (byte_class (top / 64 % 16) (top / 2 % 32) h f)

    pub next_list : 2 < top / 64 % 16 → top / 64 % 16 < 5 → (holes : Bool) → holes ≡ eqb (top / 64 % 16) 4 → AsField l at (list_sort holes (top / 2 % 32 % 32)) what → InTask l at top what
    next_list h f holes is = as_field (list_sort holes (top / 2 % 32 % 32)) (by_same (top / 64 % 16) 4
        (λ e. rw (is, eq-eqb (top / 64 % 16) 4 e, e, again) refl)
        (λ n. let e : top / 64 % 16 ≡ 3 = omega arith in rw (is, ne_eqb (top / 64 % 16) 4 n, e, again) refl))
      where
        again : top / 2 % 32 % 32 ≡ top / 2 % 32
        again = omega arith

-- ---- where what was found ends: the sums of a loop do not wrap

module _ (l : List ℕ) (at rest : ℕ) (g : List ℕ → ℕ → Got (List Event)) (what : ℕ) (a : Ahead l at rest g what) where
  ends : (code : ℕ) → what % 16 ≡ suc code → end_for at (suc code) (what / 16) ≤ length l
  ends code e = rw e at (a.fits (λ z. absurd (omega arith)))

  pub node_ends : what % 16 ≡ 1 → at + 2 ≤ length l
  node_ends e = ends 0 e

  pub list_ends : what % 16 ≡ 2 → at + 2 ≤ length l
  list_ends e = ends 1 e

  pub text_ends : what % 16 ≡ 3 → at + 2 + what / 16 ≤ length l
  text_ends e = ends 2 e

  pub mark_ends : what % 16 ≡ 4 → at + 2 ≤ length l
  mark_ends e = ends 3 e

  pub byte_ends : what % 16 ≡ 5 → at + 1 ≤ length l
  byte_ends e = ends 4 e

  pub number_ends : what % 16 ≡ 6 → at + 2 ≤ length l
  number_ends e = ends 5 e

  pub hole_ends : what % 16 ≡ 7 → at + 1 ≤ length l
  hole_ends e = ends 6 e

-- ---- the step

module _ (l fs : List ℕ) (c : Cursor) (frames : ℕ) (i : Inside l fs c frames) (what : ℕ) (a : InTask l c.at c.top what) (short : length l ≤ 32768) (enough : 16384 ≤ frames) where
  -- a frame is left
  deeper_by : c.at + 2 ≤ length l → deeper fs c.deep ≡ c.deep + 1
  deeper_by h =
      let s : length fs ≡ frames = i.size in
      let m : 2 * c.deep ≤ c.at = i.room in
      rw (lt-ltb c.deep (length fs) (omega arith))

  pub node_deeper : what % 16 ≡ 1 → deeper fs c.deep ≡ c.deep + 1
  node_deeper e = deeper_by (node_ends l c.at (rest_of c.top) (λ fs deep. coming_at l fs c.at deep c.top) what a e)

  pub list_deeper : what % 16 ≡ 2 → deeper fs c.deep ≡ c.deep + 1
  list_deeper e = deeper_by (list_ends l c.at (rest_of c.top) (λ fs deep. coming_at l fs c.at deep c.top) what a e)

  module _ (rest : ℕ) (left : rest ≡ rest_of c.top) where
    goes : (code : ℕ) → what % 16 ≡ code → (code ≡ 0 → ⊥) → Onward l fs (frames_for fs c.deep rest code) (coming l fs c) c.at c.deep (event_for l c.at code (what / 16)) (cursor_for fs c.at c.deep rest code (what / 16))
    goes code e some =
        let t : Took l fs (frames_for fs c.deep rest code) (coming l fs c) c.at c.deep (step_for l fs c.at c.deep rest code (what / 16)) = rw left (subst (λ (x : ℕ). Took l fs (frames_for fs c.deep (rest_of c.top) x) (coming l fs c) c.at c.deep (step_for l fs c.at c.deep (rest_of c.top) x (what / 16))) e (a.so fs c.deep)) in
        onward l fs (frames_for fs c.deep rest code) c (step_for l fs c.at c.deep rest code (what / 16)) t (event_for l c.at code (what / 16)) (cursor_for fs c.at c.deep rest code (what / 16))
        (step_goes l fs c.at c.deep rest code (what / 16) some (omega (arith, e, a.low)) (λ f. frames_suffice l fs (frames_for fs c.deep rest code) c frames i (step_for l fs c.at c.deep rest code (what / 16)) t f short enough))

    pub node_goes : what % 16 ≡ 1 → Onward l fs (set fs c.deep rest) (coming l fs c) c.at c.deep (Begins c.at (byte_at l c.at) (byte_at l (c.at + 1))) (record { at = c.at + 2; deep = c.deep + 1; top = what / 16 * 2 })
    node_goes e = rw (node_deeper e) at (goes 1 e (λ z. absurd (omega arith)))

    pub list_goes : what % 16 ≡ 2 → Onward l fs (set fs c.deep rest) (coming l fs c) c.at c.deep (Opens (what / 16 / 64)) (record { at = c.at + 2; deep = c.deep + 1; top = what / 16 * 2 + 1 })
    list_goes e = rw (list_deeper e) at (goes 2 e (λ z. absurd (omega arith)))

    pub text_goes : what % 16 ≡ 3 → Onward l fs fs (coming l fs c) c.at c.deep (Text (c.at + 2) (what / 16)) (record { at = c.at + 2 + what / 16; deep = c.deep; top = rest })
    text_goes e = goes 3 e (λ z. absurd (omega arith))

    pub mark_goes : what % 16 ≡ 4 → Onward l fs fs (coming l fs c) c.at c.deep (Mark (what / 16)) (record { at = c.at + 2; deep = c.deep; top = rest })
    mark_goes e = goes 4 e (λ z. absurd (omega arith))

    pub byte_goes : what % 16 ≡ 5 → Onward l fs fs (coming l fs c) c.at c.deep (Byte (what / 16)) (record { at = c.at + 1; deep = c.deep; top = rest })
    byte_goes e = goes 5 e (λ z. absurd (omega arith))

    pub number_goes : what % 16 ≡ 6 → Onward l fs fs (coming l fs c) c.at c.deep (Number (what / 16)) (record { at = c.at + 2; deep = c.deep; top = rest })
    number_goes e = goes 6 e (λ z. absurd (omega arith))

    pub hole_goes : what % 16 ≡ 7 → Onward l fs fs (coming l fs c) c.at c.deep Hole (record { at = c.at + 1; deep = c.deep; top = rest })
    hole_goes e = goes 7 e (λ z. absurd (omega arith))

-- ---- the reader's invariant after the step

module _ (l fs seen : List ℕ) (c : Cursor) (frames : ℕ) (v : Bool) (g : Reading l fs seen c frames v) (what : ℕ) (a : InTask l c.at c.top what) where
  -- nothing that may stand there
  pub none_reads : is_closed c.top ≡ false → what ≡ 0 → false ≡ v
  none_reads more z = ahead_refused l fs seen c frames v g more what (λ _. a) (ap (λ (x : ℕ). x % 16) z)

  module _ (short : length l ≤ 32768) (enough : 16384 ≤ frames) (rest : ℕ) (left : rest ≡ rest_of c.top) where
    reads : (later : List ℕ) (e : told.Event) (d : Cursor) → Onward l fs later (coming l fs c) c.at c.deep e d → length later ≡ length fs → ((tree : List ℕ) → true ≡ new_in seen (event_in tree e)) → ((tree : List ℕ) → seen ≡ noted seen (event_in tree e)) → Reading l later seen d frames v
    reads later e d o same new kept = reading_next l fs later seen c frames v g (Next e d) (took o) e d refl true new same refl seen kept

    pub node_reads : what % 16 ≡ 1 → Reading l (set fs c.deep rest) seen (record { at = c.at + 2; deep = c.deep + 1; top = what / 16 * 2 }) frames v
    unfolding new_in noted
    node_reads e = reads _ _ _ (node_goes l fs c frames g.tour what a short enough rest left e) (length-set fs c.deep rest) (λ t. refl) (λ t. refl)

    pub list_reads : what % 16 ≡ 2 → Reading l (set fs c.deep rest) seen (record { at = c.at + 2; deep = c.deep + 1; top = what / 16 * 2 + 1 }) frames v
    unfolding new_in noted
    list_reads e = reads _ _ _ (list_goes l fs c frames g.tour what a short enough rest left e) (length-set fs c.deep rest) (λ t. refl) (λ t. refl)

    pub text_reads : what % 16 ≡ 3 → Reading l fs seen (record { at = c.at + 2 + what / 16; deep = c.deep; top = rest }) frames v
    unfolding new_in noted
    text_reads e = reads _ _ _ (text_goes l fs c frames g.tour what a short enough rest left e) refl (λ t. refl) (λ t. refl)

    -- a mark that was not met before
    pub mark_reads : what % 16 ≡ 4 → (b : Bool) → b ≡ new_for seen (what % 16) (what / 16) → b ≡ true → (after : List ℕ) → after ≡ noted_for seen (what % 16) (what / 16) → Reading l fs after (record { at = c.at + 2; deep = c.deep; top = rest }) frames v
    unfolding new_in noted
    mark_reads e b new n after so =
        let d : Cursor = record { at = c.at + 2; deep = c.deep; top = rest } in
        reading_next l fs fs seen c frames v g (Next (Mark (what / 16)) d) (took (mark_goes l fs c frames g.tour what a short enough rest left e)) (Mark (what / 16)) d refl b
        (λ t. new ∙ ap (λ (x : ℕ). new_for seen x (what / 16)) e)
        refl n after
        (λ t. so ∙ ap (λ (x : ℕ). noted_for seen x (what / 16)) e)

    pub byte_reads : what % 16 ≡ 5 → Reading l fs seen (record { at = c.at + 1; deep = c.deep; top = rest }) frames v
    unfolding new_in noted
    byte_reads e = reads _ _ _ (byte_goes l fs c frames g.tour what a short enough rest left e) refl (λ t. refl) (λ t. refl)

    pub number_reads : what % 16 ≡ 6 → Reading l fs seen (record { at = c.at + 2; deep = c.deep; top = rest }) frames v
    unfolding new_in noted
    number_reads e = reads _ _ _ (number_goes l fs c frames g.tour what a short enough rest left e) refl (λ t. refl) (λ t. refl)

    pub hole_reads : what % 16 ≡ 7 → Reading l fs seen (record { at = c.at + 1; deep = c.deep; top = rest }) frames v
    unfolding new_in noted
    hole_reads e = reads _ _ _ (hole_goes l fs c frames g.tour what a short enough rest left e) refl (λ t. refl) (λ t. refl)
