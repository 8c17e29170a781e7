-- The names that are made in named events are those of the visits, so no two are one.
-- Assumes nothing.
use mathlib.Core.Path.{◌≡◌, refl, sym, ap, ap₂, ◌∙◌, subst}
use mathlib.Core.Bool.{Bool, true, false, cond}
use mathlib.Core.List.{List, [], ◌∷◌, ◌++◌}
use Prim.Native.Nat.{ℕ, zero, suc, ◌+◌, ◌≤◌}
use native.Mathlib.Omega.{arith}
use lib.Dec.{eqb}
use lib.ListN.{length}
use Rattle.tree.specs.Tree.{Node, Items, wide_bytes}
use Rattle.lowering.specs.Parts.{is_empty, each, ◌+++◌}
use Rattle.lowering.specs.Made.{Context}
use Rattle.lowering.specs.Walk.{Note, Walked, WalkedFields, WalkedPiece, WalkedItems, unchanged}
use Rattle.lowering.specs.Walk.Walked.{noted}
use Rattle.lowering.specs.Weight.{walked}
use Rattle.lowering.specs.Collect.{Name, name_of, same, Visit, over, new_in, new_in_piece, is_container, marked, mark_of, visits, visits_fields, visits_piece, visits_items}
use Rattle.lowering.specs.Collect
use Rattle.lowering.proofs.Cases.{by_test}
use Rattle.lowering.proofs.Notes.{AllNotes, in_walked}
use Rattle.lowering.proofs.MadeAtSites.{times, times_append}
use Rattle.lowering.proofs.Appearance.{name_self}
use Rattle.lowering.proofs.ItemLaws.{over_append}
use Rattle.sink.specs.Shown.{Named, made_by, made_in_of, Apart}
use Rattle.sink.specs.Shown
use Rattle.direct.specs.Events.{cell, later, number_in, count_in, map_in}
use Rattle.outcome.specs.Named.{Act, puts, marks, hands_out, written, named, named_fields, named_piece, named_items}
use Rattle.outcome.proofs.Refusals.{Leafy, LeafyFields, LeafyPiece, LeafyItems, leaf_visits}
use Rattle.outcome.proofs.Listed.{made_append}
use Rattle.outcome.proofs.MadeOnce.{makes, others, number, makes_all, names_in, hands_made}

-- ---- the names that are made

abbrev makes_of : Visit → List Name
makes_of v = names_in (makes v.note)

abbrev Made : List Act → List Visit → Type 0
Made es vs = made_in_of es ≡ over makes_of vs

no_made : (es : List Act) → made_in_of es ≡ [] → Made es []
unfolding over
no_made es h = h

both_made : (es fs : List Act) (us vs : List Visit) → Made es us → Made fs vs → Made (es ++ fs) (us ++ vs)
both_made es fs us vs h k = made_append es fs ∙ ap₂ (λ (x : List Name) (y : List Name). x ++ y) h k ∙ sym (over_append makes_of us vs)

puts_made : (bs : List ℕ) → made_in_of (puts bs) ≡ []
unfolding puts made_in_of made_by
puts_made [] = refl
puts_made (b ∷ bs) = puts_made bs

marks_made : (b : ℕ) → made_in_of (marks b) ≡ []
unfolding marks puts made_in_of made_by
marks_made zero = refl
marks_made (suc b) = refl

put_made : (b : ℕ) → made_in_of {A = Name} (Named.put b ∷ []) ≡ []
unfolding made_in_of made_by
put_made b = refl

temporary_made : (c stem : ℕ) → made_in_of {A = Name} (Named.temporary c stem ∷ []) ≡ []
unfolding made_in_of made_by
temporary_made c stem = refl

helper_made : (h : ℕ) → made_in_of {A = Name} (Named.helper h ∷ []) ≡ []
unfolding made_in_of made_by
helper_made h = refl

after_none : (es fs : List Act) (vs : List Visit) → made_in_of es ≡ [] → Made fs vs → Made (es ++ fs) vs
after_none es fs vs h k = made_append es fs ∙ ap (λ (x : List Name). x ++ made_in_of fs) h ∙ k

note_made : (m m' : ℕ) (note : Note) (fs : List Act) (vs : List Visit) → Made fs vs → Made (hands_out m note ++ fs) (record { containing = m'; note = note } ∷ vs)
unfolding over
note_made m m' note fs vs h = made_append (hands_out m note) fs ∙ ap₂ (λ (x : List Name) (y : List Name). x ++ y) (hands_made m note) h

written_made : (at k : ℕ) (fs : WalkedFields) (es : List Act) (vs : List Visit) → (eqb k 20 ≡ true → vs ≡ []) → (eqb k 21 ≡ true → vs ≡ []) → Made es vs → Made (written at k fs es) vs
unfolding written over
written_made at k fs es vs f g h =
    by_test (eqb k 20)
    (λ e. rw e (temporary_made (cell (number_in fs) at) (number_in fs) ∙ ap (over makes_of) (sym (f e))))
    (λ e. rw e (by_test (eqb k 21) (λ d. rw d (helper_made (number_in fs) ∙ ap (over makes_of) (sym (g d)))) (λ d. rw d (after_none (puts (k ∷ map_in fs ∷ [])) es vs (puts_made (k ∷ map_in fs ∷ [])) h))))

nothing_made : made_in_of {A = Name} [] ≡ []
unfolding made_in_of
nothing_made = refl

mutual
  unfolding named visits

  -- marks play no part in this
  pub named_made : (w : Walked) → Leafy w → (next m next' m' : ℕ) → made_in_of (named next m w) ≡ over makes_of (visits next' m' w)
  named_made (noted note at k fs) h next m next' m' =
      let es = named_fields (is_container k) next m fs in
      let vs = visits_fields (is_container k) next' m' fs in
      note_made m m' note (written at k fs es) vs
      (written_made at k fs es vs
      (λ e. leaf_visits (is_container k) next' m' fs (h.0 e))
      (λ e. leaf_visits (is_container k) next' m' fs (h.1 e))
      (fields_made fs h.2 (is_container k) next m next' m'))

  fields_made : (fs : WalkedFields) → LeafyFields fs → (l : Bool) (next m next' m' : ℕ) → Made (named_fields l next m fs) (visits_fields l next' m' fs)
  fields_made WalkedFields.done h l next m next' m' = no_made [] nothing_made
  fields_made (WalkedFields.absent fs) h l next m next' m' = fields_made fs h l next m next' m'
  fields_made (WalkedFields.field p fs) h l next m next' m' =
      both_made (named_piece l next m p) (named_fields l (later next (new_in_piece p)) m fs) (visits_piece l next' m' p) (visits_fields l (next' + new_in_piece p) m' fs)
      (piece_made p h.0 l next m next' m') (fields_made fs h.1 l (later next (new_in_piece p)) m (next' + new_in_piece p) m')

  piece_made : (p : WalkedPiece) → LeafyPiece p → (l : Bool) (next m next' m' : ℕ) → Made (named_piece l next m p) (visits_piece l next' m' p)
  piece_made (WalkedPiece.one w) h l next m next' m' = named_made w h next m next' m'
  piece_made (WalkedPiece.list is) h l next m next' m' =
      after_none (puts (wide_bytes (count_in is))) (named_items l next m is) (visits_items l next' m' is) (puts_made (wide_bytes (count_in is))) (items_made is h l next m next' m')
  piece_made (WalkedPiece.text bs) h l next m next' m' = no_made (puts (wide_bytes (length bs) ++ bs)) (puts_made (wide_bytes (length bs) ++ bs))
  piece_made (WalkedPiece.byte b) h l next m next' m' = no_made (Named.put b ∷ []) (put_made b)
  piece_made (WalkedPiece.mark b) h l next m next' m' = no_made (marks b) (marks_made b)
  piece_made (WalkedPiece.number b) h l next m next' m' = no_made (puts (wide_bytes b)) (puts_made (wide_bytes b))

  items_made : (is : WalkedItems) → LeafyItems is → (l : Bool) (next m next' m' : ℕ) → Made (named_items l next m is) (visits_items l next' m' is)
  items_made WalkedItems.none h l next m next' m' = no_made [] nothing_made
  items_made (WalkedItems.hole is) h l next m next' m' =
      after_none (Named.put 0 ∷ []) (named_items l next m is) (visits_items l next' m' is) (put_made 0) (items_made is h l next m next' m')
  items_made (WalkedItems.item w is) h l next m next' m' =
      both_made (named next (cond l (marked next (mark_of w)) m) w) (named_items l (later next (new_in w)) m is)
      (visits next' (cond l (marked next' (mark_of w)) m') w) (visits_items l (next' + new_in w) m' is)
      (named_made w h.0 next (cond l (marked next (mark_of w)) m) next' (cond l (marked next' (mark_of w)) m'))
      (items_made is h.1 l (later next (new_in w)) m (next' + new_in w) m')

-- ---- counted

unfoldable pub often : Name → List Name → ℕ
often a [] = 0
often a (b ∷ l) = cond (same a b) 1 0 + often a l

often_append : (a : Name) (l m : List Name) → often a (l ++ m) ≡ often a l + often a m
unfolding often
often_append a [] m = omega arith
often_append a (b ∷ l) m = let h = often_append a l m in omega arith

often_names : (a : Name) (ts : Items) → often a (names_in ts) ≡ number (λ t. same a (name_of t)) ts
unfolding often names_in number
often_names a Items.none = refl
often_names a (Items.hole ts) = often_names a ts
often_names a (Items.item t ts) = ap (λ (x : ℕ). cond (same a (name_of t)) 1 0 + x) (often_names a ts)

number_times : (a : Name) (ts : Items) → number (λ t. same a (name_of t)) ts ≡ times a ts
unfolding number times
number_times a Items.none = refl
number_times a (Items.hole ts) = number_times a ts
number_times a (Items.item t ts) = ap (λ (x : ℕ). cond (same a (name_of t)) 1 0 + x) (number_times a ts)

-- a note whose temporaries are those that are made
abbrev Whole : Note → Type 0
Whole note = (f : Node → Bool) → number f (makes note) ≡ number f note.made

visits_often : (a : Name) (vs : List Visit) → AllNotes Whole vs → often a (over makes_of vs) ≡ times a (Collect.made_in_of vs)
unfolding over often Collect.made_in_of times
visits_often a [] h = refl
visits_often a (v ∷ vs) h =
    let e = often_append a (makes_of v) (over makes_of vs) in
    let d = often_names a (makes v.note) in
    let b = h.0 (λ t. same a (name_of t)) in
    let c = number_times a v.note.made in
    let r = visits_often a vs h.1 in
    let t = times_append a v.note.made (Collect.made_in_of vs) in
    omega arith

unchanged_whole : (n : Node) → Whole (unchanged n).note
unfolding makes is_empty others each ◌+++◌
unchanged_whole n f = refl

all_whole : (c : Context) (n : Node) (next m : ℕ) → AllNotes Whole (visits next m (walked c n))
all_whole c n next m = in_walked Whole unchanged_whole (λ c' n' f. makes_all f c' n') c n next m

-- ---- so they are apart

none_like : (a : Name) (l : List Name) → often a l ≡ 0 → Shown.Every (λ b. same a b ≡ false) l
unfolding often
none_like a [] h = tt
none_like a (b ∷ l) h =
    by_test (same a b)
    (λ e. let z : 1 + often a l ≡ 0 = rw e at h in absurd (omega arith))
    (λ e. let z : 0 + often a l ≡ 0 = rw e at h in (e, none_like a l (omega arith)))

apart_from : (l : List Name) → ((a : Name) → often a l ≤ 1) → Apart same l
unfolding often
apart_from [] h = tt
apart_from (b ∷ l) h =
    let z : 1 + often b l ≤ 1 = rw (name_self b) at (h b) in
    (none_like b l (omega arith), apart_from l (λ a. let y = h a in omega arith))

-- the names that are made are apart, if those of the visits are
pub made_apart : (c : Context) (n : Node) → Leafy (walked c n) → (next m next' m' : ℕ)
    → ((a : Name) → times a (Collect.made_in_of (visits next' m' (walked c n))) ≤ 1) → Apart same (made_in_of (named next m (walked c n)))
made_apart c n l next m next' m' h =
    subst (Apart same) (sym (named_made (walked c n) l next m next' m'))
    (apart_from (over makes_of (visits next' m' (walked c n)))
    (λ a. let e = visits_often a (visits next' m' (walked c n)) (all_whole c n next' m') in let k = h a in omega arith))
