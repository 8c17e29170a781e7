-- The first refusal among the deeds of a walked tree is the first of its visits.
-- Assumes nothing.
use mathlib.Core.Path.{◌≡◌, refl, sym, ap, ◌∙◌, subst}
use mathlib.Core.Bool.{Bool, true, false, cond}
use mathlib.Core.List.{List, [], ◌∷◌, ◌++◌}
use Prim.Native.Nat.{ℕ, zero, suc, ◌+◌}
use native.Mathlib.Omega.{arith}
use lib.Dec.{eqb}
use lib.ListN.{length}
use borrow.Author.Tests.{ne_eqb}
use Rattle.tree.specs.Tree.{Items, wide_bytes, count, encode}
use Rattle.tree.specs.Tree.Items.{none, hole, item}
use Rattle.lowering.specs.Parts.{node_at_of, number_at, stands, is_empty}
use Rattle.lowering.specs.Walk.{Note, Walked, WalkedFields, WalkedPiece, WalkedItems}
use Rattle.lowering.specs.Walk.Walked.{noted}
use Rattle.lowering.specs.Collect.{Visit, new_in, new_in_piece, is_container, marked, mark_of, visits, visits_fields, visits_piece, visits_items, first_refusal}
use Rattle.lowering.proofs.Cases.{by_test}
use Rattle.sink.specs.Machine.{Event}
use Rattle.direct.specs.Events.{Deed, puts, lists, excludes, cell, cell_of, number_in, made, handed, entered, excluded_keys, refused, hands_out, after, marks, count_in, map_in, written, deeds, deeds_fields, deeds_piece, deeds_items}
use Rattle.direct.specs.Events.Deed.{does, refuses}
use Rattle.outcome.specs.Named.{first_refused}

-- ---- rows without a refusal

-- the first of two, of which 0 is none
abbrev pub first : ℕ → ℕ → ℕ
first zero s = s
first (suc r) s = suc r

-- no refusal has the number 0
abbrev pub Sound : List Deed → Type 0
Sound [] = Unit {0}
Sound (does e ∷ ds) = Sound ds
Sound (refuses zero ∷ ds) = ⊥
Sound (refuses (suc r) ∷ ds) = Sound ds

abbrev pub Silent : List Deed → Type 0
Silent [] = Unit {0}
Silent (does e ∷ ds) = Silent ds
Silent (refuses r ∷ ds) = ⊥

silent_both : (ds bs : List Deed) → Silent ds → Silent bs → Silent (ds ++ bs)
silent_both [] bs h k = k
silent_both (does e ∷ ds) bs h k = silent_both ds bs h k
silent_both (refuses r ∷ ds) bs h k = absurd h

pub after_silent : (ds bs : List Deed) → Silent ds → first_refused (ds ++ bs) ≡ first_refused bs
unfolding first_refused
after_silent [] bs h = refl
after_silent (does e ∷ ds) bs h = after_silent ds bs h
after_silent (refuses r ∷ ds) bs h = absurd h

pub silent_none : (ds : List Deed) → Silent ds → first_refused ds ≡ 0
unfolding first_refused
silent_none [] h = refl
silent_none (does e ∷ ds) h = silent_none ds h
silent_none (refuses r ∷ ds) h = absurd h

pub sound_both : (ds bs : List Deed) → Sound ds → Sound bs → Sound (ds ++ bs)
sound_both [] bs h k = k
sound_both (does e ∷ ds) bs h k = sound_both ds bs h k
sound_both (refuses zero ∷ ds) bs h k = absurd h
sound_both (refuses (suc r) ∷ ds) bs h k = sound_both ds bs h k

pub silent_sound : (ds : List Deed) → Silent ds → Sound ds
silent_sound [] h = tt
silent_sound (does e ∷ ds) h = silent_sound ds h
silent_sound (refuses r ∷ ds) h = absurd h

pub first_both : (ds bs : List Deed) → Sound ds → first_refused (ds ++ bs) ≡ first (first_refused ds) (first_refused bs)
unfolding first_refused
first_both [] bs h = refl
first_both (does e ∷ ds) bs h = first_both ds bs h
first_both (refuses zero ∷ ds) bs h = absurd h
first_both (refuses (suc r) ∷ ds) bs h = refl

-- ---- what is handed out

pub puts_silent : (bs : List ℕ) → Silent (puts bs)
puts_silent [] = tt
puts_silent (b ∷ bs) = puts_silent bs

lists_silent : (bs : List ℕ) → Silent (lists bs)
lists_silent [] = tt
lists_silent (b ∷ bs) = lists_silent bs

excludes_silent : (bs : List ℕ) → Silent (excludes bs)
excludes_silent [] = tt
excludes_silent (b ∷ bs) = excludes_silent bs

either : (b : Bool) (ds bs : List Deed) → Silent ds → Silent bs → Silent (cond b ds bs)
either true ds bs h k = h
either false ds bs h k = k

made_silent : (ts : Items) → Silent (made ts)
unfolding made
made_silent none = tt
made_silent (hole ts) = made_silent ts
made_silent (item t ts) = either (eqb (number_at 0 t) 2) (made ts) (does (Event.make (cell_of t)) ∷ made ts) (made_silent ts) (made_silent ts)

handed_silent : (ds : Items) → Silent (handed ds)
unfolding handed
handed_silent none = tt
handed_silent (hole ds) = handed_silent ds
handed_silent (item d ds) =
    silent_both (cond (stands 1 d) (lists (encode (node_at_of 1 d))) []) (handed ds)
    (either (stands 1 d) (lists (encode (node_at_of 1 d))) [] (lists_silent (encode (node_at_of 1 d))) tt)
    (handed_silent ds)

entered_silent : (m : ℕ) (ds : Items) → Silent (entered m ds)
unfolding entered
entered_silent m ds = either (is_empty ds) [] (does (Event.entry m (count ds)) ∷ handed ds) tt (handed_silent ds)

excluded_silent : (ds : Items) → Silent (excluded_keys ds)
unfolding excluded_keys
excluded_silent none = tt
excluded_silent (hole ds) = excluded_silent ds
excluded_silent (item d ds) =
    silent_both (excludes (encode (node_at_of 1 d))) (excluded_keys ds) (excludes_silent (encode (node_at_of 1 d))) (excluded_silent ds)

then_silent : (ds bs : List Deed) → Silent bs → first_refused (ds ++ bs) ≡ first_refused ds
unfolding first_refused
then_silent [] bs h = silent_none bs h
then_silent (does e ∷ ds) bs h = then_silent ds bs h
then_silent (refuses r ∷ ds) bs h = refl

refused_first : (r : ℕ) → first_refused (refused r) ≡ r
unfolding refused first_refused
refused_first zero = refl
refused_first (suc r) = refl

refused_sound : (r : ℕ) → Sound (refused r)
unfolding refused
refused_sound zero = tt
refused_sound (suc r) = tt

module _ (m : ℕ) (note : Note) where
  abbrev one : List Deed
  one = cond (is_empty note.entry) (made note.made) []

  one_silent : Silent one
  one_silent = either (is_empty note.entry) (made note.made) [] (made_silent note.made) tt

  pub hands_first : first_refused (hands_out m note) ≡ note.refusal
  unfolding hands_out
  hands_first =
      then_silent ((refused note.refusal ++ one) ++ entered m note.entry) (excluded_keys note.excluded) (excluded_silent note.excluded)
      ∙ then_silent (refused note.refusal ++ one) (entered m note.entry) (entered_silent m note.entry)
      ∙ then_silent (refused note.refusal) one one_silent
      ∙ refused_first note.refusal

  pub hands_sound : Sound (hands_out m note)
  unfolding hands_out
  hands_sound =
      sound_both ((refused note.refusal ++ one) ++ entered m note.entry) (excluded_keys note.excluded)
      (sound_both (refused note.refusal ++ one) (entered m note.entry)
      (sound_both (refused note.refusal) one (refused_sound note.refusal) (silent_sound one one_silent))
      (silent_sound (entered m note.entry) (entered_silent m note.entry)))
      (silent_sound (excluded_keys note.excluded) (excluded_silent note.excluded))

-- ---- visits

visits_first : (us vs : List Visit) → first_refusal (us ++ vs) ≡ first (first_refusal us) (first_refusal vs)
unfolding first_refusal
visits_first [] vs = refl
visits_first (u ∷ us) vs = go u.note.refusal (visits_first us vs)
  where
    go : (r : ℕ) → first_refusal (us ++ vs) ≡ first (first_refusal us) (first_refusal vs)
        → elim (eqb r 0) [ true ↦ first_refusal (us ++ vs) | false ↦ r ] ≡ first (elim (eqb r 0) [ true ↦ first_refusal us | false ↦ r ]) (first_refusal vs)
    go zero h = h
    go (suc r) h = rw (ne_eqb (suc r) 0 (λ e. omega arith)) refl

visit_first : (v : Visit) (vs : List Visit) → first_refusal (v ∷ vs) ≡ first v.note.refusal (first_refusal vs)
unfolding first_refusal
visit_first v vs = go v.note.refusal
  where
    go : (r : ℕ) → elim (eqb r 0) [ true ↦ first_refusal vs | false ↦ r ] ≡ first r (first_refusal vs)
    go zero = refl
    go (suc r) = rw (ne_eqb (suc r) 0 (λ e. omega arith)) refl

-- ---- trees whose Temporaries and Helpers have no parts

abbrev pub NoParts : WalkedPiece → Type 0
NoParts (WalkedPiece.one w) = ⊥
NoParts (WalkedPiece.list is) = ⊥
NoParts (WalkedPiece.text bs) = Unit {0}
NoParts (WalkedPiece.byte b) = Unit {0}
NoParts (WalkedPiece.mark b) = Unit {0}
NoParts (WalkedPiece.number b) = Unit {0}

abbrev pub Leaf : WalkedFields → Type 0
Leaf WalkedFields.done = Unit {0}
Leaf (WalkedFields.absent fs) = Leaf fs
Leaf (WalkedFields.field p fs) = NoParts p × Leaf fs

abbrev mutual
  pub Leafy : Walked → Type 0
  Leafy (noted note at k fs) = (eqb k 20 ≡ true → Leaf fs) × (eqb k 21 ≡ true → Leaf fs) × LeafyFields fs

  pub LeafyFields : WalkedFields → Type 0
  LeafyFields WalkedFields.done = Unit {0}
  LeafyFields (WalkedFields.absent fs) = LeafyFields fs
  LeafyFields (WalkedFields.field p fs) = LeafyPiece p × LeafyFields fs

  pub LeafyPiece : WalkedPiece → Type 0
  LeafyPiece (WalkedPiece.one w) = Leafy w
  LeafyPiece (WalkedPiece.list is) = LeafyItems is
  LeafyPiece (WalkedPiece.text bs) = Unit {0}
  LeafyPiece (WalkedPiece.byte b) = Unit {0}
  LeafyPiece (WalkedPiece.mark b) = Unit {0}
  LeafyPiece (WalkedPiece.number b) = Unit {0}

  pub LeafyItems : WalkedItems → Type 0
  LeafyItems WalkedItems.none = Unit {0}
  LeafyItems (WalkedItems.hole is) = LeafyItems is
  LeafyItems (WalkedItems.item w is) = Leafy w × LeafyItems is

pub leaf_visits : (l : Bool) (next m : ℕ) (fs : WalkedFields) → Leaf fs → visits_fields l next m fs ≡ []
unfolding visits
leaf_visits l next m WalkedFields.done h = refl
leaf_visits l next m (WalkedFields.absent fs) h = leaf_visits l next m fs h
leaf_visits l next m (WalkedFields.field (WalkedPiece.one w) fs) h = absurd h.0
leaf_visits l next m (WalkedFields.field (WalkedPiece.list is) fs) h = absurd h.0
leaf_visits l next m (WalkedFields.field (WalkedPiece.text bs) fs) h = leaf_visits l (next + new_in_piece (WalkedPiece.text bs)) m fs h.1
leaf_visits l next m (WalkedFields.field (WalkedPiece.byte b) fs) h = leaf_visits l (next + new_in_piece (WalkedPiece.byte b)) m fs h.1
leaf_visits l next m (WalkedFields.field (WalkedPiece.mark b) fs) h = leaf_visits l (next + new_in_piece (WalkedPiece.mark b)) m fs h.1
leaf_visits l next m (WalkedFields.field (WalkedPiece.number b) fs) h = leaf_visits l (next + new_in_piece (WalkedPiece.number b)) m fs h.1

-- ---- the law

-- the deeds have no refusal 0, and their first refusal is that of the visits
pub record Agrees (ds : List Deed) (vs : List Visit) : Type 0 where
  pub sound : Sound ds
  pub same : first_refused ds ≡ first_refusal vs

none_agrees : (ds : List Deed) → Silent ds → Agrees ds []
unfolding first_refusal
none_agrees ds h = record { sound = silent_sound ds h; same = silent_none ds h }

both_agree : (ds bs : List Deed) (us vs : List Visit) → Agrees ds us → Agrees bs vs → Agrees (ds ++ bs) (us ++ vs)
both_agree ds bs us vs h k =
    record {
      sound = sound_both ds bs h.sound k.sound;
      same = first_both ds bs h.sound ∙ ap (λ (x : ℕ). first x (first_refused bs)) h.same ∙ ap (first (first_refusal us)) k.same ∙ sym (visits_first us vs);
    }

before_agrees : (ds bs : List Deed) (vs : List Visit) → Silent ds → Agrees bs vs → Agrees (ds ++ bs) vs
before_agrees ds bs vs h k = record { sound = sound_both ds bs (silent_sound ds h) k.sound; same = after_silent ds bs h ∙ k.same }

note_agrees : (m m' : ℕ) (note : Note) (bs : List Deed) (vs : List Visit) → Agrees bs vs → Agrees (hands_out m note ++ bs) (record { containing = m'; note = note } ∷ vs)
note_agrees m m' note bs vs k =
    record {
      sound = sound_both (hands_out m note) bs (hands_sound m note) k.sound;
      same = first_both (hands_out m note) bs (hands_sound m note)
          ∙ ap (λ (x : ℕ). first x (first_refused bs)) (hands_first m note)
          ∙ ap (first note.refusal) k.same
          ∙ sym (visit_first (record { containing = m'; note = note }) vs);
    }

written_agrees : (at k : ℕ) (fs : WalkedFields) (below : List Deed) (vs : List Visit)
    → (eqb k 20 ≡ true → vs ≡ []) → (eqb k 21 ≡ true → vs ≡ []) → Agrees below vs → Agrees (written at k fs below) vs
unfolding written
written_agrees at k fs below vs f g h =
    by_test (eqb k 20)
    (λ e. rw e (subst (Agrees (does (Event.temporary (cell (number_in fs) at) (number_in fs)) ∷ [])) (sym (f e)) (none_agrees (does (Event.temporary (cell (number_in fs) at) (number_in fs)) ∷ []) tt)))
    (λ e. rw e
    (by_test (eqb k 21)
    (λ d. rw d (subst (Agrees (does (Event.helper (number_in fs)) ∷ [])) (sym (g d)) (none_agrees (does (Event.helper (number_in fs)) ∷ []) tt)))
    (λ d. rw d (before_agrees (puts (k ∷ map_in fs ∷ [])) below vs tt h))))

pub marks_silent : (m : ℕ) → Silent (marks m)
unfolding marks
marks_silent zero = tt
marks_silent (suc m) = tt

mutual
  unfolding deeds visits

  -- marks play no part in this
  pub walked_agrees : (w : Walked) → Leafy w → (next m next' m' : ℕ) → Agrees (deeds next m w) (visits next' m' w)
  walked_agrees (noted note at k fs) h next m next' m' =
      let below = deeds_fields (is_container k) next m fs in
      let vs = visits_fields (is_container k) next' m' fs in
      note_agrees m m' note (written at k fs below) vs
      (written_agrees at k fs below vs
      (λ e. leaf_visits (is_container k) next' m' fs (h.0 e))
      (λ e. leaf_visits (is_container k) next' m' fs (h.1 e))
      (fields_agree fs h.2 (is_container k) next m next' m'))

  fields_agree : (fs : WalkedFields) → LeafyFields fs → (l : Bool) (next m next' m' : ℕ) → Agrees (deeds_fields l next m fs) (visits_fields l next' m' fs)
  fields_agree WalkedFields.done h l next m next' m' = none_agrees [] tt
  fields_agree (WalkedFields.absent fs) h l next m next' m' = fields_agree fs h l next m next' m'
  fields_agree (WalkedFields.field p fs) h l next m next' m' =
      both_agree (deeds_piece l next m p) (deeds_fields l (after next (deeds_piece l next m p)) m fs) (visits_piece l next' m' p) (visits_fields l (next' + new_in_piece p) m' fs)
      (piece_agrees p h.0 l next m next' m') (fields_agree fs h.1 l (after next (deeds_piece l next m p)) m (next' + new_in_piece p) m')

  piece_agrees : (p : WalkedPiece) → LeafyPiece p → (l : Bool) (next m next' m' : ℕ) → Agrees (deeds_piece l next m p) (visits_piece l next' m' p)
  piece_agrees (WalkedPiece.one w) h l next m next' m' = walked_agrees w h next m next' m'
  piece_agrees (WalkedPiece.list is) h l next m next' m' =
      before_agrees (puts (wide_bytes (count_in is))) (deeds_items l next m is) (visits_items l next' m' is) tt (items_agree is h l next m next' m')
  piece_agrees (WalkedPiece.text bs) h l next m next' m' = none_agrees (puts (wide_bytes (length bs) ++ bs)) (puts_silent (wide_bytes (length bs) ++ bs))
  piece_agrees (WalkedPiece.byte b) h l next m next' m' = none_agrees (does (Event.put b) ∷ []) tt
  piece_agrees (WalkedPiece.mark b) h l next m next' m' = none_agrees (marks b) (marks_silent b)
  piece_agrees (WalkedPiece.number b) h l next m next' m' = none_agrees (puts (wide_bytes b)) tt

  items_agree : (is : WalkedItems) → LeafyItems is → (l : Bool) (next m next' m' : ℕ) → Agrees (deeds_items l next m is) (visits_items l next' m' is)
  items_agree WalkedItems.none h l next m next' m' = none_agrees [] tt
  items_agree (WalkedItems.hole is) h l next m next' m' =
      before_agrees (does (Event.put 0) ∷ []) (deeds_items l next m is) (visits_items l next' m' is) tt (items_agree is h l next m next' m')
  items_agree (WalkedItems.item w is) h l next m next' m' =
      both_agree (deeds next (cond l (marked next (mark_of w)) m) w) (deeds_items l (after next (deeds next (cond l (marked next (mark_of w)) m) w)) m is)
      (visits next' (cond l (marked next' (mark_of w)) m') w) (visits_items l (next' + new_in w) m' is)
      (walked_agrees w h.0 next (cond l (marked next (mark_of w)) m) next' (cond l (marked next' (mark_of w)) m'))
      (items_agree is h.1 l (after next (deeds next (cond l (marked next (mark_of w)) m) w)) m (next' + new_in w) m')

pub first_refusal_lem : (w : Walked) → Leafy w → (next m next' m' : ℕ) → first_refused (deeds next m w) ≡ first_refusal (visits next' m' w)
first_refusal_lem w h next m next' m' = (walked_agrees w h next m next' m').same
