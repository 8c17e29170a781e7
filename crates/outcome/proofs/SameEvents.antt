-- The named events are the events of the deeds.
-- Assumes nothing.
use mathlib.Core.Path.{◌≡◌, refl, sym, ap, ap₂, ◌∙◌, subst}
use mathlib.Core.Bool.{Bool, true, false, cond}
use mathlib.Core.List.{List, [], ◌∷◌, ◌++◌}
use Prim.Native.Nat.{ℕ, zero, suc}
use lib.Dec.{eqb}
use lib.ListN.{length}
use Rattle.tree.specs.Tree.{Items, wide_bytes, count, encode}
use Rattle.lowering.specs.Parts.{node_at_of, number_at, stands, is_empty}
use Rattle.lowering.specs.Made.{id_of}
use Rattle.lowering.specs.Walk.{Note, Walked, WalkedFields, WalkedPiece, WalkedItems}
use Rattle.lowering.specs.Walk.Walked.{noted}
use Rattle.lowering.specs.Collect.{name_of, new_in, new_in_piece, is_container, marked, mark_of}
use Rattle.sink.specs.Machine.{Event}
use Rattle.sink.specs.Shown.{Named, event_of, events_of}
use Rattle.direct.specs.Events.{Deed, cell, cell_of, stem_of, number_in, later, count_in, map_in, deeds, deeds_fields, deeds_piece, deeds_items}
use Rattle.direct.specs.Events
use Rattle.direct.specs.Events.Deed.{does, refuses}
use Rattle.direct.proofs.Threads.{Tidy, TidyFields, TidyPiece, TidyItems, fields_threaded, items_threaded}
use Rattle.outcome.specs.Named.{Act, events_in, puts, lists, excludes, made, handed, entered, excluded_keys, hands_out, marks, written, named, named_fields, named_piece, named_items}

pub in_append : (ds bs : List Deed) → events_in (ds ++ bs) ≡ events_in ds ++ events_in bs
unfolding events_in
in_append [] bs = refl
in_append (does e ∷ ds) bs = ap (λ (x : List Event). e ∷ x) (in_append ds bs)
in_append (refuses r ∷ ds) bs = in_append ds bs

of_append : (es fs : List Act) → events_of (es ++ fs) ≡ events_of es ++ events_of fs
unfolding events_of
of_append [] fs = refl
of_append (e ∷ es) fs = ap (λ (x : List Event). event_of e ∷ x) (of_append es fs)

abbrev Same : List Act → List Deed → Type 0
Same es ds = events_of es ≡ events_in ds

none_same : Same [] []
unfolding events_of events_in
none_same = refl

both : (es fs : List Act) (ds bs : List Deed) → Same es ds → Same fs bs → Same (es ++ fs) (ds ++ bs)
both es fs ds bs h k =
    of_append es fs ∙ ap₂ (λ (x : List Event) (y : List Event). x ++ y) h k ∙ sym (in_append ds bs)

next_same : (e : Act) (es : List Act) (ds : List Deed) → Same es ds → Same (e ∷ es) (does (event_of e) ∷ ds)
unfolding events_of events_in
next_same e es ds h = ap (λ (x : List Event). event_of e ∷ x) h

either : (b : Bool) (es fs : List Act) (ds bs : List Deed) → Same es ds → Same fs bs → Same (cond b es fs) (cond b ds bs)
either true es fs ds bs h k = h
either false es fs ds bs h k = k

puts_same : (bs : List ℕ) → Same (puts bs) (Events.puts bs)
unfolding puts events_of events_in event_of
puts_same [] = refl
puts_same (b ∷ bs) = ap (λ (x : List Event). Event.put b ∷ x) (puts_same bs)

lists_same : (bs : List ℕ) → Same (lists bs) (Events.lists bs)
unfolding lists events_of events_in event_of
lists_same [] = refl
lists_same (b ∷ bs) = ap (λ (x : List Event). Event.listed b ∷ x) (lists_same bs)

excludes_same : (bs : List ℕ) → Same (excludes bs) (Events.excludes bs)
unfolding excludes events_of events_in event_of
excludes_same [] = refl
excludes_same (b ∷ bs) = ap (λ (x : List Event). Event.excluded b ∷ x) (excludes_same bs)

made_same : (ts : Items) → Same (made ts) (Events.made ts)
unfolding made Events.made event_of
made_same Items.none = none_same
made_same (Items.hole ts) = made_same ts
made_same (Items.item t ts) =
    either (eqb (number_at 0 t) 2) (made ts) (Named.make (cell_of t) (name_of t) ∷ made ts) (Events.made ts) (does (Event.make (cell_of t)) ∷ Events.made ts)
    (made_same ts) (next_same (Named.make (cell_of t) (name_of t)) (made ts) (Events.made ts) (made_same ts))

handed_same : (ds : Items) → Same (handed ds) (Events.handed ds)
unfolding handed Events.handed event_of
handed_same Items.none = none_same
handed_same (Items.hole ds) = handed_same ds
handed_same (Items.item d ds) =
    let v = node_at_of 1 d in
    let head : List ℕ = 5 ∷ cond (stands 1 d) 3 1 ∷ [] in
    let t = Named.listed_temporary (cell_of (id_of d)) (stem_of (id_of d)) (name_of (id_of d)) in
    let more = cond (stands 1 d) (lists (encode v)) [] in
    let more' = cond (stands 1 d) (Events.lists (encode v)) [] in
    both (lists head ++ (t ∷ more)) (handed ds) (Events.lists head ++ (does (Event.listed_temporary (cell_of (id_of d)) (stem_of (id_of d))) ∷ more')) (Events.handed ds)
    (both (lists head) (t ∷ more) (Events.lists head) (does (Event.listed_temporary (cell_of (id_of d)) (stem_of (id_of d))) ∷ more') (lists_same head)
    (next_same t more more' (either (stands 1 d) (lists (encode v)) [] (Events.lists (encode v)) [] (lists_same (encode v)) none_same)))
    (handed_same ds)

entered_same : (m : ℕ) (ds : Items) → Same (entered m ds) (Events.entered m ds)
unfolding entered Events.entered event_of
entered_same m ds =
    either (is_empty ds) [] (Named.entry m (count ds) ∷ handed ds) [] (does (Event.entry m (count ds)) ∷ Events.handed ds) none_same
    (next_same (Named.entry m (count ds)) (handed ds) (Events.handed ds) (handed_same ds))

excluded_same : (ds : Items) → Same (excluded_keys ds) (Events.excluded_keys ds)
unfolding excluded_keys Events.excluded_keys event_of
excluded_same Items.none = none_same
excluded_same (Items.hole ds) = excluded_same ds
excluded_same (Items.item d ds) =
    let v = encode (node_at_of 1 d) in
    let t = Named.excluded_temporary (cell_of (id_of d)) (stem_of (id_of d)) (name_of (id_of d)) in
    let u = does (Event.excluded_temporary (cell_of (id_of d)) (stem_of (id_of d))) in
    next_same Named.declarator (t ∷ excludes v ++ excluded_keys ds) (u ∷ Events.excludes v ++ Events.excluded_keys ds)
    (next_same t (excludes v ++ excluded_keys ds) (Events.excludes v ++ Events.excluded_keys ds)
    (both (excludes v) (excluded_keys ds) (Events.excludes v) (Events.excluded_keys ds) (excludes_same v) (excluded_same ds)))

refused_same : (r : ℕ) → Same [] (Events.refused r)
unfolding Events.refused events_of events_in
refused_same zero = refl
refused_same (suc r) = refl

hands_same : (m : ℕ) (note : Note) → Same (hands_out m note) (Events.hands_out m note)
unfolding hands_out Events.hands_out
hands_same m note =
    let one = cond (is_empty note.entry) (made note.made) [] in
    let one' = cond (is_empty note.entry) (Events.made note.made) [] in
    let r = Events.refused note.refusal in
    both (one ++ entered m note.entry) (excluded_keys note.excluded) ((r ++ one') ++ Events.entered m note.entry) (Events.excluded_keys note.excluded)
    (both one (entered m note.entry) (r ++ one') (Events.entered m note.entry)
    (both [] one r one' (refused_same note.refusal)
    (either (is_empty note.entry) (made note.made) [] (Events.made note.made) [] (made_same note.made) none_same))
    (entered_same m note.entry))
    (excluded_same note.excluded)

marks_same : (b : ℕ) → Same (marks b) (Events.marks b)
unfolding marks Events.marks event_of events_of events_in
marks_same zero = refl
marks_same (suc b) = puts_same (wide_bytes (suc b))

written_same : (at k : ℕ) (fs : WalkedFields) (es : List Act) (ds : List Deed) → Same es ds → Same (written at k fs es) (Events.written at k fs ds)
unfolding written Events.written event_of
written_same at k fs es ds h =
    let t = Named.temporary (cell (number_in fs) at) (number_in fs) in
    let u = Named.helper (number_in fs) in
    let b = k ∷ map_in fs ∷ [] in
    either (eqb k 20) (t ∷ []) (cond (eqb k 21) (u ∷ []) (puts b ++ es)) (does (event_of t) ∷ []) (cond (eqb k 21) (does (event_of u) ∷ []) (Events.puts b ++ ds))
    (next_same t [] [] none_same)
    (either (eqb k 21) (u ∷ []) (puts b ++ es) (does (event_of u) ∷ []) (Events.puts b ++ ds) (next_same u [] [] none_same) (both (puts b) es (Events.puts b) ds (puts_same b) h))

mutual
  unfolding named deeds event_of

  pub named_same : (next m : ℕ) (w : Walked) → Tidy w → events_of (named next m w) ≡ events_in (deeds next m w)
  named_same next m (noted note at k fs) (Tidy.tidy a b t) =
      both (hands_out m note) (written at k fs (named_fields (is_container k) next m fs)) (Events.hands_out m note) (Events.written at k fs (deeds_fields (is_container k) next m fs))
      (hands_same m note) (written_same at k fs (named_fields (is_container k) next m fs) (deeds_fields (is_container k) next m fs) (fields_same (is_container k) next m fs t))

  fields_same : (l : Bool) (next m : ℕ) (fs : WalkedFields) → TidyFields fs → Same (named_fields l next m fs) (deeds_fields l next m fs)
  fields_same l next m WalkedFields.done t = none_same
  fields_same l next m (WalkedFields.absent fs) (TidyFields.absent t) = fields_same l next m fs t
  fields_same l next m (WalkedFields.field p fs) (TidyFields.field t ts) =
      subst (Same (named_piece l next m p ++ named_fields l (later next (new_in_piece p)) m fs)) (sym (fields_threaded l next m p fs t))
      (both (named_piece l next m p) (named_fields l (later next (new_in_piece p)) m fs) (deeds_piece l next m p) (deeds_fields l (later next (new_in_piece p)) m fs)
      (piece_same l next m p t) (fields_same l (later next (new_in_piece p)) m fs ts))

  piece_same : (l : Bool) (next m : ℕ) (p : WalkedPiece) → TidyPiece p → Same (named_piece l next m p) (deeds_piece l next m p)
  piece_same l next m (WalkedPiece.one w) (TidyPiece.one t) = named_same next m w t
  piece_same l next m (WalkedPiece.list is) (TidyPiece.list t) =
      both (puts (wide_bytes (count_in is))) (named_items l next m is) (Events.puts (wide_bytes (count_in is))) (deeds_items l next m is) (puts_same (wide_bytes (count_in is))) (items_same l next m is t)
  piece_same l next m (WalkedPiece.text bs) t = puts_same (wide_bytes (length bs) ++ bs)
  piece_same l next m (WalkedPiece.byte b) t = next_same (Named.put b) [] [] none_same
  piece_same l next m (WalkedPiece.mark b) t = marks_same b
  piece_same l next m (WalkedPiece.number b) t = puts_same (wide_bytes b)

  items_same : (l : Bool) (next m : ℕ) (is : WalkedItems) → TidyItems is → Same (named_items l next m is) (deeds_items l next m is)
  items_same l next m WalkedItems.none t = none_same
  items_same l next m (WalkedItems.hole is) (TidyItems.hole t) = next_same (Named.put 0) (named_items l next m is) (deeds_items l next m is) (items_same l next m is t)
  items_same l next m (WalkedItems.item w is) (TidyItems.item t ts) =
      subst (Same (named next (cond l (marked next (mark_of w)) m) w ++ named_items l (later next (new_in w)) m is)) (sym (items_threaded l next m w is t))
      (both (named next (cond l (marked next (mark_of w)) m) w) (named_items l (later next (new_in w)) m is) (deeds next (cond l (marked next (mark_of w)) m) w) (deeds_items l (later next (new_in w)) m is)
      (named_same next (cond l (marked next (mark_of w)) m) w t) (items_same l (later next (new_in w)) m is ts))
