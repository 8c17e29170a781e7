-- Deeds one after another: marks are threaded, so that order is all that matters.
-- Assumes nothing.
use mathlib.Core.Path.{◌≡◌, refl, sym, ap, ◌∙◌, fun_ext}
use mathlib.Core.Bool.{Bool, true, false, cond}
use mathlib.Core.List.{List, [], ◌∷◌, ◌++◌, append_assoc, append-nil}
use Prim.Native.Nat.{ℕ, zero, suc, ◌+◌, min}
use native.Mathlib.Omega.{arith}
use lib.Dec.{eqb}
use lib.ListN.{length}
use Rattle.tree.specs.Tree.{Items, wide_bytes, count, encode}
use Rattle.lowering.specs.Parts.{number_at, node_at_of, stands, is_empty}
use Rattle.lowering.specs.Walk.{Note, Walked, WalkedFields, WalkedPiece, WalkedItems}
use Rattle.lowering.specs.Walk.Walked.{noted}
use Rattle.lowering.specs.Collect.{new_in, new_in_fields, new_in_piece, new_in_items, is_container, marked, mark_of}
use Rattle.sink.specs.Machine.{Event}
use Rattle.direct.specs.Events.{Deed, Emit, puts, lists, excludes, cell, cell_of, number_in, made, handed, entered, excluded_keys, refused, hands_out, later, counted, new_marks, after, marks, written, map_in, deeds, deeds_fields, deeds_piece, deeds_items}
use Rattle.direct.specs.Events.Deed.{does, refuses}
use Rattle.direct.specs.Emit.{say, ◌▷◌}

-- ---- marks

pub later_later : (next a b : ℕ) → later (later next a) b ≡ later next (a + b)
later_later next zero b = let e : b ≡ 0 + b = omega arith in ap (later next) e
later_later next (suc a) zero = let e : suc a ≡ suc a + 0 = omega arith in ap (later next) e
later_later next (suc a) (suc b) =
    let e : suc (a + suc b) ≡ suc a + suc b = omega arith in
    let h : min 65535 (min 65535 (next + suc a) + suc b) ≡ min 65535 (next + suc (a + suc b)) = omega arith in
    h ∙ ap (later next) e

counted_add : (e : Event) (a b : ℕ) → counted e (a + b) ≡ counted e a + b
unfolding counted
counted_add (Event.put x) a b = refl
counted_add (Event.helper x) a b = refl
counted_add (Event.temporary x stem) a b = refl
counted_add Event.new_mark a b = omega arith
counted_add (Event.make x) a b = refl
counted_add (Event.listed x) a b = refl
counted_add (Event.listed_temporary x stem) a b = refl
counted_add (Event.entry x y) a b = refl
counted_add (Event.excluded x) a b = refl
counted_add (Event.excluded_temporary x stem) a b = refl
counted_add Event.declarator a b = refl

pub new_append : (ds es : List Deed) → new_marks (ds ++ es) ≡ new_marks ds + new_marks es
unfolding new_marks
new_append [] es = omega arith
new_append (does e ∷ ds) es = ap (counted e) (new_append ds es) ∙ counted_add e (new_marks ds) (new_marks es)
new_append (refuses r ∷ ds) es = new_append ds es

pub after_append : (next : ℕ) (ds es : List Deed) → after next (ds ++ es) ≡ after (after next ds) es
after_append next ds es = ap (later next) (new_append ds es) ∙ sym (later_later next (new_marks ds) (new_marks es))

-- ---- one thing after another

pub then_assoc : (e f g : Emit) → (e ▷ f) ▷ g ≡ e ▷ f ▷ g
unfolding ◌▷◌
then_assoc e f g =
    fun_ext (λ next.
    let d = e next in
    let u = f (after next d) in
    ap (λ (x : ℕ). (d ++ u) ++ g x) (after_append next d u) ∙ append_assoc d u (g (after (after next d) u)))

pub say_nothing : (e : Emit) → say [] ▷ e ≡ e
unfolding ◌▷◌ say new_marks
say_nothing e = fun_ext (λ next. refl)

pub then_nothing : (e : Emit) → e ▷ say [] ≡ e
unfolding ◌▷◌ say
then_nothing e = fun_ext (λ next. append-nil (e next))

-- deeds without a new mark
pub say_say : (ds es : List Deed) → say ds ▷ say es ≡ say (ds ++ es)
unfolding ◌▷◌ say
say_say ds es = fun_ext (λ next. refl)

pub puts_append : (bs cs : List ℕ) → puts (bs ++ cs) ≡ puts bs ++ puts cs
puts_append [] cs = refl
puts_append (b ∷ bs) cs = ap (λ (x : List Deed). does (Event.put b) ∷ x) (puts_append bs cs)

pub say_puts : (bs cs : List ℕ) → say (puts bs) ▷ say (puts cs) ≡ say (puts (bs ++ cs))
say_puts bs cs = say_say (puts bs) (puts cs) ∙ ap say (sym (puts_append bs cs))

-- ---- the number of new marks is that of the walked tree

puts_new : (bs : List ℕ) → new_marks (puts bs) ≡ 0
unfolding new_marks counted
puts_new [] = refl
puts_new (b ∷ bs) = puts_new bs

lists_new : (bs : List ℕ) → new_marks (lists bs) ≡ 0
unfolding new_marks counted
lists_new [] = refl
lists_new (b ∷ bs) = lists_new bs

excludes_new : (bs : List ℕ) → new_marks (excludes bs) ≡ 0
unfolding new_marks counted
excludes_new [] = refl
excludes_new (b ∷ bs) = excludes_new bs

none_new : (ds es : List Deed) → new_marks ds ≡ 0 → new_marks es ≡ 0 → new_marks (ds ++ es) ≡ 0
none_new ds es h k = let e = new_append ds es in omega arith

cond_new : (b : Bool) (ds es : List Deed) → new_marks ds ≡ 0 → new_marks es ≡ 0 → new_marks (cond b ds es) ≡ 0
cond_new true ds es h k = h
cond_new false ds es h k = k

made_new : (ts : Items) → new_marks (made ts) ≡ 0
unfolding made new_marks counted
made_new Items.none = refl
made_new (Items.hole ts) = made_new ts
made_new (Items.item t ts) = cond_new (eqb (number_at 0 t) 2) (made ts) (does (Event.make (cell_of t)) ∷ made ts) (made_new ts) (made_new ts)

handed_new : (ds : Items) → new_marks (handed ds) ≡ 0
unfolding handed new_marks counted
handed_new Items.none = refl
handed_new (Items.hole ds) = handed_new ds
handed_new (Items.item d ds) =
    none_new (cond (stands 1 d) (lists (encode (node_at_of 1 d))) []) (handed ds)
    (cond_new (stands 1 d) (lists (encode (node_at_of 1 d))) [] (lists_new (encode (node_at_of 1 d))) refl) (handed_new ds)

entered_new : (m : ℕ) (ds : Items) → new_marks (entered m ds) ≡ 0
unfolding entered new_marks counted
entered_new m ds = cond_new (is_empty ds) [] (does (Event.entry m (count ds)) ∷ handed ds) refl (handed_new ds)

excluded_new : (ds : Items) → new_marks (excluded_keys ds) ≡ 0
unfolding excluded_keys new_marks counted
excluded_new Items.none = refl
excluded_new (Items.hole ds) = excluded_new ds
excluded_new (Items.item d ds) = none_new (excludes (encode (node_at_of 1 d))) (excluded_keys ds) (excludes_new (encode (node_at_of 1 d))) (excluded_new ds)

refused_new : (r : ℕ) → new_marks (refused r) ≡ 0
unfolding refused new_marks
refused_new zero = refl
refused_new (suc r) = refl

pub hands_new : (m : ℕ) (note : Note) → new_marks (hands_out m note) ≡ 0
unfolding hands_out new_marks
hands_new m note =
    let x = excluded_keys note.excluded in
    let e = entered m note.entry in
    let d = cond (is_empty note.entry) (made note.made) [] in
    none_new (refused note.refusal ++ d ++ e) x
    (none_new (refused note.refusal ++ d) e
    (none_new (refused note.refusal) d (refused_new note.refusal)
    (cond_new (is_empty note.entry) (made note.made) [] (made_new note.made) refl))
    (entered_new m note.entry))
    (excluded_new note.excluded)

-- no new mark stands below a Temporary or a Helper, of which only the number is written
mutual
  pub data Tidy : Walked → Type 0 where
    tidy : {note : Note} {at k : ℕ} {fs : WalkedFields} → (eqb k 20 ≡ true → new_in_fields fs ≡ 0) → (eqb k 21 ≡ true → new_in_fields fs ≡ 0)
        → TidyFields fs → Tidy (noted note at k fs)

  pub data TidyFields : WalkedFields → Type 0 where
    done : TidyFields WalkedFields.done
    absent : {fs : WalkedFields} → TidyFields fs → TidyFields (WalkedFields.absent fs)
    field : {p : WalkedPiece} {fs : WalkedFields} → TidyPiece p → TidyFields fs → TidyFields (WalkedFields.field p fs)

  pub data TidyPiece : WalkedPiece → Type 0 where
    one : {w : Walked} → Tidy w → TidyPiece (WalkedPiece.one w)
    list : {is : WalkedItems} → TidyItems is → TidyPiece (WalkedPiece.list is)
    text : {bs : List ℕ} → TidyPiece (WalkedPiece.text bs)
    byte : {b : ℕ} → TidyPiece (WalkedPiece.byte b)
    mark : {b : ℕ} → TidyPiece (WalkedPiece.mark b)
    number : {b : ℕ} → TidyPiece (WalkedPiece.number b)

  pub data TidyItems : WalkedItems → Type 0 where
    none : TidyItems WalkedItems.none
    hole : {is : WalkedItems} → TidyItems is → TidyItems (WalkedItems.hole is)
    item : {w : Walked} {is : WalkedItems} → Tidy w → TidyItems is → TidyItems (WalkedItems.item w is)

written_new : (at k : ℕ) (fs : WalkedFields) (ds : List Deed) → (eqb k 20 ≡ true → new_in_fields fs ≡ 0) → (eqb k 21 ≡ true → new_in_fields fs ≡ 0)
    → new_marks ds ≡ new_in_fields fs → new_marks (written at k fs ds) ≡ new_in_fields fs
unfolding written new_marks counted
written_new at k fs ds t h e = go (eqb k 20) (eqb k 21) t h
  where
    go : (a b : Bool) → (a ≡ true → new_in_fields fs ≡ 0) → (b ≡ true → new_in_fields fs ≡ 0)
        → new_marks (cond a (does (Event.temporary (cell (number_in fs) at) (number_in fs)) ∷ []) (cond b (does (Event.helper (number_in fs)) ∷ []) (puts (k ∷ map_in fs ∷ []) ++ ds))) ≡ new_in_fields fs
    go true b t h = sym (t refl)
    go false true t h = sym (h refl)
    go false false t h = e

mutual
  unfolding deeds new_in new_marks counted marks

  pub deeds_new : (w : Walked) → Tidy w → (next m : ℕ) → new_marks (deeds next m w) ≡ new_in w
  deeds_new (noted note at k fs) (tidy t h f) next m =
      let a = new_append (hands_out m note) (written at k fs (deeds_fields (is_container k) next m fs)) in
      let b = hands_new m note in
      let d = written_new at k fs (deeds_fields (is_container k) next m fs) t h (fields_new fs f (is_container k) next m) in
      omega arith

  pub fields_new : (fs : WalkedFields) → TidyFields fs → (l : Bool) (next m : ℕ) → new_marks (deeds_fields l next m fs) ≡ new_in_fields fs
  fields_new WalkedFields.done TidyFields.done l next m = refl
  fields_new (WalkedFields.absent fs) (TidyFields.absent f) l next m = fields_new fs f l next m
  fields_new (WalkedFields.field p fs) (TidyFields.field t f) l next m =
      let a = piece_new p t l next m in
      let b = fields_new fs f l (after next (deeds_piece l next m p)) m in
      let e = new_append (deeds_piece l next m p) (deeds_fields l (after next (deeds_piece l next m p)) m fs) in
      omega arith

  pub piece_new : (p : WalkedPiece) → TidyPiece p → (l : Bool) (next m : ℕ) → new_marks (deeds_piece l next m p) ≡ new_in_piece p
  piece_new (WalkedPiece.one w) (TidyPiece.one t) l next m = deeds_new w t next m
  piece_new (WalkedPiece.list is) (TidyPiece.list t) l next m = items_new is t l next m
  piece_new (WalkedPiece.text bs) t l next m = puts_new (wide_bytes (length bs) ++ bs)
  piece_new (WalkedPiece.byte b) t l next m = refl
  piece_new (WalkedPiece.mark zero) t l next m = refl
  piece_new (WalkedPiece.mark (suc b)) t l next m = refl
  piece_new (WalkedPiece.number b) t l next m = refl

  pub items_new : (is : WalkedItems) → TidyItems is → (l : Bool) (next m : ℕ) → new_marks (deeds_items l next m is) ≡ new_in_items is
  items_new WalkedItems.none t l next m = refl
  items_new (WalkedItems.hole is) (TidyItems.hole t) l next m = items_new is t l next m
  items_new (WalkedItems.item w is) (TidyItems.item t ts) l next m =
      let ds = deeds next (cond l (marked next (mark_of w)) m) w in
      let a = deeds_new w t next (cond l (marked next (mark_of w)) m) in
      let b = items_new is ts l (after next ds) m in
      let e = new_append ds (deeds_items l (after next ds) m is) in
      omega arith

-- so the deeds of the parts follow each other as the walked tree counts them
pub fields_threaded : (l : Bool) (next m : ℕ) (p : WalkedPiece) (fs : WalkedFields) → TidyPiece p
    → deeds_fields l next m (WalkedFields.field p fs) ≡ deeds_piece l next m p ++ deeds_fields l (later next (new_in_piece p)) m fs
unfolding deeds
fields_threaded l next m p fs t = ap (λ (x : ℕ). deeds_piece l next m p ++ deeds_fields l (later next x) m fs) (piece_new p t l next m)

pub items_threaded : (l : Bool) (next m : ℕ) (w : Walked) (ws : WalkedItems) → Tidy w
    → deeds_items l next m (WalkedItems.item w ws)
    ≡ deeds next (cond l (marked next (mark_of w)) m) w ++ deeds_items l (later next (new_in w)) m ws
unfolding deeds
items_threaded l next m w ws t =
    let k = cond l (marked next (mark_of w)) m in
    ap (λ (x : ℕ). deeds next k w ++ deeds_items l (later next x) m ws) (deeds_new w t next k)
