-- What is refused depends on no mark: neither on the next one nor on that of the containing statement.
-- Assumes nothing.
use mathlib.Core.Path.{◌≡◌, refl, sym, ap, ◌∙◌}
use mathlib.Core.Bool.{Bool, true, false, cond}
use mathlib.Core.List.{List, [], ◌∷◌, ◌++◌}
use Prim.Native.Nat.{ℕ}
use lib.Dec.{eqb}
use Rattle.tree.specs.Tree.{Node, Items, wide_bytes, count, encode}
use Rattle.tree.specs.Tree.Items.{none, hole, item}
use Rattle.lowering.specs.Made.{Context}
use Rattle.lowering.specs.Parts.{number_at, node_at_of, stands, is_empty}
use Rattle.lowering.specs.Collect.{is_container, marked, mark_of}
use Rattle.lowering.specs.Walk.{Note, Walked, WalkedFields, WalkedPiece, WalkedItems}
use Rattle.lowering.specs.Walk.Walked.{noted}
use Rattle.lowering.specs.Weight.{walked}
use Rattle.sink.specs.Machine.{Event}
use Rattle.direct.specs.Events.{Deed, Place, Emit, context_of, puts, lists, excludes, made, handed, entered, excluded_keys, refused, hands_out, after, cell, number_in, map_in, count_in, written, deeds, deeds_fields, deeds_piece, deeds_items, emits}
use Rattle.direct.specs.Events.Deed.{does}
use Rattle.direct.specs.Emit.{say, ◌▷◌, marking, unused}
use Rattle.walk.specs.Run.{met}
use Rattle.walk.proofs.Running.{met_append, Agree}

-- ---- deeds that refuse nothing

pub puts_met : (r : ℕ) (bs : List ℕ) → met r (puts bs) ≡ r
unfolding met
puts_met r [] = refl
puts_met r (b ∷ bs) = puts_met r bs

lists_met : (r : ℕ) (bs : List ℕ) → met r (lists bs) ≡ r
unfolding met
lists_met r [] = refl
lists_met r (b ∷ bs) = lists_met r bs

excludes_met : (r : ℕ) (bs : List ℕ) → met r (excludes bs) ≡ r
unfolding met
excludes_met r [] = refl
excludes_met r (b ∷ bs) = excludes_met r bs

cond_met : (r x : ℕ) (b : Bool) (ds es : List Deed) → met r ds ≡ x → met r es ≡ x → met r (cond b ds es) ≡ x
cond_met r x true ds es h k = h
cond_met r x false ds es h k = k

nothing_met : (r : ℕ) → met r [] ≡ r
unfolding met
nothing_met r = refl

then_met : (r : ℕ) (ds es : List Deed) → met r ds ≡ r → met r es ≡ r → met r (ds ++ es) ≡ r
then_met r ds es h k = met_append r ds es ∙ ap (λ (x : ℕ). met x es) h ∙ k

made_met : (r : ℕ) (ts : Items) → met r (made ts) ≡ r
unfolding made met
made_met r none = refl
made_met r (hole ts) = made_met r ts
made_met r (item t ts) = cond_met r r (eqb (number_at 0 t) 2) (made ts) _ (made_met r ts) (made_met r ts)

handed_met : (r : ℕ) (ds : Items) → met r (handed ds) ≡ r
unfolding handed met
handed_met r none = refl
handed_met r (hole ds) = handed_met r ds
handed_met r (item d ds) =
    then_met r (cond (stands 1 d) (lists (encode (node_at_of 1 d))) []) (handed ds)
    (cond_met r r (stands 1 d) (lists (encode (node_at_of 1 d))) [] (lists_met r (encode (node_at_of 1 d))) refl)
    (handed_met r ds)

excluded_met : (r : ℕ) (ds : Items) → met r (excluded_keys ds) ≡ r
unfolding excluded_keys met
excluded_met r none = refl
excluded_met r (hole ds) = excluded_met r ds
excluded_met r (item d ds) = then_met r (excludes (encode (node_at_of 1 d))) (excluded_keys ds) (excludes_met r (encode (node_at_of 1 d))) (excluded_met r ds)

entered_met : (r m : ℕ) (ds : Items) → met r (entered m ds) ≡ r
unfolding entered met
entered_met r m ds = cond_met r r (is_empty ds) [] (does (Event.entry m (count ds)) ∷ handed ds) refl (handed_met r ds)

-- ---- the deeds of a walked tree

hands_met : (r m : ℕ) (note : Note) → met r (hands_out m note) ≡ met r (refused note.refusal)
unfolding hands_out
hands_met r m note =
    let e = entered m note.entry in
    let x = excluded_keys note.excluded in
    let c = cond (is_empty note.entry) (made note.made) [] in
    let f = refused note.refusal in
    let q : ℕ = met r f in
    met_append r ((f ++ c) ++ e) x
    ∙ ap (λ (z : ℕ). met z x) (met_append r (f ++ c) e ∙ ap (λ (z : ℕ). met z e) (met_append r f c ∙ cond_met q q (is_empty note.entry) (made note.made) [] (made_met q note.made) (nothing_met q)) ∙ entered_met q m note.entry)
    ∙ excluded_met q note.excluded

written_met : (r at k : ℕ) (fs : WalkedFields) (ds es : List Deed) → met r ds ≡ met r es → met r (written at k fs ds) ≡ met r (written at k fs es)
unfolding written
written_met r at k fs ds es h =
    let p = does (Event.temporary (cell (number_in fs) at) (number_in fs)) ∷ [] in
    let q = does (Event.helper (number_in fs)) ∷ [] in
    let b = puts (k ∷ map_in fs ∷ []) in
    let below : met r (b ++ ds) ≡ met r (b ++ es) =
    met_append r b ds ∙ ap (λ (z : ℕ). met z ds) (puts_met r (k ∷ map_in fs ∷ [])) ∙ h ∙ sym (met_append r b es ∙ ap (λ (z : ℕ). met z es) (puts_met r (k ∷ map_in fs ∷ []))) in
    cond_same (eqb k 20) r p p (cond (eqb k 21) q (b ++ ds)) (cond (eqb k 21) q (b ++ es)) refl (cond_same (eqb k 21) r q q (b ++ ds) (b ++ es) refl below)
  where
    cond_same : (b : Bool) (r : ℕ) (a c d e : List Deed) → met r a ≡ met r c → met r d ≡ met r e → met r (cond b a d) ≡ met r (cond b c e)
    cond_same true r a c d e h k = h
    cond_same false r a c d e h k = k

-- two parts one after the other
pair_met : (r : ℕ) (a b c d : List Deed) → met r a ≡ met r c → ((q : ℕ) → met q b ≡ met q d) → met r (a ++ b) ≡ met r (c ++ d)
pair_met r a b c d h k = met_append r a b ∙ ap (λ (z : ℕ). met z b) h ∙ k (met r c) ∙ sym (met_append r c d)

mutual
  unfolding deeds

  deeds_met : (r x y m n : ℕ) (w : Walked) → met r (deeds x m w) ≡ met r (deeds y n w)
  deeds_met r x y m n (noted note at k fs) =
      pair_met r (hands_out m note) (written at k fs (deeds_fields (is_container k) x m fs)) (hands_out n note) (written at k fs (deeds_fields (is_container k) y n fs))
      (hands_met r m note ∙ sym (hands_met r n note))
      (λ q. written_met q at k fs _ _ (fields_met q (is_container k) x y m n fs))

  fields_met : (r : ℕ) (l : Bool) (x y m n : ℕ) (fs : WalkedFields) → met r (deeds_fields l x m fs) ≡ met r (deeds_fields l y n fs)
  fields_met r l x y m n WalkedFields.done = refl
  fields_met r l x y m n (WalkedFields.absent fs) = fields_met r l x y m n fs
  fields_met r l x y m n (WalkedFields.field p fs) =
      pair_met r (deeds_piece l x m p) _ (deeds_piece l y n p) _ (piece_met r l x y m n p) (λ q. fields_met q l (after x (deeds_piece l x m p)) (after y (deeds_piece l y n p)) m n fs)

  piece_met : (r : ℕ) (l : Bool) (x y m n : ℕ) (p : WalkedPiece) → met r (deeds_piece l x m p) ≡ met r (deeds_piece l y n p)
  piece_met r l x y m n (WalkedPiece.one w) = deeds_met r x y m n w
  piece_met r l x y m n (WalkedPiece.list is) =
      pair_met r (puts (wide_bytes (count_in is))) _ (puts (wide_bytes (count_in is))) _ refl (λ q. items_met q l x y m n is)
  piece_met r l x y m n (WalkedPiece.text bs) = refl
  piece_met r l x y m n (WalkedPiece.byte b) = refl
  piece_met r l x y m n (WalkedPiece.mark b) = refl
  piece_met r l x y m n (WalkedPiece.number b) = refl

  items_met : (r : ℕ) (l : Bool) (x y m n : ℕ) (is : WalkedItems) → met r (deeds_items l x m is) ≡ met r (deeds_items l y n is)
  items_met r l x y m n WalkedItems.none = refl
  items_met r l x y m n (WalkedItems.hole is) = pair_met r (does (Event.put 0) ∷ []) _ (does (Event.put 0) ∷ []) _ refl (λ q. items_met q l x y m n is)
  items_met r l x y m n (WalkedItems.item w is) =
      pair_met r (deeds x (cond l (marked x (mark_of w)) m) w) _ (deeds y (cond l (marked y (mark_of w)) n) w) _
      (deeds_met r x y (cond l (marked x (mark_of w)) m) (cond l (marked y (mark_of w)) n) w)
      (λ q. items_met q l (after x (deeds x (cond l (marked x (mark_of w)) m) w)) (after y (deeds y (cond l (marked y (mark_of w)) n) w)) m n is)

-- ---- emissions

pub agree_say : (ds : List Deed) → Agree (say ds) (say ds)
unfolding say
agree_say ds = record { same = λ r k j. refl }

pub agree_then : {e f e' f' : Emit} → Agree e f → Agree e' f' → Agree (e ▷ e') (f ▷ f')
unfolding ◌▷◌
agree_then {e = e} {f = f} {e' = e'} {f' = f'} h h' =
    record { same = λ r k j. pair_met r (e k) (e' (after k (e k))) (f j) (f' (after j (f j))) (h.same r k j) (λ q. h'.same q (after k (e k)) (after j (f j))) }

-- a node at two places that differ in nothing but the mark
pub agree_emits : (c d : Place) (n : Node) → context_of c ≡ context_of d → Agree (emits c n) (emits d n)
unfolding emits
agree_emits c d n h =
    record { same = λ r k j. deeds_met r k j c.mark d.mark (walked (context_of c) n) ∙ ap (λ (κ : Context). met r (deeds j d.mark (walked κ n))) h }

pub agree_marked : (c : Place) (n : Node) (a b : ℕ) → Agree (emits (marking c a) n) (emits (marking c b) n)
unfolding marking
agree_marked c n a b = agree_emits (marking c a) (marking c b) n refl

pub agree_unused : (c : Place) (n : Node) (a b : ℕ) → Agree (emits (unused (marking c a)) n) (emits (unused (marking c b)) n)
unfolding marking unused
agree_unused c n a b = agree_emits (unused (marking c a)) (unused (marking c b)) n refl
