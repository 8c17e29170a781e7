-- Every part of an accepted tree is as the law asks: no Temporary, no helper, no mark 0, and no hole among declarators.
-- Assumes nothing.
use mathlib.Core.Path.{◌≡◌, refl, sym, ap, subst, ◌∙◌}
use mathlib.Core.Bool.{Bool, true, false, ◌&&◌, ◌||◌}
use mathlib.Core.List.{List, [], ◌∷◌, ◌++◌}
use Prim.Native.Nat.{ℕ, zero, suc, ◌+◌, ◌<◌}
use native.Mathlib.Omega.{arith}
use lib.Dec.{eqb}
use lib.ListN.{get_or}
use borrow.Author.Tests.{eqb-true}
use Rattle.tree.specs.Tree.{Node, Fields, Piece, Items, marks, marks_fields, marks_piece, marks_items}
use Rattle.tree.specs.Tree.Node.{node}
use Rattle.tree.specs.Grammar.{Sort, Field, form_at, form_in, allowed, places, kind_of, kinds, fields_of}
use Rattle.tree.specs.Grammar.Stage.{input}
use Rattle.tree.specs.Read.{sort_in}
use Rattle.tree.specs.WellFormed.{Fits, FitFields, FitPiece, FitItems, Counts, WellFormed}
use Rattle.lowering.specs.Parts.{is, piece_in, as_items_of, items_at_of}
use Rattle.overlay.specs.Plain.{free, free_fields, free_piece, free_items, is_foreign, is_new, has_hole, given}
use Rattle.lowering.specs.Visits.{ItemAt, NodeIn, FieldAt, PartAt, Stands}
use Rattle.overlay.proofs.LaidOn.{differ}
use Rattle.overlay.proofs.Free.{free_below}
use Rattle.lowering.proofs.Cases.{by_test, and_left, and_right}
use Rattle.lowering.proofs.PlaceTests.{row_at, not_20, not_21}

-- ---- a test that holds of every node of a tree holds of the parts

module _ (bad : Node → Bool) where
  item_free : {is : Items} {j : ℕ} {x : Node} → ItemAt is j x → free_items bad is ≡ true → free bad x ≡ true
  item_free (ItemAt.first {x = x} {is = is}) e = and_left (free bad x) (free_items bad is) e
  item_free (ItemAt.behind {n = n} {is = is} a) e = item_free a (and_right (free bad n) (free_items bad is) e)
  item_free (ItemAt.behind_hole a) e = item_free a e

  piece_free : {p : Piece} {j : ℕ} {x : Node} → NodeIn p j x → free_piece bad p ≡ true → free bad x ≡ true
  piece_free NodeIn.one e = e
  piece_free (NodeIn.list a) e = item_free a e

  field_free : {fs : Fields} {i j : ℕ} {x : Node} → FieldAt fs i j x → free_fields bad fs ≡ true → free bad x ≡ true
  field_free (FieldAt.first {p = p} {fs = fs} a) e = piece_free a (and_left (free_piece bad p) (free_fields bad fs) e)
  field_free (FieldAt.behind {p = p} {fs = fs} a) e = field_free a (and_right (free_piece bad p) (free_fields bad fs) e)
  field_free (FieldAt.behind_absent a) e = field_free a e

  part_free : {n x : Node} {i j : ℕ} → PartAt n i j x → free bad n ≡ true → free bad x ≡ true
  part_free (PartAt.part {at = at} {k = k} {fs = fs} a) e = field_free a (free_below bad at k fs e)

  stands_free : {p q : List ℕ} {n m : Node} → Stands p n q m → free bad n ≡ true → free bad m ≡ true
  stands_free Stands.here e = e
  stands_free (Stands.onward a s) e = stands_free s (part_free a e)

-- ---- the grammar's places: what a test says of each row it says of each place

-- the form of a Declaration
form_4 : (p : ℕ) → (eqb (form_at input p 4) 0 || eqb (form_at input p 4) 4) ≡ true
unfolding form_at allowed form_in places kind_of
form_4 p = row_at (λ r. eqb (form_in r 4) 0 || eqb (form_in r 4) 4) places p refl refl

-- ---- fields by the grammar

abbrev pub field_at : List Field → ℕ → Field
field_at ts i = get_or ts i (Field.may Sort.mark)

abbrev pub is_many : Sort → Bool
is_many (Sort.child p) = false
is_many (Sort.chosen p q) = false
is_many (Sort.many p) = true
is_many (Sort.gaps p) = false
is_many Sort.text = false
is_many (Sort.byte low high) = false
is_many Sort.mark = false
is_many Sort.number = false

no_hole : {p : ℕ} {h : Bool} {is : Items} → FitItems input p h is → h ≡ false → has_hole is ≡ false
no_hole FitItems.none e = refl
no_hole (FitItems.hole f) e = differ e
no_hole (FitItems.item n f) e = no_hole f e

piece_list : {b : ℕ} {s : Sort} {p : Piece} → FitPiece input b s p → is_many s ≡ true → has_hole (as_items_of p) ≡ false
piece_list (FitPiece.child f) e = refl
piece_list (FitPiece.chosen f) e = refl
piece_list (FitPiece.many c f) e = no_hole f refl
piece_list (FitPiece.gaps c f) e = differ (sym e)
piece_list (FitPiece.text a b) e = refl
piece_list (FitPiece.byte a b c) e = refl
piece_list (FitPiece.mark a) e = refl
piece_list (FitPiece.number a) e = refl

fit_list : {b : ℕ} {ts : List Field} {fs : Fields} → FitFields input b ts fs → (i : ℕ) → is_many (sort_in (field_at ts i)) ≡ true → has_hole (as_items_of (piece_in fs i)) ≡ false
unfolding piece_in
fit_list FitFields.done i e = refl
fit_list (FitFields.absent f) zero e = refl
fit_list (FitFields.absent f) (suc i) e = fit_list f i e
fit_list (FitFields.field p f) zero e = piece_list p e
fit_list (FitFields.field p f) (suc i) e = fit_list f i e

-- ---- shapes

by_form_4 : (p k : ℕ) → k ≡ 4 → 0 < form_at input p k → form_at input p k ≡ 4
by_form_4 p k e h =
    by_test (eqb (form_at input p 4) 0)
    (λ z. let y : form_at input p k ≡ 0 = ap (λ (x : ℕ). form_at input p x) e ∙ eqb-true (form_at input p 4) 0 z in absurd (omega arith))
    (λ z. ap (λ (x : ℕ). form_at input p x) e ∙ eqb-true (form_at input p 4) 4 (rw z at (form_4 p)))

shaped : (p at k : ℕ) (fs : Fields) → 0 < form_at input p k → FitFields input 0 (fields_of (form_at input p k)) fs → (eqb k 4 && has_hole (items_at_of 2 (node at k fs))) ≡ false
unfolding items_at_of fields_of kinds
shaped p at k fs h f =
    by_test (eqb k 4)
    (λ e. rw e (fit_list (subst (λ (x : ℕ). FitFields input 0 (fields_of x) fs) (by_form_4 p k (eqb-true k 4 e) h) f) 2 refl))
    (λ e. rw e refl)

-- ---- marks

abbrev Positive : List ℕ → Type 0
Positive [] = Unit {0}
Positive (m ∷ ms) = (0 < m) × Positive ms

positive_left : (ms ns : List ℕ) → Positive (ms ++ ns) → Positive ms
positive_left [] ns h = tt
positive_left (m ∷ ms) ns h = (h.0, positive_left ms ns h.1)

positive_right : (ms ns : List ℕ) → Positive (ms ++ ns) → Positive ns
positive_right [] ns h = h
positive_right (m ∷ ms) ns h = positive_right ms ns h.1

counts_positive : (k : ℕ) (ms : List ℕ) (j : ℕ) → 0 < k → Counts k ms j → Positive ms
unfolding Counts
counts_positive k [] j h c = tt
counts_positive k (m ∷ ms) j h c = let e = c.0 in (omega arith, counts_positive (k + 1) ms j (omega arith) c.1)

not_new : (fs : Fields) → Positive (marks_fields fs) → is_new fs ≡ false
unfolding marks
not_new Fields.done h = refl
not_new (Fields.absent fs) h = not_new fs h
not_new (Fields.field (Piece.one n) fs) h = not_new fs (positive_right (marks n) (marks_fields fs) h)
not_new (Fields.field (Piece.list is) fs) h = not_new fs (positive_right (marks_items is) (marks_fields fs) h)
not_new (Fields.field (Piece.text bs) fs) h = not_new fs h
not_new (Fields.field (Piece.byte b) fs) h = not_new fs h
not_new (Fields.field (Piece.mark zero) fs) h = let z = h.0 in absurd (omega arith)
not_new (Fields.field (Piece.mark (suc m)) fs) h = not_new fs h.1
not_new (Fields.field (Piece.number b) fs) h = not_new fs h

-- ---- the whole

mutual
  unfolding marks

  fits_free : {p : ℕ} {n : Node} → Fits input p n → Positive (marks n) → free is_foreign n ≡ true
  fits_free (Fits.fits {p = p} {at = at} {k = k} {fs = fs} h f) m =
      rw (not_20 p k h, not_21 p k h, not_new fs m, shaped p at k fs h f) (fields_free f m)

  fields_free : {b : ℕ} {ts : List Field} {fs : Fields} → FitFields input b ts fs → Positive (marks_fields fs) → free_fields is_foreign fs ≡ true
  fields_free FitFields.done m = refl
  fields_free (FitFields.absent f) m = fields_free f m
  fields_free (FitFields.field {p = p} {fs = fs} a f) m =
      rw (pieces_free a (positive_left (marks_piece p) (marks_fields fs) m)) (fields_free f (positive_right (marks_piece p) (marks_fields fs) m))

  pieces_free : {b : ℕ} {s : Sort} {p : Piece} → FitPiece input b s p → Positive (marks_piece p) → free_piece is_foreign p ≡ true
  pieces_free (FitPiece.child f) m = fits_free f m
  pieces_free (FitPiece.chosen f) m = fits_free f m
  pieces_free (FitPiece.many c f) m = items_free f m
  pieces_free (FitPiece.gaps c f) m = items_free f m
  pieces_free (FitPiece.text a b) m = refl
  pieces_free (FitPiece.byte a b c) m = refl
  pieces_free (FitPiece.mark a) m = refl
  pieces_free (FitPiece.number a) m = refl

  items_free : {p : ℕ} {h : Bool} {is : Items} → FitItems input p h is → Positive (marks_items is) → free_items is_foreign is ≡ true
  items_free FitItems.none m = refl
  items_free (FitItems.hole f) m = items_free f m
  items_free (FitItems.item {n = n} {is = is} a f) m =
      rw (fits_free a (positive_left (marks n) (marks_items is) m)) (items_free f (positive_right (marks n) (marks_items is) m))

-- every node that stands in an accepted tree
pub accepted_given : (d j : ℕ) (n : Node) → WellFormed input d n j → {q : List ℕ} {m : Node} → Stands [] n q m → given m ≡ true
unfolding given
accepted_given d j n w s = stands_free is_foreign s (fits_free w.fits (counts_positive 1 (marks n) j (omega arith) w.marked))
