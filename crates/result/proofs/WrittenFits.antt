-- What is written fits the grammar of the rewritten stage, if it is not too long.
-- Assumes nothing.
use mathlib.Core.Path.{◌≡◌, refl, sym, subst}
use mathlib.Core.Bool.{Bool, cond, true≢false}
use mathlib.Core.List.{List}
use Prim.Native.Nat.{ℕ, ◌<◌}
use native.Mathlib.Omega.{arith}
use lib.Dec.{eqb}
use lib.ListN.{length, length-append}
use Rattle.tree.specs.Tree.{Node, Fields, Piece, Items, count, encode, encode_fields, encode_piece, encode_items}
use Rattle.tree.specs.Tree.Node.{node}
use Rattle.tree.specs.Grammar.{Sort, Field, form_at, fields_of, kinds}
use Rattle.tree.specs.Grammar.Stage.{rewritten}
use Rattle.tree.specs.WellFormed.{byte_in, Fits, FitFields, FitPiece, FitItems}
use Rattle.lowering.specs.Made.{temporary}
use Rattle.result.proofs.PlaceRows.{form_20}
use Rattle.result.proofs.Lies.{Texts, Lies, LieFields, LiePiece, LieItems, fields_of_lem}
use Rattle.result.proofs.Rules.{leaves}
use Rattle.result.proofs.Comes.{Comes, Left, ComeFields, ComePiece, ComeItems}
use Rattle.tree.proofs.EncodedLengths.{count_short}

-- ---- a Temporary

stem_of_lem : {T : Texts} {p stem at : ℕ} {path : List ℕ} → Lies T p (temporary path stem at) → (0 < form_at rewritten p 20) × (0 < stem) × (stem < 5)
stem_of_lem (Lies.lies z t u f) = absurd (true≢false t)
stem_of_lem (Lies.named z a b) = (z, a, b)

pub temporary_fits : (p at number stem : ℕ) → 0 < form_at rewritten p 20 → 0 < stem → stem < 5 → number < 65536
    → Fits rewritten p (node at 20 (Fields.field (Piece.number number) (Fields.field (Piece.byte stem) Fields.done)))
unfolding fields_of kinds
temporary_fits p at number stem z a b c =
    Fits.fits z
    (subst (λ (f : ℕ). FitFields rewritten 0 (fields_of f) (Fields.field (Piece.number number) (Fields.field (Piece.byte stem) Fields.done))) (sym (form_20 p z))
    (FitFields.field (FitPiece.number c) (FitFields.field (FitPiece.byte (omega arith) (omega arith) (omega arith)) FitFields.done)))

-- ---- the whole

mutual
  unfolding encode

  pub fit : {T : Texts} {n y : Node} → Comes n y → (p : ℕ) → Lies T p n → length (encode y) < 65536 → Fits rewritten p y
  fit (Comes.comes c {n = n} e l) p x b = fit_left l p ((leaves c p n x).tree e) b

  fit_left : {T : Texts} {r y : Node} → Left r y → (p : ℕ) → Lies T p r → length (encode y) < 65536 → Fits rewritten p y
  fit_left (Left.kept t a) p x b = let f = fields_of_lem x t in Fits.fits f.0 (fit_fields a f.1 (omega arith))
  fit_left (Left.named {at = at} {stem = stem} {number = v} c) p x b = let s = stem_of_lem x in temporary_fits p at v stem s.0 s.1 s.2 c

  fit_fields : {T : Texts} {fs gs : Fields} → ComeFields fs gs → {b : ℕ} {ts : List Field} → LieFields T b ts fs → length (encode_fields gs) < 65536 → FitFields rewritten b ts gs
  fit_fields ComeFields.done LieFields.done l = FitFields.done
  fit_fields (ComeFields.absent a) (LieFields.absent x) l = FitFields.absent (fit_fields a x l)
  fit_fields (ComeFields.field {q = q} {gs = gs} a c) (LieFields.needed {ts = ts} x y) l =
      let n = length-append (encode_piece q) (encode_fields gs) in
      let r = fit_piece a x (omega arith) in
      FitFields.field r.0 (subst (λ (d : ℕ). FitFields rewritten d ts gs) (sym r.1) (fit_fields c y (omega arith)))
  fit_fields (ComeFields.field {q = q} {gs = gs} a c) (LieFields.given {ts = ts} x y) l =
      let n = length-append (encode_piece q) (encode_fields gs) in
      let r = fit_piece a x (omega arith) in
      FitFields.field r.0 (subst (λ (d : ℕ). FitFields rewritten d ts gs) (sym r.1) (fit_fields c y (omega arith)))

  fit_piece : {T : Texts} {p q : Piece} → ComePiece p q → {b d : ℕ} {s : Sort} → LiePiece T b s p d → length (encode_piece q) < 65536 → FitPiece rewritten b s q × (byte_in q ≡ d)
  fit_piece (ComePiece.one a) (LiePiece.child {p = p} x) l = (FitPiece.child (fit a p x l), refl)
  fit_piece (ComePiece.one a) (LiePiece.chosen {b = b} {p = p} {q = q} x) l = (FitPiece.chosen (fit a (cond (eqb b 1) p q) x l), refl)
  fit_piece (ComePiece.list {js = js} a) (LiePiece.many x) l = let c = count_short js in let d : count js < 65536 = omega arith in (FitPiece.many d (fit_items a x (omega arith)), refl)
  fit_piece (ComePiece.list {js = js} a) (LiePiece.gaps x) l = let c = count_short js in let d : count js < 65536 = omega arith in (FitPiece.gaps d (fit_items a x (omega arith)), refl)
  fit_piece {T = T} (ComePiece.text {bs = bs}) (LiePiece.text x) l = let d : length bs < 65536 = omega arith in (FitPiece.text d (T.bytes bs x), refl)
  fit_piece ComePiece.byte (LiePiece.byte x y z) l = (FitPiece.byte x y z, refl)
  fit_piece (ComePiece.mark j e) (LiePiece.mark x) l = (FitPiece.mark j, refl)
  fit_piece ComePiece.number (LiePiece.number x) l = (FitPiece.number x, refl)

  fit_items : {T : Texts} {is js : Items} → ComeItems is js → {p : ℕ} {h : Bool} → LieItems T p h is → length (encode_items js) < 65536 → FitItems rewritten p h js
  fit_items ComeItems.none LieItems.none l = FitItems.none
  fit_items (ComeItems.hole a) (LieItems.hole x) l = FitItems.hole (fit_items a x (omega arith))
  fit_items (ComeItems.item {y = y} {js = js} a c) (LieItems.item {p = p} x z) l =
      let n = length-append (encode y) (encode_items js) in
      FitItems.item (fit a p x (omega arith)) (fit_items c z (omega arith))
