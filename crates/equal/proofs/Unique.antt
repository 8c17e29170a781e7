-- Trees that fit one place and have the same bytes are the same, positions aside, whatever follows the bytes. So are lists.
-- Assumes nothing.
use mathlib.Core.Path.{◌≡◌, refl, sym, ap, ap₂, ◌∙◌, subst}
use mathlib.Core.Bool.{Bool}
use mathlib.Core.List.{List, [], ◌∷◌, ◌++◌, append_assoc}
use Prim.Native.Nat.{ℕ, ◌/◌, ◌%◌}
use native.Mathlib.Omega.{arith}
use lib.ListN.{length}
use Rattle.tree.specs.Tree.{Node, Fields, Piece, Items, wide_bytes, map_of, count, encode, encode_fields, encode_piece, encode_items}
use Rattle.tree.specs.Tree.Node.{node}
use Rattle.tree.specs.Grammar.{Sort, Field, Stage, form_at, fields_of}
use Rattle.tree.specs.WellFormed.{byte_in, Fits, FitFields, FitPiece, FitItems}
use Rattle.tree.proofs.Complete.{not_hole}
use Rattle.equal.specs.Renaming.{unplaced, unplaced_fields, unplaced_piece, unplaced_items}

-- two 16-bit numbers by their bytes, and what follows them
pub wide_same : (a b : ℕ) (x y : List ℕ) → wide_bytes a ++ x ≡ wide_bytes b ++ y → (a ≡ b) × (x ≡ y)
wide_same a b x y e =
    let low : a % 256 ≡ b % 256 = cc in
    let high : a / 256 ≡ b / 256 = cc in
    let rest : x ≡ y = cc in
    (omega arith, rest)

-- two texts of one length
text_same : (ls bs x y : List ℕ) → length ls ≡ length bs → ls ++ x ≡ bs ++ y → (ls ≡ bs) × (x ≡ y)
text_same [] [] x y l e = (refl, e)
text_same [] (b ∷ bs) x y l e = absurd (omega arith)
text_same (a ∷ ls) [] x y l e = absurd (omega arith)
text_same (a ∷ ls) (b ∷ bs) x y l e =
    let h : a ≡ b = cc in
    let t : ls ++ x ≡ bs ++ y = cc in
    let r = text_same ls bs x y (omega arith) t in
    (ap₂ (λ (c : ℕ) (cs : List ℕ). c ∷ cs) h r.0, r.1)

-- positions play no part in what a byte field hands on
byte_unplaced : (p : Piece) → byte_in (unplaced_piece p) ≡ byte_in p
unfolding unplaced
byte_unplaced (Piece.one n) = refl
byte_unplaced (Piece.list is) = refl
byte_unplaced (Piece.text bs) = refl
byte_unplaced (Piece.byte b) = refl
byte_unplaced (Piece.mark b) = refl
byte_unplaced (Piece.number b) = refl

-- a list by its items
pub list_by : (is js : Items) (x y : List ℕ) → (count is ≡ count js → encode_items is ++ x ≡ encode_items js ++ y → (unplaced_items is ≡ unplaced_items js) × (x ≡ y))
    → encode_piece (Piece.list is) ++ x ≡ encode_piece (Piece.list js) ++ y → (unplaced_piece (Piece.list is) ≡ unplaced_piece (Piece.list js)) × (x ≡ y)
unfolding encode unplaced
list_by is js x y h e =
    let w = wide_same (count is) (count js) (encode_items is ++ x) (encode_items js ++ y) e in
    let r = h w.0 w.1 in
    (ap Piece.list r.0, r.1)

module _ (stage : Stage) where
  mutual
    unfolding encode unplaced map_of count

    pub node_same : {p : ℕ} {m n : Node} → Fits stage p m → Fits stage p n → (x y : List ℕ) → encode m ++ x ≡ encode n ++ y → (unplaced m ≡ unplaced n) × (x ≡ y)
    node_same (Fits.fits {p = p} {k = k} {fs = fs} u f) (Fits.fits {k = l} {fs = gs} v g) x y e =
        let kinds : k ≡ l = cc in
        let maps : map_of fs ≡ map_of gs = cc in
        let rest : encode_fields fs ++ x ≡ encode_fields gs ++ y = cc in
        let r = fields_same f (subst (λ (j : ℕ). FitFields stage 0 (fields_of (form_at stage p j)) gs) (sym kinds) g) maps x y rest in
        (ap₂ (node 0) kinds r.0, r.1)

    fields_same : {b : ℕ} {ts : List Field} {fs gs : Fields} → FitFields stage b ts fs → FitFields stage b ts gs → map_of fs ≡ map_of gs
        → (x y : List ℕ) → encode_fields fs ++ x ≡ encode_fields gs ++ y → (unplaced_fields fs ≡ unplaced_fields gs) × (x ≡ y)
    fields_same FitFields.done FitFields.done h x y e = (refl, e)
    fields_same (FitFields.absent f) (FitFields.absent g) h x y e =
        let r = fields_same f g (omega arith) x y e in
        (ap Fields.absent r.0, r.1)
    fields_same (FitFields.absent f) (FitFields.field q g) h x y e = absurd (omega arith)
    fields_same (FitFields.field p f) (FitFields.absent g) h x y e = absurd (omega arith)
    fields_same (FitFields.field {ts = ts} {p = p} {fs = fs} u f) (FitFields.field {p = q} {fs = gs} v g) h x y e =
        let w = sym (append_assoc (encode_piece p) (encode_fields fs) x) ∙ (e ∙ append_assoc (encode_piece q) (encode_fields gs) y) in
        let r = piece_same u v (encode_fields fs ++ x) (encode_fields gs ++ y) w in
        let b : byte_in q ≡ byte_in p = sym (byte_unplaced q) ∙ (ap byte_in (sym r.0) ∙ byte_unplaced p) in
        let s = fields_same f (subst (λ (j : ℕ). FitFields stage j ts gs) b g) (omega arith) x y r.1 in
        (ap₂ Fields.field r.0 s.0, s.1)

    piece_same : {b : ℕ} {t : Sort} {p q : Piece} → FitPiece stage b t p → FitPiece stage b t q → (x y : List ℕ) → encode_piece p ++ x ≡ encode_piece q ++ y
        → (unplaced_piece p ≡ unplaced_piece q) × (x ≡ y)
    piece_same (FitPiece.child f) (FitPiece.child g) x y e = let r = node_same f g x y e in (ap Piece.one r.0, r.1)
    piece_same (FitPiece.chosen f) (FitPiece.chosen g) x y e = let r = node_same f g x y e in (ap Piece.one r.0, r.1)
    piece_same (FitPiece.many {is = is} c f) (FitPiece.many {is = js} d g) x y e = list_by is js x y (λ h t. items_same f g h x y t) e
    piece_same (FitPiece.gaps {is = is} c f) (FitPiece.gaps {is = js} d g) x y e = list_by is js x y (λ h t. items_same f g h x y t) e
    piece_same (FitPiece.text {bs = ls} c f) (FitPiece.text {bs = bs} d g) x y e =
        let w = wide_same (length ls) (length bs) (ls ++ x) (bs ++ y) e in
        let r = text_same ls bs x y w.0 w.1 in
        (ap Piece.text r.0, r.1)
    piece_same (FitPiece.byte {v = v} a c d) (FitPiece.byte {v = w} f g h) x y e =
        let r : v ≡ w = cc in
        let s : x ≡ y = cc in
        (ap Piece.byte r, s)
    piece_same (FitPiece.mark {m = v} c) (FitPiece.mark {m = w} d) x y e = let r = wide_same v w x y e in (ap Piece.mark r.0, r.1)
    piece_same (FitPiece.number {n = v} c) (FitPiece.number {n = w} d) x y e = let r = wide_same v w x y e in (ap Piece.number r.0, r.1)

    pub items_same : {p : ℕ} {h : Bool} {is js : Items} → FitItems stage p h is → FitItems stage p h js → count is ≡ count js
        → (x y : List ℕ) → encode_items is ++ x ≡ encode_items js ++ y → (unplaced_items is ≡ unplaced_items js) × (x ≡ y)
    items_same FitItems.none FitItems.none c x y e = (refl, e)
    items_same FitItems.none (FitItems.hole g) c x y e = absurd (omega arith)
    items_same FitItems.none (FitItems.item v g) c x y e = absurd (omega arith)
    items_same (FitItems.hole f) FitItems.none c x y e = absurd (omega arith)
    items_same (FitItems.hole {is = is} f) (FitItems.hole {is = js} g) c x y e =
        let t : encode_items is ++ x ≡ encode_items js ++ y = cc in
        let r = items_same f g (omega arith) x y t in
        (ap Items.hole r.0, r.1)
    items_same (FitItems.hole f) (FitItems.item (Fits.fits {p = p} {k = k} u w) g) c x y e = absurd (not_hole stage p k u (cc))
    items_same (FitItems.item u f) FitItems.none c x y e = absurd (omega arith)
    items_same (FitItems.item (Fits.fits {p = p} {k = k} u w) f) (FitItems.hole g) c x y e = absurd (not_hole stage p k u (cc))
    items_same (FitItems.item {n = m} {is = is} u f) (FitItems.item {n = n} {is = js} v g) c x y e =
        let w = sym (append_assoc (encode m) (encode_items is) x) ∙ (e ∙ append_assoc (encode n) (encode_items js) y) in
        let r = node_same u v (encode_items is ++ x) (encode_items js ++ y) w in
        let s = items_same f g (omega arith) x y r.1 in
        (ap₂ Items.item r.0 s.0, s.1)
