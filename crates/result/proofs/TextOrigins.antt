-- Each text of what is written is one of the input's, or one that the rules put.
-- Assumes nothing.
use mathlib.Core.Path.{◌≡◌, refl}
use mathlib.Core.Bool.{Bool, true, false}
use mathlib.Core.List.{List, [], ◌∷◌}
use Prim.Native.Nat.{ℕ}
use native.Mathlib.Omega.{arith}
use Rattle.tree.specs.Tree.{Node, Fields, Piece, Items}
use Rattle.tree.specs.Tree.Node.{node}
use Rattle.tree.specs.Grammar.{Sort, Field}
use Rattle.tree.specs.WellFormed.{Bytes}
use Rattle.lowering.specs.Collect.{Name, Entry, numbered, numbered_fields, numbered_piece, numbered_items, with_number}
use Rattle.equal.specs.Canonical.{each_entry}
use Rattle.result.specs.Causes.{Without}
use Rattle.result.specs.Texts.{TextIn, TextInFields, TextInPiece, TextInItems, TextInList, Known}
use Rattle.result.proofs.LiteralTexts.{number_bytes_lem}
use Rattle.result.proofs.Lies.{of_tree_of, Texts, Lies, LieFields, LiePiece, LieItems, fields_of_lem}
use Rattle.result.proofs.Rules.{leaves}
use Rattle.result.proofs.Comes.{Comes, Left, ComeFields, ComePiece, ComeItems}
use Rattle.result.proofs.Handing.{EntriesLie}

-- ---- what is known of an input's texts

pub known_bytes : (n : Node) → ((bs : List ℕ) → TextIn n bs → Bytes bs) → (bs : List ℕ) → Known n bs → Bytes bs
unfolding Bytes
known_bytes n h bs (Known.of_input i) = h bs i
known_bytes n h bs (Known.number {w = w} i e) = number_bytes_lem w bs e
known_bytes n h bs (Known.none e) = rw e tt
known_bytes n h bs (Known.map e) = rw e (omega arith, (omega arith, (omega arith, tt)))

abbrev pub texts_of : (n : Node) → ((bs : List ℕ) → TextIn n bs → Bytes bs) → Texts
texts_of n h = record { holds = Known n; bytes = known_bytes n h; number = λ w s i e. Known.number i e; empty = Known.none refl; map = Known.map refl; barred = λ s. (of_tree_of s ≡ true) × Without s n; barred_tree = λ s b. b.0 }

-- a Temporary has none
no_text : {A : Type 0} {at number stem : ℕ} {bs : List ℕ} → TextIn (node at 20 (Fields.field (Piece.number number) (Fields.field (Piece.byte stem) Fields.done))) bs → A
no_text (TextIn.in_node (TextInFields.behind (TextInFields.behind i))) = elim i [ ]
no_text (TextIn.in_node (TextInFields.first i)) = elim i [ ]
no_text (TextIn.in_node (TextInFields.behind (TextInFields.first i))) = elim i [ ]

in_fields : {at k : ℕ} {fs : Fields} {bs : List ℕ} → TextIn (node at k fs) bs → TextInFields fs bs
in_fields (TextIn.in_node i) = i

-- ---- the tree

mutual
  pub text_comes : {T : Texts} {n y : Node} → Comes n y → (p : ℕ) → Lies T p n → {bs : List ℕ} → TextIn y bs → T.holds bs
  text_comes (Comes.comes c {n = n} e l) p x i = text_left l p ((leaves c p n x).tree e) i

  text_left : {T : Texts} {r y : Node} → Left r y → (p : ℕ) → Lies T p r → {bs : List ℕ} → TextIn y bs → T.holds bs
  text_left (Left.kept t a) p x (TextIn.in_node i) = text_fields_lem a (fields_of_lem x t).1 i
  text_left (Left.named c) p x i = no_text i

  text_fields_lem : {T : Texts} {fs gs : Fields} → ComeFields fs gs → {b : ℕ} {ts : List Field} → LieFields T b ts fs → {bs : List ℕ} → TextInFields gs bs → T.holds bs
  text_fields_lem (ComeFields.absent a) (LieFields.absent x) (TextInFields.behind_absent i) = text_fields_lem a x i
  text_fields_lem (ComeFields.field a c) (LieFields.needed x y) (TextInFields.first i) = text_piece_lem a x i
  text_fields_lem (ComeFields.field a c) (LieFields.needed x y) (TextInFields.behind i) = text_fields_lem c y i
  text_fields_lem (ComeFields.field a c) (LieFields.given x y) (TextInFields.first i) = text_piece_lem a x i
  text_fields_lem (ComeFields.field a c) (LieFields.given x y) (TextInFields.behind i) = text_fields_lem c y i
  text_fields_lem ComeFields.done x i = elim i [ ]

  text_piece_lem : {T : Texts} {p q : Piece} → ComePiece p q → {b d : ℕ} {s : Sort} → LiePiece T b s p d → {bs : List ℕ} → TextInPiece q bs → T.holds bs
  text_piece_lem (ComePiece.one a) (LiePiece.child {p = p} x) (TextInPiece.one i) = text_comes a p x i
  text_piece_lem (ComePiece.one a) (LiePiece.chosen x) (TextInPiece.one i) = text_comes a _ x i
  text_piece_lem (ComePiece.list a) (LiePiece.many x) (TextInPiece.list i) = text_items_lem a x i
  text_piece_lem (ComePiece.list a) (LiePiece.gaps x) (TextInPiece.list i) = text_items_lem a x i
  text_piece_lem ComePiece.text (LiePiece.text x) TextInPiece.text = x
  text_piece_lem ComePiece.byte x i = elim i [ ]
  text_piece_lem (ComePiece.mark a b) x i = elim i [ ]
  text_piece_lem ComePiece.number x i = elim i [ ]

  text_items_lem : {T : Texts} {is js : Items} → ComeItems is js → {p : ℕ} {h : Bool} → LieItems T p h is → {bs : List ℕ} → TextInItems js bs → T.holds bs
  text_items_lem (ComeItems.hole a) (LieItems.hole x) (TextInItems.behind_hole i) = text_items_lem a x i
  text_items_lem (ComeItems.item a c) (LieItems.item {p = p} x z) (TextInItems.item i) = text_comes a p x i
  text_items_lem (ComeItems.item a c) (LieItems.item x z) (TextInItems.later i) = text_items_lem c z i
  text_items_lem ComeItems.none x i = elim i [ ]

-- ---- the list, which is not walked

module _ (ns : List Name) where
  mutual
    unfolding numbered with_number

    text_numbered : {T : Texts} {p : ℕ} {n : Node} → Lies T p n → {bs : List ℕ} → TextIn (numbered ns n) bs → T.holds bs
    text_numbered (Lies.lies {at = at} {k = k} {fs = fs} z t u f) {bs = bs} i = let j : TextIn (node at k (numbered_fields ns fs)) bs = rw t at i in text_in_fields f (in_fields j)
    text_numbered (Lies.named z a b) i = no_text i

    text_in_fields : {T : Texts} {b : ℕ} {ts : List Field} {fs : Fields} → LieFields T b ts fs → {bs : List ℕ} → TextInFields (numbered_fields ns fs) bs → T.holds bs
    text_in_fields (LieFields.absent a) (TextInFields.behind_absent i) = text_in_fields a i
    text_in_fields (LieFields.needed x a) (TextInFields.first i) = text_in_piece x i
    text_in_fields (LieFields.needed x a) (TextInFields.behind i) = text_in_fields a i
    text_in_fields (LieFields.given x a) (TextInFields.first i) = text_in_piece x i
    text_in_fields (LieFields.given x a) (TextInFields.behind i) = text_in_fields a i
    text_in_fields LieFields.done i = elim i [ ]

    text_in_piece : {T : Texts} {b d : ℕ} {s : Sort} {p : Piece} → LiePiece T b s p d → {bs : List ℕ} → TextInPiece (numbered_piece ns p) bs → T.holds bs
    text_in_piece (LiePiece.child x) (TextInPiece.one i) = text_numbered x i
    text_in_piece (LiePiece.chosen x) (TextInPiece.one i) = text_numbered x i
    text_in_piece (LiePiece.many a) (TextInPiece.list i) = text_in_items a i
    text_in_piece (LiePiece.gaps a) (TextInPiece.list i) = text_in_items a i
    text_in_piece (LiePiece.text a) TextInPiece.text = a
    text_in_piece (LiePiece.byte a b c) i = elim i [ ]
    text_in_piece (LiePiece.mark a) i = elim i [ ]
    text_in_piece (LiePiece.number a) i = elim i [ ]

    text_in_items : {T : Texts} {p : ℕ} {h : Bool} {is : Items} → LieItems T p h is → {bs : List ℕ} → TextInItems (numbered_items ns is) bs → T.holds bs
    text_in_items (LieItems.hole a) (TextInItems.behind_hole i) = text_in_items a i
    text_in_items (LieItems.item x a) (TextInItems.item i) = text_numbered x i
    text_in_items (LieItems.item x a) (TextInItems.later i) = text_in_items a i
    text_in_items LieItems.none i = elim i [ ]

  pub text_list : {T : Texts} (es : List Entry) (ex : Items) → EntriesLie T es → LieItems T 4 false ex → {bs : List ℕ}
      → TextInList (each_entry (λ is. numbered_items ns is) es) (numbered_items ns ex) bs → T.holds bs
  unfolding each_entry
  text_list [] ex h k (TextInList.in_excluded i) = text_in_items k i
  text_list (e ∷ es) ex h k (TextInList.in_entry i) = text_in_items h.1 i
  text_list (e ∷ es) ex h k (TextInList.in_later i) = text_list es ex h.2 k i
