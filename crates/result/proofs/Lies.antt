-- A node that lies at a place of the rewritten stage: by the grammar, but for counts and lengths, which are not bounded, and for a
-- Temporary, which has its name yet. T says what holds of each text and node in it. This is what the rules keep.
-- Assumes nothing.
use mathlib.Core.Path.{◌≡◌, refl, sym, subst}
use mathlib.Core.Bool.{Bool, true, false, cond, not, ◌&&◌, true≢false}
use mathlib.Core.List.{List, [], ◌∷◌}
use mathlib.Core.Option.{some}
use Prim.Native.Nat.{ℕ, zero, suc, ◌<◌, ◌≤◌}
use native.Mathlib.Omega.{arith}
use lib.Dec.{eqb}
use Rattle.tree.specs.Tree.{Node, Fields, Piece, Items}
use Rattle.tree.specs.Tree.Node.{node}
use Rattle.tree.specs.Grammar.{Sort, Field, form_at, fields_of}
use Rattle.tree.specs.Grammar.Field.{must, may}
use Rattle.tree.specs.Grammar.Stage.{input, rewritten}
use Rattle.tree.specs.Read.{sort_in}
use Rattle.tree.specs.WellFormed.{Bytes, byte_in, Fits, FitFields, FitPiece, FitItems}
use Rattle.lowering.specs.Parts.{kind, piece_in, stands_in, change_in, as_node, as_items_of, is, only, each, gather, ◌+++◌}
use Rattle.lowering.specs.Made.{temporary}
use Rattle.lowering.specs.Numbers.{number_string}
use Rattle.result.specs.Causes.{Cause, shows, Within, Without}
use Rattle.result.specs.Texts.{TextIn, TextInFields, TextInPiece, TextInItems}
use Rattle.result.proofs.PlaceRows.{input_form}
use Rattle.lowering.proofs.All.{AllItems}
use Rattle.lowering.proofs.PlaceTests.{not_20}
use Rattle.lowering.specs.Visits.{ItemAt, NodeIn, FieldAt, PartAt}

-- a cause of something left in the tree
abbrev pub of_tree_of : Cause → Bool
of_tree_of Cause.rest_parameter = true
of_tree_of Cause.without_body = true
of_tree_of Cause.array_rest = true
of_tree_of Cause.without_value = true
of_tree_of Cause.in_key = false
of_tree_of Cause.in_template = false

-- what holds of each text (it is of bytes, it holds of the string of a number if of its spelling, and of the two that the rules put themselves:
-- the spelling of a string that has none, and the name `map`), and which causes of the tree no node has
pub record Texts : Type 1 where
  pub holds : List ℕ → Type 0
  pub bytes : (bs : List ℕ) → holds bs → Bytes bs
  pub number : (w s : List ℕ) → holds w → number_string w ≡ some s → holds s
  pub empty : holds []
  pub map : holds (109 ∷ 97 ∷ 112 ∷ [])
  pub barred : Cause → Type 0
  pub barred_tree : (s : Cause) → barred s → of_tree_of s ≡ true

mutual
  pub data Lies (T : Texts) : ℕ → Node → Type 0 where
    lies : {p at k : ℕ} {fs : Fields} → 0 < form_at rewritten p k → eqb k 20 ≡ false → ((s : Cause) → T.barred s → shows s (node at k fs) ≡ false) → LieFields T 0 (fields_of (form_at rewritten p k)) fs → Lies T p (node at k fs)
    named : {p at stem : ℕ} {path : List ℕ} → 0 < form_at rewritten p 20 → 0 < stem → stem < 5 → Lies T p (temporary path stem at)

  -- fields, behind a byte field that holds b
  pub data LieFields (T : Texts) : ℕ → List Field → Fields → Type 0 where
    done : {b : ℕ} → LieFields T b [] Fields.done
    absent : {b : ℕ} {t : Sort} {ts : List Field} {fs : Fields} → LieFields T 0 ts fs → LieFields T b (may t ∷ ts) (Fields.absent fs)
    needed : {b d : ℕ} {t : Sort} {ts : List Field} {p : Piece} {fs : Fields} → LiePiece T b t p d → LieFields T d ts fs → LieFields T b (must t ∷ ts) (Fields.field p fs)
    given : {b d : ℕ} {t : Sort} {ts : List Field} {p : Piece} {fs : Fields} → LiePiece T b t p d → LieFields T d ts fs → LieFields T b (may t ∷ ts) (Fields.field p fs)

  -- a field; the last number is the byte that it holds, 0 if it is none
  pub data LiePiece (T : Texts) : ℕ → Sort → Piece → ℕ → Type 0 where
    child : {b p : ℕ} {n : Node} → Lies T p n → LiePiece T b (Sort.child p) (Piece.one n) 0
    chosen : {b p q : ℕ} {n : Node} → Lies T (cond (eqb b 1) p q) n → LiePiece T b (Sort.chosen p q) (Piece.one n) 0
    many : {b p : ℕ} {is : Items} → LieItems T p false is → LiePiece T b (Sort.many p) (Piece.list is) 0
    gaps : {b p : ℕ} {is : Items} → LieItems T p true is → LiePiece T b (Sort.gaps p) (Piece.list is) 0
    text : {b : ℕ} {bs : List ℕ} → T.holds bs → LiePiece T b Sort.text (Piece.text bs) 0
    byte : {b low high v : ℕ} → low ≤ v → v ≤ high → v < 256 → LiePiece T b (Sort.byte low high) (Piece.byte v) v
    mark : {b m : ℕ} → m < 65536 → LiePiece T b Sort.mark (Piece.mark m) 0
    number : {b n : ℕ} → n < 65536 → LiePiece T b Sort.number (Piece.number n) 0

  -- items, with holes or without
  pub data LieItems (T : Texts) : ℕ → Bool → Items → Type 0 where
    none : {p : ℕ} {h : Bool} → LieItems T p h Items.none
    hole : {p : ℕ} {is : Items} → LieItems T p true is → LieItems T p true (Items.hole is)
    item : {p : ℕ} {h : Bool} {n : Node} {is : Items} → Lies T p n → LieItems T p h is → LieItems T p h (Items.item n is)

-- ---- taken apart

-- a node whose kind is known, and is not 20
pub fields_of_lem : {T : Texts} {p at k : ℕ} {fs : Fields} → Lies T p (node at k fs) → eqb k 20 ≡ false → (0 < form_at rewritten p k) × LieFields T 0 (fields_of (form_at rewritten p k)) fs
fields_of_lem (lies z t s f) e = (z, f)
fields_of_lem (named z a b) e = absurd (true≢false e)

pos : (f g : ℕ) → g ≡ f → 0 < f → 0 < g
pos f g e z = omega arith

-- the same node at another place where its kind has the same form
pub moved : {T : Texts} {p : ℕ} (q : ℕ) {n : Node} → form_at rewritten q (kind n) ≡ form_at rewritten p (kind n) → Lies T p n → Lies T q n
moved {T = T} {p = p} q e (lies {k = k} {fs = fs} z t s f) =
    lies (pos (form_at rewritten p k) (form_at rewritten q k) e z) t s (subst (λ (g : ℕ). LieFields T 0 (fields_of g) fs) (sym e) f)
moved {p = p} q e (named z a b) = named (pos (form_at rewritten p 20) (form_at rewritten q 20) e z) a b

-- the causes that it does not have
pub shown_of : {T : Texts} {p at k : ℕ} {fs : Fields} → Lies T p (node at k fs) → eqb k 20 ≡ false → (s : Cause) → T.barred s → shows s (node at k fs) ≡ false
shown_of (lies z t s f) e = s
shown_of (named z a b) e = absurd (true≢false e)

-- a kind that has no cause of the tree
abbrev pub is_made : ℕ → Bool
is_made k = not (eqb k 20) && (not (eqb k 14) && (not (eqb k 17) && (not (eqb k 36) && not (eqb k 4))))

made_not : (a b c d f : Bool) → (not a && (not b && (not c && (not d && not f)))) ≡ true → (a ≡ false) × (b ≡ false) × (c ≡ false) × (d ≡ false) × (f ≡ false)
made_not false false false false false e = (refl, refl, refl, refl, refl)
made_not false false false false true e = absurd (true≢false (sym e))
made_not false false false true f e = absurd (true≢false (sym e))
made_not false false true d f e = absurd (true≢false (sym e))
made_not false true c d f e = absurd (true≢false (sym e))
made_not true b c d f e = absurd (true≢false (sym e))

pub made_20 : (k : ℕ) → is_made k ≡ true → eqb k 20 ≡ false
made_20 k e = (made_not (eqb k 20) (eqb k 14) (eqb k 17) (eqb k 36) (eqb k 4) e).0

made_shows : (at k : ℕ) (fs : Fields) → is_made k ≡ true → (s : Cause) → of_tree_of s ≡ true → shows s (node at k fs) ≡ false
unfolding shows is
made_shows at k fs e Cause.rest_parameter t = let m = made_not (eqb k 20) (eqb k 14) (eqb k 17) (eqb k 36) (eqb k 4) e in rw (m.1, m.2) refl
made_shows at k fs e Cause.without_body t = rw (made_not (eqb k 20) (eqb k 14) (eqb k 17) (eqb k 36) (eqb k 4) e).1 refl
made_shows at k fs e Cause.array_rest t = rw (made_not (eqb k 20) (eqb k 14) (eqb k 17) (eqb k 36) (eqb k 4) e).3 refl
made_shows at k fs e Cause.without_value t = rw (made_not (eqb k 20) (eqb k 14) (eqb k 17) (eqb k 36) (eqb k 4) e).4 refl
made_shows at k fs e Cause.in_key t = absurd (true≢false (sym t))
made_shows at k fs e Cause.in_template t = absurd (true≢false (sym t))

-- a node by its form
pub make_shown : {T : Texts} (p k f : ℕ) {at : ℕ} {fs : Fields} → form_at rewritten p k ≡ f → 0 < f → eqb k 20 ≡ false → ((s : Cause) → T.barred s → shows s (node at k fs) ≡ false) → LieFields T 0 (fields_of f) fs
    → Lies T p (node at k fs)
make_shown {T = T} p k f {fs = fs} e z t s g = lies (pos f (form_at rewritten p k) e z) t s (subst (λ (h : ℕ). LieFields T 0 (fields_of h) fs) (sym e) g)

pub make : {T : Texts} (p k f : ℕ) {at : ℕ} {fs : Fields} → form_at rewritten p k ≡ f → 0 < f → is_made k ≡ true → LieFields T 0 (fields_of f) fs → Lies T p (node at k fs)
make {T = T} p k f {at = at} {fs = fs} e z t g = make_shown p k f e z (made_20 k t) (λ s b. made_shows at k fs t s (T.barred_tree s b)) g

-- its fields, where its form is known
pub apart : {T : Texts} {p at k : ℕ} {fs : Fields} (f : ℕ) → Lies T p (node at k fs) → eqb k 20 ≡ false → form_at rewritten p k ≡ f → LieFields T 0 (fields_of f) fs
apart {T = T} {fs = fs} f l t e = subst (λ (h : ℕ). LieFields T 0 (fields_of h) fs) e (fields_of_lem l t).1

-- ---- what the reader gives lies

-- what holds of each text and node of an input
abbrev pub Bare : (T : Texts) → Node → Type 0
Bare T n = (s : Cause) → T.barred s → Without s n

bare_part : (T : Texts) {n x : Node} {i j : ℕ} → PartAt n i j x → Bare T n → Bare T x
bare_part T a h s b y w = h s b y (Within.deeper a w)

module _ {T : Texts} where
  mutual
    pub input_lies : {p : ℕ} {n : Node} → Fits input p n → ((bs : List ℕ) → TextIn n bs → T.holds bs) → Bare T n → Lies T p n
    input_lies (Fits.fits {p = p} {k = k} {fs = fs} z f) h g =
        lies (pos (form_at input p k) (form_at rewritten p k) (input_form p k z) z) (not_20 p k z) (λ s b. g s b _ Within.here)
        (subst (λ (g : ℕ). LieFields T 0 (fields_of g) fs) (sym (input_form p k z)) (input_fields f (λ bs i. h bs (TextIn.in_node i)) (λ i j x a. bare_part T (PartAt.part a) g)))

    input_fields : {b : ℕ} {ts : List Field} {fs : Fields} → FitFields input b ts fs → ((bs : List ℕ) → TextInFields fs bs → T.holds bs) → ((i j : ℕ) (x : Node) → FieldAt fs i j x → Bare T x) → LieFields T b ts fs
    input_fields FitFields.done h g = LieFields.done
    input_fields (FitFields.absent f) h g = LieFields.absent (input_fields f (λ bs i. h bs (TextInFields.behind_absent i)) (λ i j x a. g (suc i) j x (FieldAt.behind_absent a)))
    input_fields (FitFields.field {f = must t} a f) h g = LieFields.needed (input_piece a (λ bs i. h bs (TextInFields.first i)) (λ j x a. g 0 j x (FieldAt.first a))) (input_fields f (λ bs i. h bs (TextInFields.behind i)) (λ i j x a. g (suc i) j x (FieldAt.behind a)))
    input_fields (FitFields.field {f = may t} a f) h g = LieFields.given (input_piece a (λ bs i. h bs (TextInFields.first i)) (λ j x a. g 0 j x (FieldAt.first a))) (input_fields f (λ bs i. h bs (TextInFields.behind i)) (λ i j x a. g (suc i) j x (FieldAt.behind a)))

    input_piece : {b : ℕ} {s : Sort} {p : Piece} → FitPiece input b s p → ((bs : List ℕ) → TextInPiece p bs → T.holds bs) → ((j : ℕ) (x : Node) → NodeIn p j x → Bare T x) → LiePiece T b s p (byte_in p)
    input_piece (FitPiece.child f) h g = LiePiece.child (input_lies f (λ bs i. h bs (TextInPiece.one i)) (g 0 _ NodeIn.one))
    input_piece (FitPiece.chosen f) h g = LiePiece.chosen (input_lies f (λ bs i. h bs (TextInPiece.one i)) (g 0 _ NodeIn.one))
    input_piece (FitPiece.many c f) h g = LiePiece.many (input_items f (λ bs i. h bs (TextInPiece.list i)) (λ j x a. g j x (NodeIn.list a)))
    input_piece (FitPiece.gaps c f) h g = LiePiece.gaps (input_items f (λ bs i. h bs (TextInPiece.list i)) (λ j x a. g j x (NodeIn.list a)))
    input_piece (FitPiece.text {bs = bs} a b) h g = LiePiece.text (h bs TextInPiece.text)
    input_piece (FitPiece.byte a b c) h g = LiePiece.byte a b c
    input_piece (FitPiece.mark a) h g = LiePiece.mark a
    input_piece (FitPiece.number a) h g = LiePiece.number a

    input_items : {p : ℕ} {h : Bool} {is : Items} → FitItems input p h is → ((bs : List ℕ) → TextInItems is bs → T.holds bs) → ((j : ℕ) (x : Node) → ItemAt is j x → Bare T x) → LieItems T p h is
    input_items FitItems.none h g = LieItems.none
    input_items (FitItems.hole f) h g = LieItems.hole (input_items f (λ bs i. h bs (TextInItems.behind_hole i)) (λ j x a. g (suc j) x (ItemAt.behind_hole a)))
    input_items (FitItems.item a f) h g = LieItems.item (input_lies a (λ bs i. h bs (TextInItems.item i)) (g 0 _ ItemAt.first)) (input_items f (λ bs i. h bs (TextInItems.later i)) (λ j x a. g (suc j) x (ItemAt.behind a)))

-- its texts are bytes
mutual
  pub input_bytes : {p : ℕ} {n : Node} → Fits input p n → {bs : List ℕ} → TextIn n bs → Bytes bs
  input_bytes (Fits.fits z f) (TextIn.in_node i) = bytes_fields f i

  bytes_fields : {b : ℕ} {ts : List Field} {fs : Fields} → FitFields input b ts fs → {bs : List ℕ} → TextInFields fs bs → Bytes bs
  bytes_fields (FitFields.absent f) (TextInFields.behind_absent i) = bytes_fields f i
  bytes_fields (FitFields.field a f) (TextInFields.first i) = bytes_piece a i
  bytes_fields (FitFields.field a f) (TextInFields.behind i) = bytes_fields f i
  bytes_fields FitFields.done i = elim i [ ]

  bytes_piece : {b : ℕ} {s : Sort} {p : Piece} → FitPiece input b s p → {bs : List ℕ} → TextInPiece p bs → Bytes bs
  bytes_piece (FitPiece.child f) (TextInPiece.one i) = input_bytes f i
  bytes_piece (FitPiece.chosen f) (TextInPiece.one i) = input_bytes f i
  bytes_piece (FitPiece.many c f) (TextInPiece.list i) = bytes_items f i
  bytes_piece (FitPiece.gaps c f) (TextInPiece.list i) = bytes_items f i
  bytes_piece (FitPiece.text a b) TextInPiece.text = b
  bytes_piece (FitPiece.byte a b c) i = elim i [ ]
  bytes_piece (FitPiece.mark a) i = elim i [ ]
  bytes_piece (FitPiece.number a) i = elim i [ ]

  bytes_items : {p : ℕ} {h : Bool} {is : Items} → FitItems input p h is → {bs : List ℕ} → TextInItems is bs → Bytes bs
  bytes_items (FitItems.hole f) (TextInItems.behind_hole i) = bytes_items f i
  bytes_items (FitItems.item a f) (TextInItems.item i) = input_bytes a i
  bytes_items (FitItems.item a f) (TextInItems.later i) = bytes_items f i
  bytes_items FitItems.none i = elim i [ ]

-- ---- lists

pub lies_append : {T : Texts} {p : ℕ} {h : Bool} {is js : Items} → LieItems T p h is → LieItems T p h js → LieItems T p h (is +++ js)
unfolding ◌+++◌
lies_append LieItems.none b = b
lies_append (LieItems.hole a) b = LieItems.hole (lies_append a b)
lies_append (LieItems.item n a) b = LieItems.item n (lies_append a b)

pub lies_only : {T : Texts} {p : ℕ} {h : Bool} {n : Node} → Lies T p n → LieItems T p h (only n)
lies_only a = LieItems.item a LieItems.none

pub lies_each : {T : Texts} {p q : ℕ} {h : Bool} (f : Node → Node) → ((n : Node) → Lies T p n → Lies T q (f n)) → {is : Items} → LieItems T p h is → LieItems T q h (each f is)
unfolding each
lies_each f g LieItems.none = LieItems.none
lies_each f g (LieItems.hole a) = LieItems.hole (lies_each f g a)
lies_each f g (LieItems.item n a) = LieItems.item (g _ n) (lies_each f g a)

pub lies_gather : {T : Texts} {p q : ℕ} {h : Bool} (j : Bool) (f : Node → Items) → ((n : Node) → Lies T p n → LieItems T q j (f n)) → {is : Items} → LieItems T p h is → LieItems T q j (gather f is)
unfolding gather
lies_gather j f g LieItems.none = LieItems.none
lies_gather j f g (LieItems.hole a) = lies_gather j f g a
lies_gather j f g (LieItems.item n a) = lies_append (g _ n) (lies_gather j f g a)

pub lies_if : {T : Texts} {p : ℕ} {h : Bool} (b : Bool) {is js : Items} → (b ≡ true → LieItems T p h is) → (b ≡ false → LieItems T p h js) → LieItems T p h (cond b is js)
lies_if true a c = a refl
lies_if false a c = c refl

-- ---- fields by their number

abbrev pub sort_at : List Field → ℕ → Sort
sort_at [] i = Sort.mark
sort_at (f ∷ ts) zero = sort_in f
sort_at (f ∷ ts) (suc i) = sort_at ts i

-- a field changed
pub changed_here : {T : Texts} {b : ℕ} {ts : List Field} {fs : Fields} → LieFields T b ts fs → (i : ℕ) (f : Piece → Piece)
    → ((b d : ℕ) (p : Piece) → p ≡ piece_in fs i → LiePiece T b (sort_at ts i) p d → LiePiece T b (sort_at ts i) (f p) d) → LieFields T b ts (change_in fs i f)
unfolding change_in piece_in
changed_here LieFields.done i f g = LieFields.done
changed_here (LieFields.absent a) zero f g = LieFields.absent a
changed_here (LieFields.absent a) (suc i) f g = LieFields.absent (changed_here a i f g)
changed_here (LieFields.needed {b = b} {d = d} {p = p} x a) zero f g = LieFields.needed (g b d p refl x) a
changed_here (LieFields.needed x a) (suc i) f g = LieFields.needed x (changed_here a i f g)
changed_here (LieFields.given {b = b} {d = d} {p = p} x a) zero f g = LieFields.given (g b d p refl x) a
changed_here (LieFields.given x a) (suc i) f g = LieFields.given x (changed_here a i f g)

pub changed : {T : Texts} {b : ℕ} {ts : List Field} {fs : Fields} → LieFields T b ts fs → (i : ℕ) (f : Piece → Piece)
    → ((b d : ℕ) (p : Piece) → LiePiece T b (sort_at ts i) p d → LiePiece T b (sort_at ts i) (f p) d) → LieFields T b ts (change_in fs i f)
changed a i f g = changed_here a i f (λ b d p e x. g b d p x)

-- a list of it
abbrev pub ListHolds : (T : Texts) → Sort → Items → Type 0
ListHolds T (Sort.child p) is = Unit {0}
ListHolds T (Sort.chosen p q) is = Unit {0}
ListHolds T (Sort.many p) is = LieItems T p false is
ListHolds T (Sort.gaps p) is = LieItems T p true is
ListHolds T Sort.text is = Unit {0}
ListHolds T (Sort.byte low high) is = Unit {0}
ListHolds T Sort.mark is = Unit {0}
ListHolds T Sort.number is = Unit {0}

list_holds : {T : Texts} {b d : ℕ} {s : Sort} {p : Piece} → LiePiece T b s p d → ListHolds T s (as_items_of p)
list_holds (LiePiece.child a) = tt
list_holds (LiePiece.chosen a) = tt
list_holds (LiePiece.many a) = a
list_holds (LiePiece.gaps a) = a
list_holds (LiePiece.text a) = tt
list_holds (LiePiece.byte a b c) = tt
list_holds (LiePiece.mark a) = tt
list_holds (LiePiece.number a) = tt

list_none : (T : Texts) (s : Sort) → ListHolds T s Items.none
list_none T (Sort.child p) = tt
list_none T (Sort.chosen p q) = tt
list_none T (Sort.many p) = LieItems.none
list_none T (Sort.gaps p) = LieItems.none
list_none T Sort.text = tt
list_none T (Sort.byte low high) = tt
list_none T Sort.mark = tt
list_none T Sort.number = tt

pub list_at : {T : Texts} {b : ℕ} {ts : List Field} {fs : Fields} → LieFields T b ts fs → (i : ℕ) → ListHolds T (sort_at ts i) (as_items_of (piece_in fs i))
unfolding piece_in
list_at LieFields.done i = tt
list_at {T = T} (LieFields.absent {t = t} a) zero = list_none T t
list_at (LieFields.absent a) (suc i) = list_at a i
list_at (LieFields.needed x a) zero = list_holds x
list_at (LieFields.needed x a) (suc i) = list_at a i
list_at (LieFields.given x a) zero = list_holds x
list_at (LieFields.given x a) (suc i) = list_at a i

-- a node of it, if it stands
abbrev pub NodeHolds : (T : Texts) → Sort → Node → Type 0
NodeHolds T (Sort.child p) n = Lies T p n
NodeHolds T (Sort.chosen p q) n = Unit {0}
NodeHolds T (Sort.many p) n = Unit {0}
NodeHolds T (Sort.gaps p) n = Unit {0}
NodeHolds T Sort.text n = Unit {0}
NodeHolds T (Sort.byte low high) n = Unit {0}
NodeHolds T Sort.mark n = Unit {0}
NodeHolds T Sort.number n = Unit {0}

node_holds : {T : Texts} {b d : ℕ} {s : Sort} {p : Piece} → LiePiece T b s p d → NodeHolds T s (as_node p)
node_holds (LiePiece.child a) = a
node_holds (LiePiece.chosen a) = tt
node_holds (LiePiece.many a) = tt
node_holds (LiePiece.gaps a) = tt
node_holds (LiePiece.text a) = tt
node_holds (LiePiece.byte a b c) = tt
node_holds (LiePiece.mark a) = tt
node_holds (LiePiece.number a) = tt

pub node_at : {T : Texts} {b : ℕ} {ts : List Field} {fs : Fields} → LieFields T b ts fs → (i : ℕ) → stands_in fs i ≡ true → NodeHolds T (sort_at ts i) (as_node (piece_in fs i))
unfolding piece_in stands_in
node_at LieFields.done i e = tt
node_at (LieFields.absent a) zero e = absurd (true≢false (sym e))
node_at (LieFields.absent a) (suc i) e = node_at a i e
node_at (LieFields.needed x a) zero e = node_holds x
node_at (LieFields.needed x a) (suc i) e = node_at a i e
node_at (LieFields.given x a) zero e = node_holds x
node_at (LieFields.given x a) (suc i) e = node_at a i e

-- a field that must stand
abbrev pub is_must : List Field → ℕ → Bool
is_must [] i = false
is_must (must s ∷ ts) zero = true
is_must (may s ∷ ts) zero = false
is_must (f ∷ ts) (suc i) = is_must ts i

pub stands_at : {T : Texts} {b : ℕ} {ts : List Field} {fs : Fields} → LieFields T b ts fs → (i : ℕ) → is_must ts i ≡ true → stands_in fs i ≡ true
unfolding stands_in
stands_at LieFields.done i e = e
stands_at (LieFields.absent a) zero e = e
stands_at (LieFields.absent a) (suc i) e = stands_at a i e
stands_at (LieFields.needed x a) zero e = refl
stands_at (LieFields.needed x a) (suc i) e = stands_at a i e
stands_at (LieFields.given x a) zero e = refl
stands_at (LieFields.given x a) (suc i) e = stands_at a i e

-- what holds of each item
pub all_of : {T : Texts} {p : ℕ} {h : Bool} {is : Items} → LieItems T p h is → AllItems (Lies T p) is
all_of LieItems.none = tt
all_of (LieItems.hole a) = all_of a
all_of (LieItems.item n a) = (n, all_of a)

-- its kind may stand there
pub may_stand : {T : Texts} {p : ℕ} {n : Node} → Lies T p n → 0 < form_at rewritten p (kind n)
may_stand (lies z t s f) = z
may_stand (named z a b) = z
