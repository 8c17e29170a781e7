-- What the grammar says of the kinds of the parts of a node, of all forms by one test.
-- Assumes nothing.
use mathlib.Core.Path.{◌≡◌, refl, sym, ap, ◌∙◌, subst}
use mathlib.Core.Bool.{Bool, true, false, cond, not, ◌&&◌, ◌||◌, false≢true}
use mathlib.Core.List.{List, [], ◌∷◌}
use mathlib.Core.Logic.{◌⊎◌, ⊎_elim}
use mathlib.Core.Logic.◌⊎◌.{inl, inr}
use Prim.Native.Nat.{ℕ, zero, suc, ◌-◌, ◌<◌}
use native.Mathlib.Omega.{arith}
use native.Mathlib.Decide.{dec_lt}
use lib.Dec.{T, eqb, ltb}
use lib.ListN.{get_or}
use borrow.Author.Tests.{eqb-true, lt-ltb, le-ltb}
use Rattle.tree.specs.Tree.{Node, Fields, Piece, Items}
use Rattle.tree.specs.Tree.Node.{node}
use Rattle.tree.specs.Grammar.{Sort, Field, places, allowed, kind_of, form_in, form_at, fields_of, kinds, variants}
use Rattle.tree.specs.Grammar.Stage.{input}
use Rattle.tree.specs.Read.{sort_in}
use Rattle.tree.specs.WellFormed.{Fits, FitFields, FitPiece, FitItems}
use Rattle.tree.proofs.Table.{below, below_at}
use Rattle.tree.proofs.Look.{kind_at}
use Rattle.lowering.specs.Parts.{nothing, kind, piece_in, as_node, as_items_of}
use Rattle.lowering.proofs.All.{AllItems}
use Rattle.lowering.proofs.Cases.{by_test, and_left, and_right}
use Rattle.lowering.proofs.PlaceTests.{not_20, not_21}
use Rattle.outcome.proofs.GoodNodes.{NoPart, NoParts}

-- ---- tests of kinds

abbrev pub leaf_kind : ℕ → Bool
leaf_kind k = not (eqb k 34 || (eqb k 36 || eqb k 37))

abbrev pub not_default : ℕ → Bool
not_default k = not (eqb k 37)

abbrev pub standing : ℕ → Bool
standing k = not (eqb k 20 || eqb k 0)

-- each form of a list passes
unfoldable every_form : (ℕ → Bool) → List ℕ → Bool
every_form t [] = true
every_form t (f ∷ fs) = t (kind_of f) && every_form t fs

unfoldable all_at : (ℕ → Bool) → ℕ → Bool
all_at t p = every_form t (get_or places p [])

unfoldable node_kinds : (ℕ → Bool) → Sort → Bool
node_kinds t (Sort.child p) = all_at t p
node_kinds t (Sort.chosen p q) = all_at t p && all_at t q
node_kinds t (Sort.many p) = true
node_kinds t (Sort.gaps p) = true
node_kinds t Sort.text = true
node_kinds t (Sort.byte low high) = true
node_kinds t Sort.mark = true
node_kinds t Sort.number = true

unfoldable item_kinds : (ℕ → Bool) → Sort → Bool
item_kinds t (Sort.child p) = true
item_kinds t (Sort.chosen p q) = true
item_kinds t (Sort.many p) = all_at t p
item_kinds t (Sort.gaps p) = all_at t p
item_kinds t Sort.text = true
item_kinds t (Sort.byte low high) = true
item_kinds t Sort.mark = true
item_kinds t Sort.number = true

-- field i, of a sort without nodes if there is none
unfoldable sort_at : List Field → ℕ → Sort
sort_at [] i = Sort.text
sort_at (f ∷ fs) zero = sort_in f
sort_at (f ∷ fs) (suc i) = sort_at fs i

unfoldable plain : Sort → Bool
plain (Sort.child p) = false
plain (Sort.chosen p q) = false
plain (Sort.many p) = false
plain (Sort.gaps p) = false
plain Sort.text = true
plain (Sort.byte low high) = true
plain Sort.mark = true
plain Sort.number = true

unfoldable plains : List Field → Bool
plains [] = true
plains (f ∷ fs) = plain (sort_in f) && plains fs

-- the first field stands and is a list; is a node
unfoldable list_first : List Field → Bool
list_first [] = false
list_first (Field.must (Sort.child p) ∷ fs) = false
list_first (Field.must (Sort.chosen p q) ∷ fs) = false
list_first (Field.must (Sort.many p) ∷ fs) = true
list_first (Field.must (Sort.gaps p) ∷ fs) = true
list_first (Field.must Sort.text ∷ fs) = false
list_first (Field.must (Sort.byte low high) ∷ fs) = false
list_first (Field.must Sort.mark ∷ fs) = false
list_first (Field.must Sort.number ∷ fs) = false
list_first (Field.may s ∷ fs) = false

unfoldable node_first : List Field → Bool
node_first [] = false
node_first (Field.must (Sort.child p) ∷ fs) = true
node_first (Field.must (Sort.chosen p q) ∷ fs) = false
node_first (Field.must (Sort.many p) ∷ fs) = false
node_first (Field.must (Sort.gaps p) ∷ fs) = false
node_first (Field.must Sort.text ∷ fs) = false
node_first (Field.must (Sort.byte low high) ∷ fs) = false
node_first (Field.must Sort.mark ∷ fs) = false
node_first (Field.must Sort.number ∷ fs) = false
node_first (Field.may s ∷ fs) = false

-- what is asked of the fields of a kind
unfoldable asks : ℕ → List Field → Bool
asks k ts =
    node_kinds not_default (sort_at ts 0)
    && (cond (eqb k 34) (node_kinds leaf_kind (sort_at ts 1) && (item_kinds (eqb 35) (sort_at ts 0) && list_first ts)) true
    && (cond (eqb k 35) (node_kinds leaf_kind (sort_at ts 0)) true
    && (cond (eqb k 36) (list_first ts) true
    && (cond (eqb k 37) (node_kinds standing (sort_at ts 0) && node_first ts) true
    && (cond (eqb k 14) (item_kinds (eqb 15) (sort_at ts 3)) true
    && (cond (eqb k 17) (item_kinds (eqb 15) (sort_at ts 0)) true
    && (cond (eqb k 10) (node_kinds (eqb 15) (sort_at ts 0)) true
    && (cond (eqb k 4) (item_kinds (eqb 5) (sort_at ts 2)) true
    && (cond (eqb k 7 || eqb k 8) (node_kinds not_default (sort_at ts 1)) true
    && cond (eqb k 18) (plains ts) true)))))))))

-- ---- all forms

passed : (b : Bool) → T b → b ≡ true
passed true t = refl
passed false t = absurd t

early : T (below 64 (λ f. asks f (get_or kinds f [])))
unfolding asks node_kinds item_kinds sort_at plain plains list_first node_first all_at every_form places kind_of kinds
early = tt

late : ℕ → ℕ
late m = get_or (14 ∷ 14 ∷ 34 ∷ 35 ∷ 36 ∷ 37 ∷ []) m 0

lately : (m : ℕ) → asks (late m) (get_or variants m []) ≡ true
unfolding late asks node_kinds item_kinds sort_at plain plains list_first node_first all_at every_form places kind_of variants
lately zero = refl
lately (suc zero) = refl
lately (suc (suc zero)) = refl
lately (suc (suc (suc zero))) = refl
lately (suc (suc (suc (suc zero)))) = refl
lately (suc (suc (suc (suc (suc zero))))) = refl
lately (suc (suc (suc (suc (suc (suc m)))))) = refl

form_asks : (f : ℕ) → asks (kind_of f) (fields_of f) ≡ true
unfolding kind_of fields_of late
form_asks f =
    elim (dec_lt f 64) [
      | yes h ↦ rw (lt-ltb f 64 h) (passed (asks f (get_or kinds f [])) (below_at (λ g. asks g (get_or kinds g [])) 64 early f h))
      | no h ↦ rw (le-ltb f 64 (omega arith)) (lately (f - 64))
    ]

-- ---- the kind of a node at a place

kinds_in : (t : ℕ → Bool) (fs : List ℕ) (k : ℕ) → every_form t fs ≡ true → 0 < form_in fs k → t k ≡ true
unfolding every_form form_in
kinds_in t [] k a h = absurd (omega arith)
kinds_in t (f ∷ fs) k a h =
    by_test (eqb (kind_of f) k)
    (λ e. ap t (sym (eqb-true (kind_of f) k e)) ∙ and_left (t (kind_of f)) (every_form t fs) a)
    (λ e. let h' : 0 < form_in fs k = rw e at h in kinds_in t fs k (and_right (t (kind_of f)) (every_form t fs) a) h')

kinds_at_lem : (t : ℕ → Bool) (p k : ℕ) → all_at t p ≡ true → 0 < form_at input p k → t k ≡ true
unfolding all_at form_at allowed
kinds_at_lem t p k a h =
    by_test (ltb k 64)
    (λ e. let h' : 0 < form_in (get_or places p []) k = rw e at h in kinds_in t (get_or places p []) k a h')
    (λ e. let h' : 0 < 0 = rw e at h in absurd (omega arith))

fits_kind : (t : ℕ → Bool) (p : ℕ) (n : Node) → all_at t p ≡ true → Fits input p n → t (kind n) ≡ true
fits_kind t p (node at k fs) a (Fits.fits h r) = kinds_at_lem t p k a h

-- no place has a Temporary or a Helper
not_made : (p k : ℕ) → 0 < form_at input p k → not (eqb k 20 || eqb k 21) ≡ true
not_made p k h = rw (not_20 p k h, not_21 p k h) refl

-- ---- fields of a node that fits

fit_items : (t : ℕ → Bool) (p : ℕ) (h : Bool) (ns : Items) → all_at t p ≡ true → FitItems input p h ns → AllItems (λ n. t (kind n) ≡ true) ns
fit_items t p h Items.none a FitItems.none = tt
fit_items t p h (Items.hole ns) a (FitItems.hole r) = fit_items t p true ns a r
fit_items t p h (Items.item n ns) a (FitItems.item f r) = (fits_kind t p n a f, fit_items t p h ns a r)

items_kind : (t : ℕ → Bool) (b : ℕ) (s : Sort) (p : Piece) → item_kinds t s ≡ true → FitPiece input b s p → AllItems (λ n. t (kind n) ≡ true) (as_items_of p)
unfolding item_kinds
items_kind t b s p a (FitPiece.child f) = tt
items_kind t b s p a (FitPiece.chosen f) = tt
items_kind t b s (Piece.list ns) a (FitPiece.many {p = q} c r) = fit_items t q false ns a r
items_kind t b s (Piece.list ns) a (FitPiece.gaps {p = q} c r) = fit_items t q true ns a r
items_kind t b s p a (FitPiece.text l r) = tt
items_kind t b s p a (FitPiece.byte l r m) = tt
items_kind t b s p a (FitPiece.mark l) = tt
items_kind t b s p a (FitPiece.number l) = tt

node_kind : (t : ℕ → Bool) → t 0 ≡ true → (b : ℕ) (s : Sort) (p : Piece) → node_kinds t s ≡ true → FitPiece input b s p → t (kind (as_node p)) ≡ true
unfolding node_kinds
node_kind t z b s (Piece.one n) a (FitPiece.child {p = q} f) = fits_kind t q n a f
node_kind t z b s (Piece.one n) a (FitPiece.chosen {p = q} {q = r} f) =
    by_test (eqb b 1)
    (λ e. fits_kind t q n (and_left (all_at t q) (all_at t r) a) (subst (λ (i : Bool). Fits input (cond i q r) n) e f))
    (λ e. fits_kind t r n (and_right (all_at t q) (all_at t r) a) (subst (λ (i : Bool). Fits input (cond i q r) n) e f))
node_kind t z b s p a (FitPiece.many c r) = z
node_kind t z b s p a (FitPiece.gaps c r) = z
node_kind t z b s p a (FitPiece.text l r) = z
node_kind t z b s p a (FitPiece.byte l r m) = z
node_kind t z b s p a (FitPiece.mark l) = z
node_kind t z b s p a (FitPiece.number l) = z

-- field i, if it stands, is of its sort
found : (b : ℕ) (ts : List Field) (fs : Fields) (i : ℕ) → FitFields input b ts fs → (piece_in fs i ≡ Piece.number 0) ⊎ ((d : ℕ) × FitPiece input d (sort_at ts i) (piece_in fs i))
unfolding piece_in sort_at
found b ts Fields.done i FitFields.done = inl refl
found b ts (Fields.absent fs) zero (FitFields.absent r) = inl refl
found b ts (Fields.absent fs) (suc i) (FitFields.absent {ts = us} r) = found 0 us fs i r
found b ts (Fields.field p fs) zero (FitFields.field f r) = inr (b, f)
found b ts (Fields.field p fs) (suc i) (FitFields.field {ts = us} f r) = found _ us fs i r

node_at : (t : ℕ → Bool) → t 0 ≡ true → (b : ℕ) (ts : List Field) (fs : Fields) (i : ℕ) → node_kinds t (sort_at ts i) ≡ true → FitFields input b ts fs → t (kind (as_node (piece_in fs i))) ≡ true
node_at t z b ts fs i a r =
    ⊎_elim
    (λ e. ap (λ (p : Piece). t (kind (as_node p))) e ∙ z)
    (λ f. node_kind t z f.0 (sort_at ts i) (piece_in fs i) a f.1)
    (found b ts fs i r)

items_at : (t : ℕ → Bool) (b : ℕ) (ts : List Field) (fs : Fields) (i : ℕ) → item_kinds t (sort_at ts i) ≡ true → FitFields input b ts fs → AllItems (λ n. t (kind n) ≡ true) (as_items_of (piece_in fs i))
items_at t b ts fs i a r =
    ⊎_elim
    (λ e. subst (λ (p : Piece). AllItems (λ n. t (kind n) ≡ true) (as_items_of p)) (sym e) tt)
    (λ f. items_kind t f.0 (sort_at ts i) (piece_in fs i) a f.1)
    (found b ts fs i r)

-- a first field that stands
abbrev pub LeadList : Fields → Type 0
LeadList Fields.done = ⊥
LeadList (Fields.absent fs) = ⊥
LeadList (Fields.field (Piece.one n) fs) = ⊥
LeadList (Fields.field (Piece.list ns) fs) = Unit {0}
LeadList (Fields.field (Piece.text bs) fs) = ⊥
LeadList (Fields.field (Piece.byte b) fs) = ⊥
LeadList (Fields.field (Piece.mark b) fs) = ⊥
LeadList (Fields.field (Piece.number b) fs) = ⊥

list_first_lem : (b : ℕ) (ts : List Field) (fs : Fields) → list_first ts ≡ true → FitFields input b ts fs → LeadList fs
unfolding list_first
list_first_lem b ts Fields.done a FitFields.done = absurd (false≢true a)
list_first_lem b ts (Fields.absent fs) a (FitFields.absent r) = absurd (false≢true a)
list_first_lem b ts (Fields.field p fs) a (FitFields.field {f = Field.must (Sort.child q)} f r) = absurd (false≢true a)
list_first_lem b ts (Fields.field p fs) a (FitFields.field {f = Field.must (Sort.chosen q s)} f r) = absurd (false≢true a)
list_first_lem b ts (Fields.field (Piece.list ns) fs) a (FitFields.field {f = Field.must (Sort.many q)} (FitPiece.many c d) r) = tt
list_first_lem b ts (Fields.field (Piece.list ns) fs) a (FitFields.field {f = Field.must (Sort.gaps q)} (FitPiece.gaps c d) r) = tt
list_first_lem b ts (Fields.field p fs) a (FitFields.field {f = Field.must Sort.text} f r) = absurd (false≢true a)
list_first_lem b ts (Fields.field p fs) a (FitFields.field {f = Field.must (Sort.byte l h)} f r) = absurd (false≢true a)
list_first_lem b ts (Fields.field p fs) a (FitFields.field {f = Field.must Sort.mark} f r) = absurd (false≢true a)
list_first_lem b ts (Fields.field p fs) a (FitFields.field {f = Field.must Sort.number} f r) = absurd (false≢true a)
list_first_lem b ts (Fields.field p fs) a (FitFields.field {f = Field.may s} f r) = absurd (false≢true a)
list_first_lem b _ (Rattle.tree.specs.Tree.field (Rattle.tree.specs.Tree.one _) fs) a (Rattle.tree.specs.WellFormed.field {f = Rattle.tree.specs.Grammar.must (Rattle.tree.specs.Grammar.many q)} {ts = ts} f r) = elim f [ ]
list_first_lem b _ (Rattle.tree.specs.Tree.field (Rattle.tree.specs.Tree.text _) fs) a (Rattle.tree.specs.WellFormed.field {f = Rattle.tree.specs.Grammar.must (Rattle.tree.specs.Grammar.many q)} {ts = ts} f r) = elim f [ ]
list_first_lem b _ (Rattle.tree.specs.Tree.field (Rattle.tree.specs.Tree.byte _) fs) a (Rattle.tree.specs.WellFormed.field {f = Rattle.tree.specs.Grammar.must (Rattle.tree.specs.Grammar.many q)} {ts = ts} f r) = elim f [ ]
list_first_lem b _ (Rattle.tree.specs.Tree.field (Rattle.tree.specs.Tree.mark _) fs) a (Rattle.tree.specs.WellFormed.field {f = Rattle.tree.specs.Grammar.must (Rattle.tree.specs.Grammar.many q)} {ts = ts} f r) = elim f [ ]
list_first_lem b _ (Rattle.tree.specs.Tree.field (Rattle.tree.specs.Tree.number _) fs) a (Rattle.tree.specs.WellFormed.field {f = Rattle.tree.specs.Grammar.must (Rattle.tree.specs.Grammar.many q)} {ts = ts} f r) = elim f [ ]
list_first_lem b _ (Rattle.tree.specs.Tree.field (Rattle.tree.specs.Tree.one _) fs) a (Rattle.tree.specs.WellFormed.field {f = Rattle.tree.specs.Grammar.must (Rattle.tree.specs.Grammar.gaps q)} {ts = ts} f r) = elim f [ ]
list_first_lem b _ (Rattle.tree.specs.Tree.field (Rattle.tree.specs.Tree.text _) fs) a (Rattle.tree.specs.WellFormed.field {f = Rattle.tree.specs.Grammar.must (Rattle.tree.specs.Grammar.gaps q)} {ts = ts} f r) = elim f [ ]
list_first_lem b _ (Rattle.tree.specs.Tree.field (Rattle.tree.specs.Tree.byte _) fs) a (Rattle.tree.specs.WellFormed.field {f = Rattle.tree.specs.Grammar.must (Rattle.tree.specs.Grammar.gaps q)} {ts = ts} f r) = elim f [ ]
list_first_lem b _ (Rattle.tree.specs.Tree.field (Rattle.tree.specs.Tree.mark _) fs) a (Rattle.tree.specs.WellFormed.field {f = Rattle.tree.specs.Grammar.must (Rattle.tree.specs.Grammar.gaps q)} {ts = ts} f r) = elim f [ ]
list_first_lem b _ (Rattle.tree.specs.Tree.field (Rattle.tree.specs.Tree.number _) fs) a (Rattle.tree.specs.WellFormed.field {f = Rattle.tree.specs.Grammar.must (Rattle.tree.specs.Grammar.gaps q)} {ts = ts} f r) = elim f [ ]

-- a first node that stands passes a test that 0 need not pass
node_first_lem : (t : ℕ → Bool) (b : ℕ) (ts : List Field) (fs : Fields) → node_kinds t (sort_at ts 0) && node_first ts ≡ true → FitFields input b ts fs → t (kind (as_node (piece_in fs 0))) ≡ true
unfolding node_first node_kinds sort_at piece_in
node_first_lem t b ts Fields.done a FitFields.done = absurd (false≢true (and_right true false a))
node_first_lem t b ts (Fields.absent fs) a (FitFields.absent {t = s} {ts = us} r) = absurd (false≢true (and_right (node_kinds t s) false a))
node_first_lem t b ts (Fields.field (Piece.one n) fs) a (FitFields.field {f = Field.must (Sort.child q)} (FitPiece.child f) r) = fits_kind t q n (and_left (all_at t q) true a) f
node_first_lem t b ts (Fields.field p fs) a (FitFields.field {f = Field.must (Sort.chosen q s)} f r) = absurd (false≢true (and_right (all_at t q && all_at t s) false a))
node_first_lem t b ts (Fields.field p fs) a (FitFields.field {f = Field.must (Sort.many q)} f r) = absurd (false≢true (and_right true false a))
node_first_lem t b ts (Fields.field p fs) a (FitFields.field {f = Field.must (Sort.gaps q)} f r) = absurd (false≢true (and_right true false a))
node_first_lem t b ts (Fields.field p fs) a (FitFields.field {f = Field.must Sort.text} f r) = absurd (false≢true (and_right true false a))
node_first_lem t b ts (Fields.field p fs) a (FitFields.field {f = Field.must (Sort.byte l h)} f r) = absurd (false≢true (and_right true false a))
node_first_lem t b ts (Fields.field p fs) a (FitFields.field {f = Field.must Sort.mark} f r) = absurd (false≢true (and_right true false a))
node_first_lem t b ts (Fields.field p fs) a (FitFields.field {f = Field.must Sort.number} f r) = absurd (false≢true (and_right true false a))
node_first_lem t b ts (Fields.field p fs) a (FitFields.field {f = Field.may s} f r) = absurd (false≢true (and_right (node_kinds t s) false a))
node_first_lem t b _ (Rattle.tree.specs.Tree.field (Rattle.tree.specs.Tree.list _) fs) a (Rattle.tree.specs.WellFormed.field {f = Rattle.tree.specs.Grammar.must (Rattle.tree.specs.Grammar.child q)} {ts = ts} f r) = elim f [ ]
node_first_lem t b _ (Rattle.tree.specs.Tree.field (Rattle.tree.specs.Tree.text _) fs) a (Rattle.tree.specs.WellFormed.field {f = Rattle.tree.specs.Grammar.must (Rattle.tree.specs.Grammar.child q)} {ts = ts} f r) = elim f [ ]
node_first_lem t b _ (Rattle.tree.specs.Tree.field (Rattle.tree.specs.Tree.byte _) fs) a (Rattle.tree.specs.WellFormed.field {f = Rattle.tree.specs.Grammar.must (Rattle.tree.specs.Grammar.child q)} {ts = ts} f r) = elim f [ ]
node_first_lem t b _ (Rattle.tree.specs.Tree.field (Rattle.tree.specs.Tree.mark _) fs) a (Rattle.tree.specs.WellFormed.field {f = Rattle.tree.specs.Grammar.must (Rattle.tree.specs.Grammar.child q)} {ts = ts} f r) = elim f [ ]
node_first_lem t b _ (Rattle.tree.specs.Tree.field (Rattle.tree.specs.Tree.number _) fs) a (Rattle.tree.specs.WellFormed.field {f = Rattle.tree.specs.Grammar.must (Rattle.tree.specs.Grammar.child q)} {ts = ts} f r) = elim f [ ]

plain_piece : (b : ℕ) (s : Sort) (p : Piece) → plain s ≡ true → FitPiece input b s p → NoPart p
unfolding plain
plain_piece b s p a (FitPiece.child f) = absurd (false≢true a)
plain_piece b s p a (FitPiece.chosen f) = absurd (false≢true a)
plain_piece b s p a (FitPiece.many c r) = absurd (false≢true a)
plain_piece b s p a (FitPiece.gaps c r) = absurd (false≢true a)
plain_piece b s p a (FitPiece.text l r) = tt
plain_piece b s p a (FitPiece.byte l r m) = tt
plain_piece b s p a (FitPiece.mark l) = tt
plain_piece b s p a (FitPiece.number l) = tt

plain_fields : (b : ℕ) (ts : List Field) (fs : Fields) → plains ts ≡ true → FitFields input b ts fs → NoParts fs
unfolding plains
plain_fields b ts Fields.done a FitFields.done = tt
plain_fields b ts (Fields.absent fs) a (FitFields.absent {t = s} {ts = us} r) = plain_fields 0 us fs (and_right (plain s) (plains us) a) r
plain_fields b ts (Fields.field p fs) a (FitFields.field {f = f} {ts = us} g r) =
    (plain_piece b (sort_in f) p (and_left (plain (sort_in f)) (plains us) a) g, plain_fields _ us fs (and_right (plain (sort_in f)) (plains us) a) r)

-- ---- what is known of a node that fits

pub record Known (k : ℕ) (fs : Fields) : Type 0 where
  pub first : not_default (kind (as_node (piece_in fs 0))) ≡ true
  pub made : not (eqb k 20 || eqb k 21) ≡ true
  pub rest : eqb k 34 ≡ true → leaf_kind (kind (as_node (piece_in fs 1))) ≡ true
  pub properties : eqb k 34 ≡ true → AllItems (λ n. eqb 35 (kind n) ≡ true) (as_items_of (piece_in fs 0))
  pub object : eqb k 34 ≡ true → LeadList fs
  pub key : eqb k 35 ≡ true → leaf_kind (kind (as_node (piece_in fs 0))) ≡ true
  pub array : eqb k 36 ≡ true → LeadList fs
  pub left : eqb k 37 ≡ true → standing (kind (as_node (piece_in fs 0))) ≡ true
  pub function : eqb k 14 ≡ true → AllItems (λ n. eqb 15 (kind n) ≡ true) (as_items_of (piece_in fs 3))
  pub arrow : eqb k 17 ≡ true → AllItems (λ n. eqb 15 (kind n) ≡ true) (as_items_of (piece_in fs 0))
  pub catch : eqb k 10 ≡ true → (eqb 15 (kind (as_node (piece_in fs 0))) ≡ true) ⊎ (as_node (piece_in fs 0) ≡ nothing)
  pub declaration : eqb k 4 ≡ true → AllItems (λ n. eqb 5 (kind n) ≡ true) (as_items_of (piece_in fs 2))
  pub for : eqb k 7 || eqb k 8 ≡ true → not_default (kind (as_node (piece_in fs 1))) ≡ true
  pub reference : eqb k 18 ≡ true → NoParts fs

node_or : (t : ℕ → Bool) (b : ℕ) (s : Sort) (p : Piece) → node_kinds t s ≡ true → FitPiece input b s p → (t (kind (as_node p)) ≡ true) ⊎ (as_node p ≡ nothing)
unfolding node_kinds
node_or t b s (Piece.one n) a (FitPiece.child {p = q} f) = inl (fits_kind t q n a f)
node_or t b s (Piece.one n) a (FitPiece.chosen {p = q} {q = r} f) =
    by_test (eqb b 1)
    (λ e. inl (fits_kind t q n (and_left (all_at t q) (all_at t r) a) (subst (λ (i : Bool). Fits input (cond i q r) n) e f)))
    (λ e. inl (fits_kind t r n (and_right (all_at t q) (all_at t r) a) (subst (λ (i : Bool). Fits input (cond i q r) n) e f)))
node_or t b s p a (FitPiece.many c r) = inr refl
node_or t b s p a (FitPiece.gaps c r) = inr refl
node_or t b s p a (FitPiece.text l r) = inr refl
node_or t b s p a (FitPiece.byte l r m) = inr refl
node_or t b s p a (FitPiece.mark l) = inr refl
node_or t b s p a (FitPiece.number l) = inr refl

or_at : (t : ℕ → Bool) (b : ℕ) (ts : List Field) (fs : Fields) (i : ℕ) → node_kinds t (sort_at ts i) ≡ true → FitFields input b ts fs → (t (kind (as_node (piece_in fs i))) ≡ true) ⊎ (as_node (piece_in fs i) ≡ nothing)
or_at t b ts fs i a r =
    ⊎_elim (λ e. inr (ap as_node e)) (λ f. node_or t f.0 (sort_at ts i) (piece_in fs i) a f.1) (found b ts fs i r)

if_so : (b c : Bool) → cond b c true ≡ true → b ≡ true → c ≡ true
if_so true c h e = h
if_so false c h e = absurd (false≢true e)

module _ (k : ℕ) (ts : List Field) (fs : Fields) (r : FitFields input 0 ts fs) (a : asks k ts ≡ true) (m : not (eqb k 20 || eqb k 21) ≡ true) where
  known_fields : Known k fs
  unfolding asks
  known_fields =
      let c0 = node_kinds not_default (sort_at ts 0) in
      let c1 = cond (eqb k 34) (node_kinds leaf_kind (sort_at ts 1) && (item_kinds (eqb 35) (sort_at ts 0) && list_first ts)) true in
      let c2 = cond (eqb k 35) (node_kinds leaf_kind (sort_at ts 0)) true in
      let c3 = cond (eqb k 36) (list_first ts) true in
      let c4 = cond (eqb k 37) (node_kinds standing (sort_at ts 0) && node_first ts) true in
      let c5 = cond (eqb k 14) (item_kinds (eqb 15) (sort_at ts 3)) true in
      let c6 = cond (eqb k 17) (item_kinds (eqb 15) (sort_at ts 0)) true in
      let c7 = cond (eqb k 10) (node_kinds (eqb 15) (sort_at ts 0)) true in
      let c8 = cond (eqb k 4) (item_kinds (eqb 5) (sort_at ts 2)) true in
      let c9 = cond (eqb k 7 || eqb k 8) (node_kinds not_default (sort_at ts 1)) true in
      let c10 = cond (eqb k 18) (plains ts) true in
      let r9 = c9 && c10 in
      let r8 = c8 && r9 in
      let r7 = c7 && r8 in
      let r6 = c6 && r7 in
      let r5 = c5 && r6 in
      let r4 = c4 && r5 in
      let r3 = c3 && r4 in
      let r2 = c2 && r3 in
      let r1 = c1 && r2 in
      let a1 : r1 ≡ true = and_right c0 r1 a in
      let a2 : r2 ≡ true = and_right c1 r2 a1 in
      let a3 : r3 ≡ true = and_right c2 r3 a2 in
      let a4 : r4 ≡ true = and_right c3 r4 a3 in
      let a5 : r5 ≡ true = and_right c4 r5 a4 in
      let a6 : r6 ≡ true = and_right c5 r6 a5 in
      let a7 : r7 ≡ true = and_right c6 r7 a6 in
      let a8 : r8 ≡ true = and_right c7 r8 a7 in
      let a9 : r9 ≡ true = and_right c8 r9 a8 in
      let object-all : eqb k 34 ≡ true → node_kinds leaf_kind (sort_at ts 1) && (item_kinds (eqb 35) (sort_at ts 0) && list_first ts) ≡ true = if_so (eqb k 34) (node_kinds leaf_kind (sort_at ts 1) && (item_kinds (eqb 35) (sort_at ts 0) && list_first ts)) (and_left c1 r2 a1) in
      record {
        first = node_at not_default refl 0 ts fs 0 (and_left c0 r1 a) r;
        made = m;
        rest = λ e. node_at leaf_kind refl 0 ts fs 1 (and_left (node_kinds leaf_kind (sort_at ts 1)) (item_kinds (eqb 35) (sort_at ts 0) && list_first ts) (object-all e)) r;
        properties = λ e. items_at (eqb 35) 0 ts fs 0 (and_left (item_kinds (eqb 35) (sort_at ts 0)) (list_first ts) (and_right (node_kinds leaf_kind (sort_at ts 1)) (item_kinds (eqb 35) (sort_at ts 0) && list_first ts) (object-all e))) r;
        object = λ e. list_first_lem 0 ts fs (and_right (item_kinds (eqb 35) (sort_at ts 0)) (list_first ts) (and_right (node_kinds leaf_kind (sort_at ts 1)) (item_kinds (eqb 35) (sort_at ts 0) && list_first ts) (object-all e))) r;
        key = λ e. node_at leaf_kind refl 0 ts fs 0 (if_so (eqb k 35) (node_kinds leaf_kind (sort_at ts 0)) (and_left c2 r3 a2) e) r;
        array = λ e. list_first_lem 0 ts fs (if_so (eqb k 36) (list_first ts) (and_left c3 r4 a3) e) r;
        left = λ e. node_first_lem standing 0 ts fs (if_so (eqb k 37) (node_kinds standing (sort_at ts 0) && node_first ts) (and_left c4 r5 a4) e) r;
        function = λ e. items_at (eqb 15) 0 ts fs 3 (if_so (eqb k 14) (item_kinds (eqb 15) (sort_at ts 3)) (and_left c5 r6 a5) e) r;
        arrow = λ e. items_at (eqb 15) 0 ts fs 0 (if_so (eqb k 17) (item_kinds (eqb 15) (sort_at ts 0)) (and_left c6 r7 a6) e) r;
        catch = λ e. or_at (eqb 15) 0 ts fs 0 (if_so (eqb k 10) (node_kinds (eqb 15) (sort_at ts 0)) (and_left c7 r8 a7) e) r;
        declaration = λ e. items_at (eqb 5) 0 ts fs 2 (if_so (eqb k 4) (item_kinds (eqb 5) (sort_at ts 2)) (and_left c8 r9 a8) e) r;
        for = λ e. node_at not_default refl 0 ts fs 1 (if_so (eqb k 7 || eqb k 8) (node_kinds not_default (sort_at ts 1)) (and_left c9 c10 a9) e) r;
        reference = λ e. plain_fields 0 ts fs (if_so (eqb k 18) (plains ts) (and_right c9 c10 a9) e) r;
      }

-- of a node at a place
pub known : (p at k : ℕ) (fs : Fields) → 0 < form_at input p k → FitFields input 0 (fields_of (form_at input p k)) fs → Known k fs
known p at k fs h r =
    let f = form_at input p k in
    known_fields k (fields_of f) fs r (subst (λ (j : ℕ). asks j (fields_of f) ≡ true) (kind_at input p k h) (form_asks f)) (not_made p k h)
