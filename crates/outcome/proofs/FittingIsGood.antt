-- A tree that fits the grammar of input is good and has no Temporary, and each Default in it has a node at its left.
-- Assumes nothing.
use mathlib.Core.Path.{◌≡◌, refl, sym, ◌∙◌}
use mathlib.Core.Bool.{Bool, true, false, cond, not, ◌||◌, false≢true}
use mathlib.Core.List.{List}
use mathlib.Core.Logic.◌⊎◌.{inr}
use Prim.Native.Nat.{ℕ, zero, suc}
use native.Mathlib.Omega.{arith}
use lib.Dec.{eqb}
use borrow.Author.Tests.{eqb-true, eq-eqb}
use Rattle.tree.specs.Tree.{Node, Fields, Piece, Items, depth}
use Rattle.tree.specs.Tree.Node.{node}
use Rattle.tree.specs.Grammar.{Sort, Field, form_at, fields_of}
use Rattle.tree.specs.Grammar.Stage.{input}
use Rattle.tree.specs.Read.{sort_in}
use Rattle.tree.specs.WellFormed.{Fits, FitFields, FitPiece, FitItems, byte_in}
use Rattle.lowering.specs.Parts.{nothing, kind, is, piece_in, as_node, as_items_of, node_at_of, items_at_of, gather}
use Rattle.lowering.specs.Patterns.{shape, items_of, rest}
use Rattle.lowering.specs.Patterns.Shape.{object_pattern, array_pattern, default, leaf}
use Rattle.lowering.specs.Heads.{moved, is_moved, moved_from}
use Rattle.lowering.proofs.All.{weaker_items}
use Rattle.lowering.proofs.Cases.{by_test, by_shape, or_left, or_right, not-true}
use Rattle.outcome.proofs.GoodNodes.{Pure, PureFields, PurePiece, PureItems, Leaf, Is35, Local, Good, GoodFields, GoodPiece, GoodItems}
use Rattle.outcome.proofs.Asked.{leaf_kind, not_default, standing, Known, known}
use Rattle.outcome.proofs.Potential.{gone, odd, odds, odds_append, odds_none, only_odds}

-- ---- tests and what they say

leaf_of_lem : (n : Node) → leaf_kind (kind n) ≡ true → Leaf n
unfolding shape
leaf_of_lem n h = go (eqb (kind n) 34) (eqb (kind n) 36) (eqb (kind n) 37) h
  where
    go : (a b c : Bool) → not (a || (b || c)) ≡ true → cond a object_pattern (cond b array_pattern (cond c default leaf)) ≡ leaf
    go true b c e = absurd (false≢true e)
    go false true c e = absurd (false≢true e)
    go false false true e = absurd (false≢true e)
    go false false false e = refl

pub same_kind : (j : ℕ) (n : Node) → eqb j (kind n) ≡ true → is j n ≡ true
unfolding is
same_kind j n e = let z : j ≡ kind n = eqb-true j (kind n) e in eq-eqb (kind n) j (sym z)

pub not_37 : (n : Node) → not_default (kind n) ≡ true → is 37 n ≡ false
unfolding is
not_37 n h = not-true (eqb (kind n) 37) h

not_gone : (n : Node) → standing (kind n) ≡ true → gone n ≡ false
unfolding gone is
not_gone n h = not-true (eqb (kind n) 20 || eqb (kind n) 0) h

-- ---- no Default without a left

abbrev mutual
  pub Firm : Node → Type 0
  Firm (node at k fs) = (eqb k 37 ≡ true → gone (as_node (piece_in fs 0)) ≡ false) × FirmFields fs

  pub FirmFields : Fields → Type 0
  FirmFields Fields.done = Unit {0}
  FirmFields (Fields.absent fs) = FirmFields fs
  FirmFields (Fields.field p fs) = FirmPiece p × FirmFields fs

  pub FirmPiece : Piece → Type 0
  FirmPiece (Piece.one n) = Firm n
  FirmPiece (Piece.list ns) = FirmItems ns
  FirmPiece (Piece.text bs) = Unit {0}
  FirmPiece (Piece.byte b) = Unit {0}
  FirmPiece (Piece.mark b) = Unit {0}
  FirmPiece (Piece.number b) = Unit {0}

  pub FirmItems : Items → Type 0
  FirmItems Items.none = Unit {0}
  FirmItems (Items.hole ns) = FirmItems ns
  FirmItems (Items.item n ns) = Firm n × FirmItems ns

nothing_firm : Firm nothing
nothing_firm = ((λ e. absurd (false≢true e)), tt)

firm_piece : (fs : Fields) (i : ℕ) → FirmFields fs → FirmPiece (piece_in fs i)
unfolding piece_in
firm_piece Fields.done i h = tt
firm_piece (Fields.absent fs) zero h = tt
firm_piece (Fields.absent fs) (suc i) h = firm_piece fs i h
firm_piece (Fields.field p fs) zero h = h.0
firm_piece (Fields.field p fs) (suc i) h = firm_piece fs i h.1

pub firm_node : (p : Piece) → FirmPiece p → Firm (as_node p)
firm_node (Piece.one n) h = h
firm_node (Piece.list ns) h = nothing_firm
firm_node (Piece.text bs) h = nothing_firm
firm_node (Piece.byte b) h = nothing_firm
firm_node (Piece.mark b) h = nothing_firm
firm_node (Piece.number b) h = nothing_firm

pub firm_items : (p : Piece) → FirmPiece p → FirmItems (as_items_of p)
firm_items (Piece.one n) h = tt
firm_items (Piece.list ns) h = h
firm_items (Piece.text bs) h = tt
firm_items (Piece.byte b) h = tt
firm_items (Piece.mark b) h = tt
firm_items (Piece.number b) h = tt

pub node_firm : (i : ℕ) (n : Node) → Firm n → Firm (node_at_of i n)
unfolding node_at_of
node_firm i (node at k fs) h = firm_node (piece_in fs i) (firm_piece fs i h.1)

pub items_firm : (i : ℕ) (n : Node) → Firm n → FirmItems (items_at_of i n)
unfolding items_at_of
items_firm i (node at k fs) h = firm_items (piece_in fs i) (firm_piece fs i h.1)

pub fields_node : (i : ℕ) (fs : Fields) → FirmFields fs → Firm (as_node (piece_in fs i))
fields_node i fs h = firm_node (piece_in fs i) (firm_piece fs i h)

pub fields_items : (i : ℕ) (fs : Fields) → FirmFields fs → FirmItems (as_items_of (piece_in fs i))
fields_items i fs h = firm_items (piece_in fs i) (firm_piece fs i h)

left_firm : (p : Node) → is 37 p ≡ true → Firm p → gone (node_at_of 0 p) ≡ false
unfolding is node_at_of
left_firm (node at k fs) e h = h.0 e

-- so nothing odd is moved
module _ (x : ℕ) where
  firm_odd : (p : Node) → Firm p → odd x p ≡ 0
  unfolding odd
  firm_odd p h = by_test (is 37 p) (λ e. rw (e, left_firm p e h) refl) (λ e. rw e refl)

  gather_odds : (f : Node → Items) → ((n : Node) → Firm n → odds x (f n) ≡ 0) → (ns : Items) → FirmItems ns → odds x (gather f ns) ≡ 0
  unfolding gather
  gather_odds f g Items.none h = odds_none x
  gather_odds f g (Items.hole ns) h = gather_odds f g ns h
  gather_odds f g (Items.item n ns) h = let a = odds_append x (f n) (gather f ns) in let b = g n h.0 in let c = gather_odds f g ns h.1 in omega arith

  moved_odds : (d : ℕ) (p : Node) → Firm p → odds x (moved d p) ≡ 0
  unfolding moved
  moved_odds zero p h = odds_none x
  moved_odds (suc d) p h =
      let o = only_odds x p in
      let f = firm_odd p h in
      by_shape (shape p)
      (λ e. rw (e, moved) (omega arith))
      (λ e. rw (e, moved)
      (let a = odds_append x (gather (λ m. moved d m) (items_of p)) (moved d (rest p)) in
      let b = gather_odds (λ m. moved d m) (moved_odds d) (items_of p) (items_firm 0 p h) in
      let c = moved_odds d (rest p) (node_firm 1 p h) in
      omega arith))
      (λ e. rw (e, moved) (omega arith))
      (λ e. rw (e, moved) (odds_none x))

  pub from_odds : (q : Node) → Firm q → odds x (moved_from q) ≡ 0
  unfolding moved_from
  from_odds q h = by_test (is_moved q) (λ e. rw e (moved_odds (depth (node_at_of 0 q)) (node_at_of 0 q) (node_firm 0 q h))) (λ e. rw e (odds_none x))

-- ---- what fits

pure_piece : (fs : Fields) (i : ℕ) → PureFields fs → PurePiece (piece_in fs i)
unfolding piece_in
pure_piece Fields.done i h = tt
pure_piece (Fields.absent fs) zero h = tt
pure_piece (Fields.absent fs) (suc i) h = pure_piece fs i h
pure_piece (Fields.field p fs) zero h = h.0
pure_piece (Fields.field p fs) (suc i) h = pure_piece fs i h.1

pure_node : (p : Piece) → PurePiece p → Pure (as_node p)
pure_node (Piece.one n) h = h
pure_node (Piece.list ns) h = (refl, tt)
pure_node (Piece.text bs) h = (refl, tt)
pure_node (Piece.byte b) h = (refl, tt)
pure_node (Piece.mark b) h = (refl, tt)
pure_node (Piece.number b) h = (refl, tt)

local : (k : ℕ) (fs : Fields) → Known k fs → PureFields fs → Local k fs
local k fs w p =
    let m = not-true (eqb k 20 || eqb k 21) w.made in
    record {
      temporary = λ e. absurd (false≢true (sym (or_left (eqb k 20) (eqb k 21) m) ∙ e));
      helper = λ e. absurd (false≢true (sym (or_right (eqb k 20) (eqb k 21) m) ∙ e));
      reference = w.reference;
      object = λ e. (leaf_of_lem (as_node (piece_in fs 1)) (w.rest e), weaker_items (λ n. eqb 35 (kind n) ≡ true) Is35 (λ n h. same_kind 35 n h) (as_items_of (piece_in fs 0)) (w.properties e));
      property = λ e. inr (pure_node (piece_in fs 0) (pure_piece fs 0 p), leaf_of_lem (as_node (piece_in fs 0)) (w.key e));
      first = not_37 (as_node (piece_in fs 0)) w.first;
    }

mutual
  pub fits_good : (p : ℕ) (n : Node) → Fits input p n → Good n × Pure n × Firm n
  fits_good p (node at k fs) (Fits.fits h r) =
      let w = known p at k fs h r in
      let g = fields_good 0 (fields_of (form_at input p k)) fs r in
      let m = not-true (eqb k 20 || eqb k 21) w.made in
      ((local k fs w g.1, g.0), (or_left (eqb k 20) (eqb k 21) m, g.1), ((λ e. not_gone (as_node (piece_in fs 0)) (w.left e)), g.2))

  fields_good : (b : ℕ) (ts : List Field) (fs : Fields) → FitFields input b ts fs → GoodFields fs × PureFields fs × FirmFields fs
  fields_good b ts Fields.done FitFields.done = (tt, tt, tt)
  fields_good b ts (Fields.absent fs) (FitFields.absent {ts = us} r) = fields_good 0 us fs r
  fields_good b ts (Fields.field p fs) (FitFields.field {f = f} {ts = us} g r) =
      let u = piece_good b (sort_in f) p g in
      let v = fields_good (byte_in p) us fs r in
      ((u.0, v.0), (u.1, v.1), (u.2, v.2))

  piece_good : (b : ℕ) (s : Sort) (p : Piece) → FitPiece input b s p → GoodPiece p × PurePiece p × FirmPiece p
  piece_good b s (Piece.one n) (FitPiece.child {p = q} f) = fits_good q n f
  piece_good b s (Piece.one n) (FitPiece.chosen {p = q} {q = r} f) = fits_good (cond (eqb b 1) q r) n f
  piece_good b s (Piece.list ns) (FitPiece.many {p = q} c r) = items_good q false ns r
  piece_good b s (Piece.list ns) (FitPiece.gaps {p = q} c r) = items_good q true ns r
  piece_good b s (Piece.text bs) (FitPiece.text l r) = (tt, tt, tt)
  piece_good b s (Piece.byte v) (FitPiece.byte l r m) = (tt, tt, tt)
  piece_good b s (Piece.mark v) (FitPiece.mark l) = (tt, tt, tt)
  piece_good b s (Piece.number v) (FitPiece.number l) = (tt, tt, tt)

  items_good : (p : ℕ) (h : Bool) (ns : Items) → FitItems input p h ns → GoodItems ns × PureItems ns × FirmItems ns
  items_good p h Items.none FitItems.none = (tt, tt, tt)
  items_good p h (Items.hole ns) (FitItems.hole r) = items_good p true ns r
  items_good p h (Items.item n ns) (FitItems.item f r) =
      let u = fits_good p n f in
      let v = items_good p h ns r in
      ((u.0, v.0), (u.1, v.1), (u.2, v.2))
