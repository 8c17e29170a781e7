-- Each Literal of a lowered tree and of its list is a node of the input, its spelling included, or a key string that the lowering made,
-- whose spelling is empty.
-- Assumes nothing.
use mathlib.Core.Path.{◌≡◌, refl, sym, ap, ◌∙◌, subst}
use mathlib.Core.Bool.{Bool, true, false, false≢true}
use mathlib.Core.List.{List, [], ◌∷◌}
use mathlib.Core.Logic.{◌⊎◌}
use mathlib.Core.Logic.◌⊎◌.{inl, inr}
use Prim.Native.Nat.{ℕ, zero, suc, ◌-◌, ◌<◌}
use native.Mathlib.Omega.{arith}
use native.Mathlib.Decide.{dec_lt}
use lib.Dec.{eqb}
use lib.ListN.{get_or}
use borrow.Author.Tests.{eqb-true, lt-ltb, le-ltb}
use Rattle.tree.specs.Tree.{Node, Fields, Piece, Items}
use Rattle.tree.specs.Tree.Node.{node}
use Rattle.tree.specs.Grammar.{Sort, Field, root, kind_of, form_at, kinds, fields_of}
use Rattle.tree.specs.Grammar.Stage.{input}
use Rattle.tree.specs.Read.{sort_in, read_tree}
use Rattle.tree.specs.Read.Got.{got}
use Rattle.tree.specs.WellFormed.{Bytes, Fits, FitFields, FitPiece, FitItems}
use Rattle.tree.proofs.Look.{kind_at}
use Rattle.tree.proofs.Sound.{sound}
use Rattle.lowering.specs.Parts.{kind, is, text_at_of, piece_in, number_at}
use Rattle.lowering.specs.Keys.{promised, literal_text}
use Rattle.lowering.specs.Made.{string}
use Rattle.lowering.specs.Collect.{Name, nodes, nodes_fields, nodes_piece, nodes_items}
use Rattle.lowering.specs.Answer.{top}
use Rattle.lowering.proofs.Appearance.{In, in_first, in_second}
use Rattle.lowering.proofs.Cases.{by_test, or_other}
use Rattle.equal.specs.Results.{written_by, tree_of, entries_of, excluded_of, result_by}
use Rattle.equal.specs.Spelled.{Origin, found, of_name, of_literal, nodes_written}
use Rattle.equal.proofs.LeafParts.{is_leaf_of, NoPart, NoParts, Leaves, LeavesFields, LeavesPiece, LeavesItems}
use Rattle.equal.proofs.LeafViews.{Makes}
use Rattle.equal.proofs.LeafWalk.{tree_leaves, entries_leaves, excluded_leaves, numbered_leaves, entries_numbered, items_numbered, each_written}

-- ---- the Literals and StaticKeys of a tree that was read have no parts

-- fields that hold neither nodes nor marks
unfoldable is_plain : Sort → Bool
is_plain (Sort.child p) = false
is_plain (Sort.chosen p q) = false
is_plain (Sort.many p) = false
is_plain (Sort.gaps p) = false
is_plain Sort.text = true
is_plain (Sort.byte low high) = true
is_plain Sort.mark = false
is_plain Sort.number = true

abbrev Plain : List Field → Type 0
Plain [] = Unit {0}
Plain (t ∷ ts) = (is_plain (sort_in t) ≡ true) × Plain ts

plain_piece : {b : ℕ} {t : Sort} {p : Piece} → FitPiece input b t p → is_plain t ≡ true → NoPart p
unfolding is_plain
plain_piece (FitPiece.child f) e = false≢true e
plain_piece (FitPiece.chosen f) e = false≢true e
plain_piece (FitPiece.many c f) e = false≢true e
plain_piece (FitPiece.gaps c f) e = false≢true e
plain_piece (FitPiece.text c f) e = tt
plain_piece (FitPiece.byte x y z) e = tt
plain_piece (FitPiece.mark c) e = false≢true e
plain_piece (FitPiece.number c) e = tt

plain_fields : {b : ℕ} {ts : List Field} {fs : Fields} → FitFields input b ts fs → Plain ts → NoParts fs
plain_fields FitFields.done h = tt
plain_fields (FitFields.absent g) h = plain_fields g h.1
plain_fields (FitFields.field u g) h = (plain_piece u h.0, plain_fields g h.1)

-- the kinds of the forms from 64 on
abbrev late : ℕ → ℕ
late m = get_or (14 ∷ 14 ∷ 34 ∷ 35 ∷ 36 ∷ 37 ∷ []) m 0

late_other : (m : ℕ) → (late m ≡ 22 → ⊥) × (late m ≡ 38 → ⊥)
late_other zero = ((λ h. omega arith), (λ h. omega arith))
late_other (suc zero) = ((λ h. omega arith), (λ h. omega arith))
late_other (suc (suc zero)) = ((λ h. omega arith), (λ h. omega arith))
late_other (suc (suc (suc zero))) = ((λ h. omega arith), (λ h. omega arith))
late_other (suc (suc (suc (suc zero)))) = ((λ h. omega arith), (λ h. omega arith))
late_other (suc (suc (suc (suc (suc zero))))) = ((λ h. omega arith), (λ h. omega arith))
late_other (suc (suc (suc (suc (suc (suc m)))))) = ((λ h. omega arith), (λ h. omega arith))

-- a form below 64 is its kind
form_of : (f k : ℕ) → ((m : ℕ) → late m ≡ k → ⊥) → kind_of f ≡ k → f ≡ k
unfolding kind_of
form_of f k none e =
    elim (dec_lt f 64) [
      | yes h ↦ (let z : kind_of f ≡ f = rw (lt-ltb f 64 h) in sym z ∙ e)
      | no h ↦ (let z : kind_of f ≡ late (f - 64) = rw (le-ltb f 64 (omega arith)) in absurd (none (f - 64) (sym z ∙ e)))
    ]

plain_22 : Plain (fields_of 22)
unfolding fields_of kinds is_plain
plain_22 = (refl, (refl, (refl, tt)))

plain_38 : Plain (fields_of 38)
unfolding fields_of kinds is_plain
plain_38 = (refl, tt)

leaf_plain : (p k : ℕ) → 0 < form_at input p k → is_leaf_of k ≡ true → Plain (fields_of (form_at input p k))
leaf_plain p k u t =
    by_test (eqb k 22)
    (λ e.
    let f : form_at input p k ≡ 22 = form_of (form_at input p k) 22 (λ m. (late_other m).0) (kind_at input p k u ∙ eqb-true k 22 e) in
    subst (λ (g : ℕ). Plain (fields_of g)) (sym f) plain_22)
    (λ e.
    let f : form_at input p k ≡ 38 = form_of (form_at input p k) 38 (λ m. (late_other m).1) (kind_at input p k u ∙ eqb-true k 38 (or_other (eqb k 22) (eqb k 38) e t)) in
    subst (λ (g : ℕ). Plain (fields_of g)) (sym f) plain_38)

-- ---- so all of them are found in it

module _ (start : Node) where
  -- what is among these nodes is a node of the start
  abbrev Within : List Node → Type 0
  Within ns = (m : Node) → In m ns → In m (nodes start)

  mutual
    unfolding nodes

    fits_leaves : {p : ℕ} {n : Node} → Fits input p n → Within (nodes n) → Leaves (Origin start) n
    fits_leaves (Fits.fits {p = p} {at = at} {k = k} {fs = fs} u g) h = (
      (λ t. record { alone = plain_fields g (leaf_plain p k u t); holds = found (h (node at k fs) (In.here refl)) }),
      fields_leaves g (λ m i. h m (In.there i)),
    )

    fields_leaves : {b : ℕ} {ts : List Field} {fs : Fields} → FitFields input b ts fs → Within (nodes_fields fs) → LeavesFields (Origin start) fs
    fields_leaves FitFields.done h = tt
    fields_leaves (FitFields.absent g) h = fields_leaves g h
    fields_leaves (FitFields.field {p = p} {fs = fs} u g) h = (
      piece_leaves u (λ m i. h m (in_first (nodes_fields fs) i)),
      fields_leaves g (λ m i. h m (in_second (nodes_piece p) i)),
    )

    piece_leaves : {b : ℕ} {t : Sort} {p : Piece} → FitPiece input b t p → Within (nodes_piece p) → LeavesPiece (Origin start) p
    piece_leaves (FitPiece.child g) h = fits_leaves g h
    piece_leaves (FitPiece.chosen g) h = fits_leaves g h
    piece_leaves (FitPiece.many c g) h = items_leaves g h
    piece_leaves (FitPiece.gaps c g) h = items_leaves g h
    piece_leaves (FitPiece.text c g) h = tt
    piece_leaves (FitPiece.byte x y z) h = tt
    piece_leaves (FitPiece.mark c) h = tt
    piece_leaves (FitPiece.number c) h = tt

    items_leaves : {p : ℕ} {b : Bool} {is : Items} → FitItems input p b is → Within (nodes_items is) → LeavesItems (Origin start) is
    items_leaves FitItems.none h = tt
    items_leaves (FitItems.hole g) h = items_leaves g h
    items_leaves (FitItems.item {n = n} {is = is} u g) h =
        (fits_leaves u (λ m i. h m (in_first (nodes_items is) i)), items_leaves g (λ m i. h m (in_second (nodes n) i)))

  -- ---- strings that are made of them

  named : (k : Node) → is 38 k ≡ true → Origin start k → Origin start (string (text_at_of 0 k))
  unfolding is
  named k e (found i) = of_name i e
  named k e (of_name i f) = absurd (false≢true e)
  named k e (of_literal i f) = absurd (false≢true e)

  formed : (k : Node) → is 22 k ≡ true → Origin start k → Origin start (string (literal_text k))
  unfolding literal_text promised text_at_of number_at piece_in
  formed k e (found i) = of_literal i e
  formed k e (of_name i f) = of_name i f
  formed k e (of_literal i f) = of_literal i f

  pub origins : Makes (Origin start)
  origins = record { named = named; formed = formed }

-- ---- a result

-- each Literal of the result of a tree that fits is a node of the tree or a key string
pub made_of : (n : Node) → Fits input root n → (ns : List Name) (next : ℕ) (m : Node) → In m (nodes_written (result_by ns next n)) → is 22 m ≡ true → Origin n m
unfolding nodes_written result_by written_by tree_of entries_of excluded_of is
made_of n f ns next m i e =
    let h : Leaves (Origin n) n = fits_leaves n f (λ k j. j) in
    let o = origins n in
    let w = result_by ns next n in
    each_written (Origin n) o w.tree w.entries w.excluded
    (numbered_leaves (Origin n) o ns (tree_of next n) (tree_leaves (Origin n) o top n h next))
    (entries_numbered (Origin n) o ns (entries_of next n) (entries_leaves (Origin n) o top n h next 0))
    (items_numbered (Origin n) o ns (excluded_of next n) (excluded_leaves (Origin n) o top n h next 0))
    m i (ap is_leaf_of (eqb-true (kind m) 22 e))

-- a made one has an empty spelling
spelled : (n m : Node) → Origin n m → In m (nodes n) ⊎ (text_at_of 1 m ≡ [])
unfolding text_at_of piece_in
spelled n m (found i) = inl i
spelled n m (of_name i e) = inr refl
spelled n m (of_literal i e) = inr refl

-- of every accepted tree
pub made_empty : (limit : ℕ) (tree : List ℕ) (n : Node) (q next : ℕ) → Bytes tree → read_tree input limit tree ≡ got n q next
    → (ns : List Name) (m : Node) → In m (nodes_written (result_by ns next n)) → is 22 m ≡ true → Origin n m × (In m (nodes n) ⊎ (text_at_of 1 m ≡ []))
made_empty limit tree n q next b r ns m i e =
    let o = made_of n (sound input limit tree n q next b r).well_formed.fits ns next m i e in
    (o, spelled n m o)
