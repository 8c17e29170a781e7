-- In an accepted tree every literal and Declaration counts, unless ForIn or ForOf changes it: the places that are not counted are none of the grammar's.
-- Assumes nothing.
use mathlib.Core.Path.{◌≡◌, refl, sym, ap, subst, ◌∙◌}
use mathlib.Core.Bool.{Bool, true, false, cond, ◌||◌, not}
use mathlib.Core.List.{List, [], ◌∷◌}
use Prim.Native.Nat.{ℕ, zero, suc, ◌+◌, ◌≤◌, ◌<◌}
use native.Mathlib.Omega.{arith}
use lib.Dec.{eqb, ltb}
use lib.ListN.{get_or}
use borrow.Author.Tests.{eqb-true, eq-eqb}
use Rattle.tree.specs.Tree.{Node, Fields, Piece, Items}
use Rattle.tree.specs.Tree.Node.{node}
use Rattle.tree.specs.Grammar.{Sort, Field, form_at, form_in, allowed, places, kind_of, kinds, variants, fields_of}
use Rattle.tree.specs.Grammar.Stage.{input}
use Rattle.tree.specs.Read.{sort_in}
use Rattle.tree.specs.WellFormed.{Fits, FitFields, FitPiece, FitItems, WellFormed}
use Rattle.lowering.specs.Parts.{is, piece_in, stands_in, as_node, as_items_of, node_at_of, any}
use Rattle.lowering.specs.Visits.{ItemAt, NodeIn, FieldAt, PartAt, Stands}
use Rattle.overlay.proofs.LaidOn.{differ}
use Rattle.overlay.proofs.AcceptedGiven.{is_many, field_at}
use Rattle.overlay.proofs.LiteralsCounted.{is_list, takes_in, takes, are_params, has_body, is_atom, changes_it, held, held_all, held_piece, held_items_of, held_parts, held_pattern, held_declarators, held_declarator, at_24, at_26, at_27, at_34, at_37, at_4, declarator_held}
use Rattle.lowering.proofs.Cases.{by_test, or_left, or_right}
use Rattle.lowering.proofs.PlaceTests.{all_rows, row_at, not_kind, not_20}

-- ---- forms: which a kind may have, at whatever place

one_form : (k f : ℕ) → ltb k 64 ≡ true → all_rows (λ r. eqb (form_in r k) 0 || eqb (form_in r k) f) places ≡ true → (eqb (form_in [] k) 0 || eqb (form_in [] k) f) ≡ true
    → (p : ℕ) → 0 < form_at input p k → form_at input p k ≡ f
unfolding form_at allowed
one_form k f l a z p h =
    let r = form_in (get_or places p []) k in
    let t : (eqb r 0 || eqb r f) ≡ true = row_at (λ r. eqb (form_in r k) 0 || eqb (form_in r k) f) places p z a in
    let g : 0 < r = rw l at h in
    by_test (eqb r 0)
    (λ e. absurd (let y = eqb-true r 0 e in omega arith))
    (λ e. rw l (eqb-true r f (rw e at t)))

two_forms : {A : Type 0} (k f g : ℕ) → ltb k 64 ≡ true → all_rows (λ r. eqb (form_in r k) 0 || (eqb (form_in r k) f || eqb (form_in r k) g)) places ≡ true
    → (eqb (form_in [] k) 0 || (eqb (form_in [] k) f || eqb (form_in [] k) g)) ≡ true → (p : ℕ) → 0 < form_at input p k → (form_at input p k ≡ f → A) → (form_at input p k ≡ g → A) → A
unfolding form_at allowed
two_forms k f g l a z p h s u =
    let r = form_in (get_or places p []) k in
    let t : (eqb r 0 || (eqb r f || eqb r g)) ≡ true = row_at (λ r. eqb (form_in r k) 0 || (eqb (form_in r k) f || eqb (form_in r k) g)) places p z a in
    let d : 0 < r = rw l at h in
    by_test (eqb r 0)
    (λ e. absurd (let y = eqb-true r 0 e in omega arith))
    (λ e. by_test (eqb r f)
    (λ b. s (rw l (eqb-true r f b)))
    (λ b. u (rw l (eqb-true r g (rw b at (rw e at t))))))

form_14 : (p : ℕ) → (eqb (form_at input p 14) 0 || (eqb (form_at input p 14) 14 || (eqb (form_at input p 14) 64 || eqb (form_at input p 14) 65))) ≡ true
unfolding form_at allowed form_in places kind_of
form_14 p = row_at (λ r. eqb (form_in r 14) 0 || (eqb (form_in r 14) 14 || (eqb (form_in r 14) 64 || eqb (form_in r 14) 65))) places p refl refl

-- ---- sorts of fields

abbrev is_child : ℕ → Sort → Bool
is_child q (Sort.child p) = eqb p q
is_child q (Sort.chosen p r) = false
is_child q (Sort.many p) = false
is_child q (Sort.gaps p) = false
is_child q Sort.text = false
is_child q (Sort.byte low high) = false
is_child q Sort.mark = false
is_child q Sort.number = false

abbrev is_must : Field → Bool
is_must (Field.must s) = true
is_must (Field.may s) = false

piece_child : {b : ℕ} {s : Sort} {p : Piece} (q : ℕ) → FitPiece input b s p → is_child q s ≡ true → Fits input q (as_node p)
piece_child q (FitPiece.child {p = p} {n = n} f) e = subst (λ (x : ℕ). Fits input x n) (eqb-true p q e) f
piece_child q (FitPiece.chosen f) e = differ (sym e)
piece_child q (FitPiece.many c f) e = differ (sym e)
piece_child q (FitPiece.gaps c f) e = differ (sym e)
piece_child q (FitPiece.text a b) e = differ (sym e)
piece_child q (FitPiece.byte a b c) e = differ (sym e)
piece_child q (FitPiece.mark a) e = differ (sym e)
piece_child q (FitPiece.number a) e = differ (sym e)

fit_child : {b : ℕ} {ts : List Field} {fs : Fields} → FitFields input b ts fs → (i q : ℕ) → is_child q (sort_in (field_at ts i)) ≡ true → stands_in fs i ≡ true
    → Fits input q (as_node (piece_in fs i))
unfolding piece_in stands_in
fit_child FitFields.done i q e s = differ (sym s)
fit_child (FitFields.absent f) zero q e s = differ (sym s)
fit_child (FitFields.absent f) (suc i) q e s = fit_child f i q e s
fit_child (FitFields.field p f) zero q e s = piece_child q p e
fit_child (FitFields.field p f) (suc i) q e s = fit_child f i q e s

fit_must : {b : ℕ} {ts : List Field} {fs : Fields} → FitFields input b ts fs → (i : ℕ) → is_must (field_at ts i) ≡ true → stands_in fs i ≡ true
unfolding stands_in
fit_must FitFields.done i e = differ (sym e)
fit_must (FitFields.absent f) zero e = differ (sym e)
fit_must (FitFields.absent f) (suc i) e = fit_must f i e
fit_must (FitFields.field p f) zero e = refl
fit_must (FitFields.field p f) (suc i) e = fit_must f i e

-- a place that takes one form takes one kind
only_form : (g k : ℕ) → 0 < cond (ltb k 64) (cond (eqb g k) g 0) 0 → eqb g k ≡ true
only_form g k h = go (ltb k 64) (eqb g k) h
  where
    go : (a b : Bool) → 0 < cond a (cond b g 0) 0 → b ≡ true
    go a true h = refl
    go true false h = absurd (omega arith)
    go false false h = absurd (omega arith)

abbrev pub is_node_sort : Sort → Bool
is_node_sort (Sort.child p) = true
is_node_sort (Sort.chosen p q) = true
is_node_sort (Sort.many p) = false
is_node_sort (Sort.gaps p) = false
is_node_sort Sort.text = false
is_node_sort (Sort.byte low high) = false
is_node_sort Sort.mark = false
is_node_sort Sort.number = false

abbrev pub is_leaf_sort : Sort → Bool
is_leaf_sort (Sort.child p) = false
is_leaf_sort (Sort.chosen p q) = false
is_leaf_sort (Sort.many p) = false
is_leaf_sort (Sort.gaps p) = false
is_leaf_sort Sort.text = true
is_leaf_sort (Sort.byte low high) = true
is_leaf_sort Sort.mark = true
is_leaf_sort Sort.number = true

abbrev is_many_of : ℕ → Sort → Bool
is_many_of q (Sort.child p) = false
is_many_of q (Sort.chosen p r) = false
is_many_of q (Sort.many p) = eqb p q
is_many_of q (Sort.gaps p) = false
is_many_of q Sort.text = false
is_many_of q (Sort.byte low high) = false
is_many_of q Sort.mark = false
is_many_of q Sort.number = false

-- a list that stands is one
piece_is_list : {b : ℕ} {s : Sort} {p : Piece} → FitPiece input b s p → is_many s ≡ true → is_list p ≡ true
piece_is_list (FitPiece.child f) e = differ (sym e)
piece_is_list (FitPiece.chosen f) e = differ (sym e)
piece_is_list (FitPiece.many c f) e = refl
piece_is_list (FitPiece.gaps c f) e = refl
piece_is_list (FitPiece.text a b) e = differ (sym e)
piece_is_list (FitPiece.byte a b c) e = differ (sym e)
piece_is_list (FitPiece.mark a) e = differ (sym e)
piece_is_list (FitPiece.number a) e = differ (sym e)

fit_is_list : {b : ℕ} {ts : List Field} {fs : Fields} → FitFields input b ts fs → (i : ℕ) → is_many (sort_in (field_at ts i)) ≡ true → is_must (field_at ts i) ≡ true → is_list (piece_in fs i) ≡ true
unfolding piece_in
fit_is_list FitFields.done i e m = differ (sym e)
fit_is_list (FitFields.absent f) zero e m = differ (sym m)
fit_is_list (FitFields.absent f) (suc i) e m = fit_is_list f i e m
fit_is_list (FitFields.field p f) zero e m = piece_is_list p e
fit_is_list (FitFields.field p f) (suc i) e m = fit_is_list f i e m

piece_items : {b : ℕ} {s : Sort} {p : Piece} (q : ℕ) → FitPiece input b s p → is_many_of q s ≡ true → FitItems input q false (as_items_of p)
piece_items q (FitPiece.child f) e = differ (sym e)
piece_items q (FitPiece.chosen f) e = differ (sym e)
piece_items q (FitPiece.many {p = p} {is = is} c f) e = subst (λ (x : ℕ). FitItems input x false is) (eqb-true p q e) f
piece_items q (FitPiece.gaps c f) e = differ (sym e)
piece_items q (FitPiece.text a b) e = differ (sym e)
piece_items q (FitPiece.byte a b c) e = differ (sym e)
piece_items q (FitPiece.mark a) e = differ (sym e)
piece_items q (FitPiece.number a) e = differ (sym e)

fit_items : {b : ℕ} {ts : List Field} {fs : Fields} → FitFields input b ts fs → (i q : ℕ) → is_many_of q (sort_in (field_at ts i)) ≡ true → FitItems input q false (as_items_of (piece_in fs i))
unfolding piece_in
fit_items FitFields.done i q e = differ (sym e)
fit_items (FitFields.absent f) zero q e = FitItems.none
fit_items (FitFields.absent f) (suc i) q e = fit_items f i q e
fit_items (FitFields.field p f) zero q e = piece_items q p e
fit_items (FitFields.field p f) (suc i) q e = fit_items f i q e

module _ (wanted : Node → Bool) where
  abbrev H : Node → ℕ
  H n = held wanted n

  abbrev HI : Items → ℕ
  HI ns = held_items_of wanted ns

  list_piece : {b : ℕ} {s : Sort} {p : Piece} → FitPiece input b s p → is_many s ≡ true → held_piece wanted p ≡ HI (as_items_of p)
  unfolding held
  list_piece (FitPiece.child f) e = differ (sym e)
  list_piece (FitPiece.chosen f) e = differ (sym e)
  list_piece (FitPiece.many c f) e = refl
  list_piece (FitPiece.gaps c f) e = refl
  list_piece (FitPiece.text a b) e = refl
  list_piece (FitPiece.byte a b c) e = refl
  list_piece (FitPiece.mark a) e = refl
  list_piece (FitPiece.number a) e = refl

  node_piece : {b : ℕ} {s : Sort} {p : Piece} → FitPiece input b s p → is_node_sort s ≡ true → held_piece wanted p ≡ H (as_node p)
  unfolding held is_atom has_body
  node_piece (FitPiece.child f) e = refl
  node_piece (FitPiece.chosen f) e = refl
  node_piece (FitPiece.many c f) e = differ (sym e)
  node_piece (FitPiece.gaps c f) e = differ (sym e)
  node_piece (FitPiece.text a b) e = refl
  node_piece (FitPiece.byte a b c) e = refl
  node_piece (FitPiece.mark a) e = refl
  node_piece (FitPiece.number a) e = refl

  leaf_piece : {b : ℕ} {s : Sort} {p : Piece} → FitPiece input b s p → is_leaf_sort s ≡ true → held_piece wanted p ≡ 0
  unfolding held
  leaf_piece (FitPiece.child f) e = differ (sym e)
  leaf_piece (FitPiece.chosen f) e = differ (sym e)
  leaf_piece (FitPiece.many c f) e = differ (sym e)
  leaf_piece (FitPiece.gaps c f) e = differ (sym e)
  leaf_piece (FitPiece.text a b) e = refl
  leaf_piece (FitPiece.byte a b c) e = refl
  leaf_piece (FitPiece.mark a) e = refl
  leaf_piece (FitPiece.number a) e = refl

  fit_list_held : {b : ℕ} {ts : List Field} {fs : Fields} → FitFields input b ts fs → (i : ℕ) → is_many (sort_in (field_at ts i)) ≡ true → held_piece wanted (piece_in fs i) ≡ HI (as_items_of (piece_in fs i))
  unfolding piece_in held
  fit_list_held FitFields.done i e = refl
  fit_list_held (FitFields.absent f) zero e = refl
  fit_list_held (FitFields.absent f) (suc i) e = fit_list_held f i e
  fit_list_held (FitFields.field p f) zero e = list_piece p e
  fit_list_held (FitFields.field p f) (suc i) e = fit_list_held f i e

  fit_node_held : {b : ℕ} {ts : List Field} {fs : Fields} → FitFields input b ts fs → (i : ℕ) → is_node_sort (sort_in (field_at ts i)) ≡ true → held_piece wanted (piece_in fs i) ≡ H (as_node (piece_in fs i))
  unfolding piece_in held is_atom has_body
  fit_node_held FitFields.done i e = refl
  fit_node_held (FitFields.absent f) zero e = refl
  fit_node_held (FitFields.absent f) (suc i) e = fit_node_held f i e
  fit_node_held (FitFields.field p f) zero e = node_piece p e
  fit_node_held (FitFields.field p f) (suc i) e = fit_node_held f i e

  fit_leaf_held : {b : ℕ} {ts : List Field} {fs : Fields} → FitFields input b ts fs → (i : ℕ) → is_leaf_sort (sort_in (field_at ts i)) ≡ true → held_piece wanted (piece_in fs i) ≡ 0
  unfolding piece_in held
  fit_leaf_held FitFields.done i e = refl
  fit_leaf_held (FitFields.absent f) zero e = refl
  fit_leaf_held (FitFields.absent f) (suc i) e = fit_leaf_held f i e
  fit_leaf_held (FitFields.field p f) zero e = leaf_piece p e
  fit_leaf_held (FitFields.field p f) (suc i) e = fit_leaf_held f i e

  -- all fields of a node, by how many it may have
  sum_0 : {b : ℕ} {fs : Fields} → FitFields input b [] fs → held_all wanted fs ≡ 0
  unfolding held
  sum_0 FitFields.done = refl

  sum_1 : {b : ℕ} {t : Field} {fs : Fields} → FitFields input b (t ∷ []) fs → held_all wanted fs ≡ held_piece wanted (piece_in fs 0)
  unfolding held piece_in
  sum_1 (FitFields.absent f) = sum_0 f
  sum_1 (FitFields.field p f) = let z = sum_0 f in omega arith

  sum_2 : {b : ℕ} {t u : Field} {fs : Fields} → FitFields input b (t ∷ u ∷ []) fs → held_all wanted fs ≡ held_piece wanted (piece_in fs 0) + held_piece wanted (piece_in fs 1)
  unfolding held piece_in
  sum_2 (FitFields.absent f) = let z = sum_1 f in omega arith
  sum_2 (FitFields.field p f) = let z = sum_1 f in omega arith

  sum_3 : {b : ℕ} {t u v : Field} {fs : Fields} → FitFields input b (t ∷ u ∷ v ∷ []) fs
      → held_all wanted fs ≡ held_piece wanted (piece_in fs 0) + (held_piece wanted (piece_in fs 1) + held_piece wanted (piece_in fs 2))
  unfolding held piece_in
  sum_3 (FitFields.absent f) = let z = sum_2 f in omega arith
  sum_3 (FitFields.field p f) = let z = sum_2 f in omega arith

  -- ---- kind by kind, at the form that it has

  abbrev Fields-of : ℕ → Fields → Type 0
  Fields-of f fs = FitFields input 0 (fields_of f) fs

  as_form : {f g : ℕ} {fs : Fields} → f ≡ g → Fields-of f fs → Fields-of g fs
  as_form {f} {g} {fs} e x = subst (λ (y : ℕ). Fields-of y fs) e x

  counts_24 : (at : ℕ) (fs : Fields) → Fields-of 24 fs → held_all wanted fs ≤ H (node at 24 fs)
  unfolding fields_of kinds
  counts_24 at fs f = let s = sum_1 f in let a = fit_list_held f 0 refl in let e = at_24 wanted at fs in omega arith

  counts_26 : (at : ℕ) (fs : Fields) → Fields-of 26 fs → held_all wanted fs ≤ H (node at 26 fs)
  unfolding fields_of kinds
  counts_26 at fs f = let s = sum_1 f in let a = fit_node_held f 0 refl in let e = at_26 wanted at fs in omega arith

  counts_27 : (at : ℕ) (fs : Fields) → Fields-of 27 fs → held_all wanted fs ≤ H (node at 27 fs)
  unfolding fields_of kinds
  counts_27 at fs f =
      let s = sum_3 f in
      let a = fit_leaf_held f 0 refl in
      let b = fit_node_held f 1 refl in
      let d = fit_node_held f 2 refl in
      let e = at_27 wanted at fs in
      omega arith

  -- 67 is the form of 35 in a target
  variant_form : (k : ℕ) → 0 < cond (ltb k 64) (cond (eqb 35 k) 67 0) 0 → eqb 35 k ≡ true
  variant_form k h = go (ltb k 64) (eqb 35 k) h
    where
      go : (a b : Bool) → 0 < cond a (cond b 67 0) 0 → b ≡ true
      go a true h = refl
      go true false h = absurd (omega arith)
      go false false h = absurd (omega arith)

  -- properties of a pattern, binding or not, are 35
  part_17 : {n : Node} → Fits input 17 n → is 35 n ≡ true
  unfolding form_at allowed form_in places kind_of is
  part_17 (Fits.fits {k = k} h f) = eq-eqb k 35 (sym (eqb-true 35 k (only_form 35 k h)))

  part_22 : {n : Node} → Fits input 22 n → is 35 n ≡ true
  unfolding form_at allowed form_in places kind_of is
  part_22 (Fits.fits {k = k} h f) = eq-eqb k 35 (sym (eqb-true 35 k (variant_form k h)))

  parts_17 : {b : Bool} {qs : Items} → FitItems input 17 b qs → HI qs ≤ held_parts wanted qs
  unfolding held
  parts_17 FitItems.none = omega arith
  parts_17 (FitItems.hole f) = parts_17 f
  parts_17 (FitItems.item n f) = let r = parts_17 f in rw (part_17 n) (omega arith)

  parts_22 : {b : Bool} {qs : Items} → FitItems input 22 b qs → HI qs ≤ held_parts wanted qs
  unfolding held
  parts_22 FitItems.none = omega arith
  parts_22 (FitItems.hole f) = parts_22 f
  parts_22 (FitItems.item n f) = let r = parts_22 f in rw (part_22 n) (omega arith)

  counts_34 : (at : ℕ) (fs : Fields) → Fields-of 34 fs → held_all wanted fs ≤ H (node at 34 fs)
  unfolding fields_of kinds
  counts_34 at fs f =
      let s = sum_2 f in
      let a = fit_list_held f 0 refl in
      let b = fit_node_held f 1 refl in
      let q = parts_17 (fit_items f 0 17 refl) in
      let e = at_34 wanted at fs in
      omega arith

  counts_66 : (at : ℕ) (fs : Fields) → Fields-of 66 fs → held_all wanted fs ≤ H (node at 34 fs)
  unfolding fields_of variants
  counts_66 at fs f =
      let s = sum_2 f in
      let a = fit_list_held f 0 refl in
      let b = fit_node_held f 1 refl in
      let q = parts_22 (fit_items f 0 22 refl) in
      let e = at_34 wanted at fs in
      omega arith

  -- no Default is the left of one, or the id of a Declarator
  left_15 : {n : Node} → Fits input 15 n → held_pattern wanted n ≡ H n
  unfolding form_at allowed form_in places kind_of is
  left_15 (Fits.fits {k = k} h f) = rw (not_kind 15 k 37 refl h) refl

  left_19 : {n : Node} → Fits input 19 n → held_pattern wanted n ≡ H n
  unfolding form_at allowed form_in places kind_of is
  left_19 (Fits.fits {k = k} h f) = rw (not_kind 19 k 37 refl h) refl

  counts_37 : (at : ℕ) (fs : Fields) → Fields-of 37 fs → held_all wanted fs ≤ H (node at 37 fs)
  unfolding fields_of kinds
  counts_37 at fs f =
      let s = sum_2 f in
      let a = fit_node_held f 0 refl in
      let b = fit_node_held f 1 refl in
      let q = left_15 (fit_child f 0 15 refl (fit_must f 0 refl)) in
      let e = at_37 wanted at fs in
      omega arith

  counts_69 : (at : ℕ) (fs : Fields) → Fields-of 69 fs → held_all wanted fs ≤ H (node at 37 fs)
  unfolding fields_of variants
  counts_69 at fs f =
      let s = sum_2 f in
      let a = fit_node_held f 0 refl in
      let b = fit_node_held f 1 refl in
      let q = left_19 (fit_child f 0 19 refl (fit_must f 0 refl)) in
      let e = at_37 wanted at fs in
      omega arith

  -- a Declarator counts as its id and its starting value
  declarator_5 : (at : ℕ) (fs : Fields) → Fields-of 5 fs → H (node at 5 fs) ≤ held_declarator wanted (node at 5 fs)
  unfolding fields_of kinds is node_at_of held is_atom has_body
  declarator_5 at fs f =
      let s = sum_2 f in
      let a = fit_node_held f 0 refl in
      let b = fit_node_held f 1 refl in
      let q = left_15 (fit_child f 0 15 refl (fit_must f 0 refl)) in
      let e = declarator_held wanted (node at 5 fs) in
      omega arith

  declarator_counts : {d : Node} → Fits input 4 d → H d ≤ held_declarator wanted d
  unfolding form_at allowed form_in places kind_of
  declarator_counts (Fits.fits {at = at} {k = k} {fs = fs} h f) = go k (sym (eqb-true 5 k (only_form 5 k h))) f
    where
      go : (k : ℕ) → k ≡ 5 → FitFields input 0 (fields_of (form_at input 4 k)) fs → H (node at k fs) ≤ held_declarator wanted (node at k fs)
      go k e f = subst (λ (x : ℕ). FitFields input 0 (fields_of (form_at input 4 x)) fs → H (node at x fs) ≤ held_declarator wanted (node at x fs)) (sym e) (λ f. declarator_5 at fs f) f

  declarators_count : {b : Bool} {ds : Items} → FitItems input 4 b ds → HI ds ≤ held_declarators wanted ds
  unfolding held
  declarators_count FitItems.none = omega arith
  declarators_count (FitItems.hole f) = declarators_count f
  declarators_count (FitItems.item n f) = let r = declarators_count f in let k = declarator_counts n in omega arith

  counts_4 : (at : ℕ) (fs : Fields) → Fields-of 4 fs → held_all wanted fs ≤ H (node at 4 fs)
  unfolding fields_of kinds
  counts_4 at fs f =
      let s = sum_3 f in
      let a = fit_leaf_held f 0 refl in
      let b = fit_leaf_held f 1 refl in
      let d = fit_list_held f 2 refl in
      let q = declarators_count (fit_items f 2 4 refl) in
      let e = at_4 wanted at fs in
      omega arith

  counts_13 : (fs : Fields) → Fields-of 13 fs → held_all wanted fs ≡ 0
  unfolding fields_of kinds
  counts_13 fs f = sum_1 f ∙ fit_leaf_held f 0 refl

  counts_18 : (fs : Fields) → Fields-of 18 fs → held_all wanted fs ≡ 0
  unfolding fields_of kinds
  counts_18 fs f = let s = sum_2 f in let a = fit_leaf_held f 0 refl in let b = fit_leaf_held f 1 refl in omega arith

-- ---- heads and bodies

takes_16 : {q : ℕ} {n : Node} → Fits input q n → takes_in 16 n ≡ true
unfolding fields_of kinds form_in places kind_of
takes_16 (Fits.fits {p = q} {at = at} {k = k} {fs = fs} h f) =
    by_test (eqb k 16)
    (λ e. rw e (fit_is_list (body k (eqb-true k 16 e) h f) 1 refl refl))
    (λ e. rw e refl)
  where
    body : (k : ℕ) → k ≡ 16 → 0 < form_at input q k → FitFields input 0 (fields_of (form_at input q k)) fs → FitFields input 0 (fields_of 16) fs
    body k e h f = subst (λ (x : ℕ). FitFields input 0 (fields_of x) fs) (subst (λ (x : ℕ). 0 < form_at input q x → form_at input q x ≡ 16) (sym e) (λ h. one_form 16 16 refl refl refl q h) h) f

takes_2 : {q : ℕ} {n : Node} → Fits input q n → takes_in 2 n ≡ true
unfolding fields_of kinds form_in places kind_of
takes_2 (Fits.fits {p = q} {at = at} {k = k} {fs = fs} h f) =
    by_test (eqb k 2)
    (λ e. rw e (fit_is_list (body k (eqb-true k 2 e) h f) 1 refl refl))
    (λ e. rw e refl)
  where
    body : (k : ℕ) → k ≡ 2 → 0 < form_at input q k → FitFields input 0 (fields_of (form_at input q k)) fs → FitFields input 0 (fields_of 2) fs
    body k e h f = subst (λ (x : ℕ). FitFields input 0 (fields_of x) fs) (subst (λ (x : ℕ). 0 < form_at input q x → form_at input q x ≡ 2) (sym e) (λ h. one_form 2 2 refl refl refl q h) h) f

module _ (j : ℕ) (all : (q : ℕ) (n : Node) → Fits input q n → takes_in j n ≡ true) where
  piece_takes : {b : ℕ} {s : Sort} {p : Piece} → FitPiece input b s p → is_node_sort s ≡ true → takes j p ≡ true
  piece_takes (FitPiece.child {p = p} {n = n} f) e = all p n f
  piece_takes (FitPiece.chosen {b = b} {p = p} {q = q} {n = n} f) e = all (cond (eqb b 1) p q) n f
  piece_takes (FitPiece.many c f) e = differ (sym e)
  piece_takes (FitPiece.gaps c f) e = differ (sym e)
  piece_takes (FitPiece.text a b) e = differ (sym e)
  piece_takes (FitPiece.byte a b c) e = differ (sym e)
  piece_takes (FitPiece.mark a) e = differ (sym e)
  piece_takes (FitPiece.number a) e = differ (sym e)

  fit_takes : {b : ℕ} {ts : List Field} {fs : Fields} → FitFields input b ts fs → (i : ℕ) → is_node_sort (sort_in (field_at ts i)) ≡ true → stands_in fs i ≡ true → takes j (piece_in fs i) ≡ true
  unfolding piece_in stands_in
  fit_takes FitFields.done i e s = differ (sym s)
  fit_takes (FitFields.absent f) zero e s = differ (sym s)
  fit_takes (FitFields.absent f) (suc i) e s = fit_takes f i e s
  fit_takes (FitFields.field p f) zero e s = piece_takes p e
  fit_takes (FitFields.field p f) (suc i) e s = fit_takes f i e s

param_kind : {n : Node} → Fits input 7 n → is 15 n ≡ true
unfolding form_at allowed form_in places kind_of is
param_kind (Fits.fits {k = k} h f) = eq-eqb k 15 (sym (eqb-true 15 k (only_form 15 k h)))

params_kind : {p : ℕ} {b : Bool} {ns : Items} → FitItems input p b ns → p ≡ 7 → any (λ n. not (is 15 n)) ns ≡ false
unfolding any
params_kind FitItems.none e = refl
params_kind (FitItems.hole f) e = params_kind f e
params_kind (FitItems.item {n = n} x f) e = rw (param_kind (subst (λ (y : ℕ). Fits input y n) e x)) (params_kind f e)

-- a field of parameters: a list of them, or one
abbrev is_params : Sort → Bool
is_params (Sort.child p) = eqb p 7
is_params (Sort.chosen p r) = false
is_params (Sort.many p) = eqb p 7
is_params (Sort.gaps p) = false
is_params Sort.text = false
is_params (Sort.byte low high) = false
is_params Sort.mark = false
is_params Sort.number = false

piece_params : {b : ℕ} {s : Sort} {p : Piece} → FitPiece input b s p → is_params s ≡ true → are_params p ≡ true
piece_params (FitPiece.child {p = p} {n = n} f) e = param_kind (subst (λ (y : ℕ). Fits input y n) (eqb-true p 7 e) f)
piece_params (FitPiece.chosen f) e = differ (sym e)
piece_params (FitPiece.many {p = p} c f) e = ap not (params_kind f (eqb-true p 7 e))
piece_params (FitPiece.gaps c f) e = differ (sym e)
piece_params (FitPiece.text a b) e = refl
piece_params (FitPiece.byte a b c) e = refl
piece_params (FitPiece.mark a) e = refl
piece_params (FitPiece.number a) e = refl

fit_params : {b : ℕ} {ts : List Field} {fs : Fields} → FitFields input b ts fs → (i : ℕ) → is_params (sort_in (field_at ts i)) ≡ true → are_params (piece_in fs i) ≡ true
unfolding piece_in
fit_params FitFields.done i e = refl
fit_params (FitFields.absent f) zero e = refl
fit_params (FitFields.absent f) (suc i) e = fit_params f i e
fit_params (FitFields.field p f) zero e = piece_params p e
fit_params (FitFields.field p f) (suc i) e = fit_params f i e

-- whichever its form, a Function has its parameters at 3 and its body at 5
function_body_lem : {ts : List Field} {fs : Fields} → FitFields input 0 ts fs → is_params (sort_in (field_at ts 3)) ≡ true → is_node_sort (sort_in (field_at ts 5)) ≡ true → has_body 14 fs ≡ true
unfolding has_body
function_body_lem {ts} {fs} f a b =
    by_test (stands_in fs 5)
    (λ s. rw (s, fit_takes 16 (λ q n x. takes_16 x) f 5 b s, fit_params f 3 a) refl)
    (λ s. rw (s, fit_params f 3 a) refl)

body_14 : (p : ℕ) (fs : Fields) → 0 < form_at input p 14 → FitFields input 0 (fields_of (form_at input p 14)) fs → has_body 14 fs ≡ true
unfolding fields_of kinds variants
body_14 p fs h f =
    let g = form_at input p 14 in
    by_test (eqb g 14)
    (λ e. function_body_lem (subst (λ (x : ℕ). FitFields input 0 (fields_of x) fs) (eqb-true g 14 e) f) refl refl)
    (λ e. by_test (eqb g 64)
    (λ d. function_body_lem (subst (λ (x : ℕ). FitFields input 0 (fields_of x) fs) (eqb-true g 64 d) f) refl refl)
    (λ d. by_test (eqb g 0)
    (λ z. absurd (let y = eqb-true g 0 z in omega arith))
    (λ z. function_body_lem (subst (λ (x : ℕ). FitFields input 0 (fields_of x) fs) (eqb-true g 65 (rw d at (rw e at (rw z at (form_14 p))))) f) refl refl)))

body_17 : (p : ℕ) (fs : Fields) → 0 < form_at input p 17 → FitFields input 0 (fields_of (form_at input p 17)) fs → has_body 17 fs ≡ true
unfolding fields_of kinds form_in places kind_of has_body
body_17 p fs h f =
    let g : FitFields input 0 (fields_of 17) fs = subst (λ (x : ℕ). FitFields input 0 (fields_of x) fs) (one_form 17 17 refl refl refl p h) f in
    rw (fit_takes 16 (λ q n x. takes_16 x) g 2 refl (fit_must g 2 refl), fit_params g 0 refl) refl

body_10 : (p : ℕ) (fs : Fields) → 0 < form_at input p 10 → FitFields input 0 (fields_of (form_at input p 10)) fs → has_body 10 fs ≡ true
unfolding fields_of kinds form_in places kind_of has_body
body_10 p fs h f =
    let g : FitFields input 0 (fields_of 10) fs = subst (λ (x : ℕ). FitFields input 0 (fields_of x) fs) (one_form 10 10 refl refl refl p h) f in
    rw (fit_takes 2 (λ q n x. takes_2 x) g 1 refl (fit_must g 1 refl), fit_params g 0 refl) refl

body_7 : (p : ℕ) (fs : Fields) → 0 < form_at input p 7 → FitFields input 0 (fields_of (form_at input p 7)) fs → has_body 7 fs ≡ true
unfolding fields_of kinds form_in places kind_of has_body
body_7 p fs h f =
    let g : FitFields input 0 (fields_of 7) fs = subst (λ (x : ℕ). FitFields input 0 (fields_of x) fs) (one_form 7 7 refl refl refl p h) f in
    rw (fit_takes 2 (λ q n x. takes_2 x) g 3 refl (fit_must g 3 refl)) refl

body_8 : (p : ℕ) (fs : Fields) → 0 < form_at input p 8 → FitFields input 0 (fields_of (form_at input p 8)) fs → has_body 8 fs ≡ true
unfolding fields_of kinds form_in places kind_of has_body
body_8 p fs h f =
    let g : FitFields input 0 (fields_of 8) fs = subst (λ (x : ℕ). FitFields input 0 (fields_of x) fs) (one_form 8 8 refl refl refl p h) f in
    rw (fit_takes 2 (λ q n x. takes_2 x) g 3 refl (fit_must g 3 refl)) refl

-- ---- every node

module _ (wanted : Node → Bool) where
  body_counts : (at k : ℕ) (fs : Fields) → eqb k 24 ≡ false → eqb k 26 ≡ false → eqb k 27 ≡ false → eqb k 34 ≡ false → eqb k 37 ≡ false → eqb k 4 ≡ false
      → is_atom k ≡ false → has_body k fs ≡ true → changes_it wanted k fs ≡ false → held_all wanted fs ≤ held wanted (node at k fs)
  unfolding held
  body_counts at k fs e₁ e₂ e₃ e₄ e₅ e₆ a b u = rw (e₁, e₂, e₃, e₄, e₅, e₆, a, b, u) (omega arith)

  abbrev Counts : ℕ → ℕ → Fields → ℕ → Type 0
  Counts p at fs k = changes_it wanted k fs ≡ false → 0 < form_at input p k → FitFields input 0 (fields_of (form_at input p k)) fs → held_all wanted fs ≤ held wanted (node at k fs)

  with_body : (p at : ℕ) (fs : Fields) (k : ℕ) → (is_atom k || (eqb k 24 || (eqb k 26 || (eqb k 27 || (eqb k 34 || (eqb k 37 || eqb k 4)))))) ≡ false
      → (0 < form_at input p k → FitFields input 0 (fields_of (form_at input p k)) fs → has_body k fs ≡ true) → Counts p at fs k
  with_body p at fs k e b u h f =
      let e₀ = or_right (is_atom k) _ e in
      let e₁ = or_right (eqb k 24) _ e₀ in
      let e₂ = or_right (eqb k 26) _ e₁ in
      let e₃ = or_right (eqb k 27) _ e₂ in
      let e₄ = or_right (eqb k 34) _ e₃ in
      body_counts at k fs (or_left (eqb k 24) _ e₀) (or_left (eqb k 26) _ e₁) (or_left (eqb k 27) _ e₂) (or_left (eqb k 34) _ e₃) (or_left (eqb k 37) _ e₄) (or_right (eqb k 37) _ e₄)
      (or_left (is_atom k) _ e) (b h f) u

  no_body : (k : ℕ) (fs : Fields) → eqb k 14 ≡ false → eqb k 17 ≡ false → eqb k 10 ≡ false → eqb k 7 ≡ false → eqb k 8 ≡ false → has_body k fs ≡ true
  unfolding has_body
  no_body k fs a b c d e = rw (a, b, c, d, e) refl

  counts_at : (p at : ℕ) (fs : Fields) (k j : ℕ) → eqb k j ≡ true → Counts p at fs j → Counts p at fs k
  counts_at p at fs k j e x = subst (λ (y : ℕ). Counts p at fs y) (sym (eqb-true k j e)) x

  counts : (p at : ℕ) (fs : Fields) (k : ℕ) → Counts p at fs k
  unfolding form_in places kind_of is_atom
  counts p at fs k =
      by_test (eqb k 24) (λ e. counts_at p at fs k 24 e (λ u h f. counts_24 wanted at fs (as_form wanted (one_form 24 24 refl refl refl p h) f)))
      (λ e₁. by_test (eqb k 26) (λ e. counts_at p at fs k 26 e (λ u h f. counts_26 wanted at fs (as_form wanted (one_form 26 26 refl refl refl p h) f)))
      (λ e₂. by_test (eqb k 27) (λ e. counts_at p at fs k 27 e (λ u h f. counts_27 wanted at fs (as_form wanted (one_form 27 27 refl refl refl p h) f)))
      (λ e₃. by_test (eqb k 34) (λ e. counts_at p at fs k 34 e (λ u h f. two_forms 34 34 66 refl refl refl p h (λ z. counts_34 wanted at fs (as_form wanted z f)) (λ z. counts_66 wanted at fs (as_form wanted z f))))
      (λ e₄. by_test (eqb k 37) (λ e. counts_at p at fs k 37 e (λ u h f. two_forms 37 37 69 refl refl refl p h (λ z. counts_37 wanted at fs (as_form wanted z f)) (λ z. counts_69 wanted at fs (as_form wanted z f))))
      (λ e₅. by_test (eqb k 4) (λ e. counts_at p at fs k 4 e (λ u h f. counts_4 wanted at fs (as_form wanted (one_form 4 4 refl refl refl p h) f)))
      (λ e₆. by_test (eqb k 13) (λ e. counts_at p at fs k 13 e (λ u h f. let z = counts_13 wanted fs (as_form wanted (one_form 13 13 refl refl refl p h) f) in omega arith))
      (λ e₇. by_test (eqb k 18) (λ e. counts_at p at fs k 18 e (λ u h f. let z = counts_18 wanted fs (as_form wanted (one_form 18 18 refl refl refl p h) f) in omega arith))
      (λ e₈. by_test (eqb k 14) (λ e. counts_at p at fs k 14 e (with_body p at fs 14 refl (body_14 p fs)))
      (λ e₉. by_test (eqb k 17) (λ e. counts_at p at fs k 17 e (with_body p at fs 17 refl (body_17 p fs)))
      (λ e₁₀. by_test (eqb k 10) (λ e. counts_at p at fs k 10 e (with_body p at fs 10 refl (body_10 p fs)))
      (λ e₁₁. by_test (eqb k 7) (λ e. counts_at p at fs k 7 e (with_body p at fs 7 refl (body_7 p fs)))
      (λ e₁₂. by_test (eqb k 8) (λ e. counts_at p at fs k 8 e (with_body p at fs 8 refl (body_8 p fs)))
      (λ e₁₃ u h f. body_counts at k fs e₁ e₂ e₃ e₄ e₅ e₆ (atom (not_20 p k h) e₇ e₈) (no_body k fs e₉ e₁₀ e₁₁ e₁₂ e₁₃) u)))))))))))))
    where
      atom : eqb k 20 ≡ false → eqb k 13 ≡ false → eqb k 18 ≡ false → is_atom k ≡ false
      atom a b d = rw (b, d, a) refl

-- ---- down to the literal

item_fits : {p : ℕ} {b : Bool} {ns : Items} {j : ℕ} {x : Node} → FitItems input p b ns → ItemAt ns j x → Fits input p x
item_fits (FitItems.item n f) ItemAt.first = n
item_fits (FitItems.item n f) (ItemAt.behind a) = item_fits f a
item_fits (FitItems.hole f) (ItemAt.behind_hole a) = item_fits f a
item_fits FitItems.none a = elim a [ ]

piece_fits_lem : {b : ℕ} {s : Sort} {p : Piece} {j : ℕ} {x : Node} → FitPiece input b s p → NodeIn p j x → (q : ℕ) × Fits input q x
piece_fits_lem (FitPiece.child {p = p} f) NodeIn.one = (p, f)
piece_fits_lem (FitPiece.chosen {b = b} {p = p} {q = q} f) NodeIn.one = (cond (eqb b 1) p q, f)
piece_fits_lem (FitPiece.many {p = p} c f) (NodeIn.list a) = (p, item_fits f a)
piece_fits_lem (FitPiece.gaps {p = p} c f) (NodeIn.list a) = (p, item_fits f a)
piece_fits_lem (FitPiece.text _ _) a = elim a [ ]
piece_fits_lem (FitPiece.byte _ _ _) a = elim a [ ]
piece_fits_lem (FitPiece.mark _) a = elim a [ ]
piece_fits_lem (FitPiece.number _) a = elim a [ ]

pub field_fits : {b : ℕ} {ts : List Field} {fs : Fields} {i j : ℕ} {x : Node} → FitFields input b ts fs → FieldAt fs i j x → (q : ℕ) × Fits input q x
field_fits (FitFields.field p f) (FieldAt.first a) = piece_fits_lem p a
field_fits (FitFields.field p f) (FieldAt.behind a) = field_fits f a
field_fits (FitFields.absent f) (FieldAt.behind_absent a) = field_fits f a
field_fits FitFields.done a = elim a [ ]

module _ (wanted : Node → Bool) where
  item_held : {ns : Items} {j : ℕ} {x : Node} → ItemAt ns j x → held wanted x ≤ held_items_of wanted ns
  unfolding held
  item_held ItemAt.first = omega arith
  item_held (ItemAt.behind a) = let r = item_held a in omega arith
  item_held (ItemAt.behind_hole a) = item_held a

  piece_held : {p : Piece} {j : ℕ} {x : Node} → NodeIn p j x → held wanted x ≤ held_piece wanted p
  unfolding held
  piece_held NodeIn.one = omega arith
  piece_held (NodeIn.list a) = item_held a

  field_held : {fs : Fields} {i j : ℕ} {x : Node} → FieldAt fs i j x → held wanted x ≤ held_all wanted fs
  unfolding held
  field_held (FieldAt.first a) = let r = piece_held a in omega arith
  field_held (FieldAt.behind a) = let r = field_held a in omega arith
  field_held (FieldAt.behind_absent a) = field_held a

  here_held : (n : Node) → (is 24 n || is 4 n) ≡ true → wanted n ≡ true → 0 < held wanted n
  unfolding is
  here_held (node at k fs) e w =
      by_test (eqb k 24)
      (λ z. at_kind 24 (eqb-true k 24 z) (λ w. let a = at_24 wanted at fs in let o = counted (wanted (node at 24 fs)) w in omega arith))
      (λ z. at_kind 4 (eqb-true k 4 (rw z at e)) (λ w. let a = at_4 wanted at fs in let o = counted (wanted (node at 4 fs)) w in omega arith))
    where
      at_kind : (j : ℕ) → k ≡ j → (wanted (node at j fs) ≡ true → 0 < held wanted (node at j fs)) → 0 < held wanted (node at k fs)
      at_kind j z f = subst (λ (x : ℕ). wanted (node at x fs) ≡ true → 0 < held wanted (node at x fs)) (sym z) f w

      counted : (b : Bool) → b ≡ true → ◌≡◌ {A = ℕ} (cond b 1 0) 1
      counted true e = refl
      counted false e = differ (sym e)

  -- no ForIn or ForOf in n has a left that is wanted
  abbrev pub Apart : List ℕ → Node → Type 0
  Apart q n = (r : List ℕ) (f : Node) → Stands q n r f → (is 7 f || is 8 f) ≡ true → is 4 (node_at_of 1 f) ≡ true → wanted (node_at_of 1 f) ≡ false

  unchanging : (q : List ℕ) (at k : ℕ) (fs : Fields) → Apart q (node at k fs) → changes_it wanted k fs ≡ false
  unfolding is node_at_of
  unchanging q at k fs a =
      by_test (eqb k 7 || eqb k 8)
      (λ l. rw l (by_test (is 4 (as_node (piece_in fs 1))) (λ d. rw d (a q (node at k fs) Stands.here l d)) (λ d. rw d refl)))
      (λ l. rw l refl)

  stands_held : {p : ℕ} {q r : List ℕ} {n m : Node} → Stands q n r m → Fits input p n → Apart q n → (is 24 m || is 4 m) ≡ true → wanted m ≡ true → 0 < held wanted n
  stands_held (Stands.here {n = n}) f u e w = here_held n e w
  stands_held (Stands.onward {p = q} (PartAt.part {at = at} {k = k} {fs = fs} a) s) (Fits.fits {p = p} h f) u e w =
      let x = field_fits f a in
      let i = stands_held {p = x.0} s x.1 (λ r g t. u r g (Stands.onward (PartAt.part a) t)) e w in
      let b = field_held a in
      let t = counts wanted p at fs k (unchanging q at k fs u) h f in
      omega arith

-- every literal of an accepted tree counts, and every Declaration that is not changed
pub counted : (wanted : Node → Bool) (levels j : ℕ) (n : Node) → WellFormed input levels n j → {p : List ℕ} {m : Node} → Stands [] n p m → Apart wanted [] n → (is 24 m || is 4 m) ≡ true → wanted m ≡ true
    → 0 < held wanted n
counted wanted levels j n w s u e t = stands_held wanted s w.fits u e t
