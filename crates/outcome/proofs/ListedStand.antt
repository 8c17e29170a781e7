-- Where nothing is refused, each temporary of the list stands in the tree.
-- Assumes nothing.
use mathlib.Core.Path.{◌≡◌, refl, sym, ap, ◌∙◌, subst}
use mathlib.Core.Bool.{Bool, true, false, cond, not, ◌&&◌, false≢true, true≢false}
use mathlib.Core.List.{List, [], ◌∷◌}
use mathlib.Core.Logic.{◌⊎◌, ⊎_elim}
use mathlib.Core.Logic.◌⊎◌.{inl, inr}
use Prim.Native.Nat.{ℕ, zero, suc, ◌+◌, ◌<◌}
use native.Mathlib.Omega.{arith}
use lib.Dec.{eqb}
use borrow.Author.Tests.{not-true}
use Rattle.tree.specs.Tree.{Node, Fields, Piece, Items, depth}
use Rattle.tree.specs.Tree.Node.{node}
use Rattle.lowering.specs.Parts.{nothing, position, kind, as_items_of, is, node_at_of, items_at_of, piece_in, change_in, change, on_items, change_node, change_items, is_empty, only, each, gather, any, ◌+++◌}
use Rattle.lowering.specs.Made.{Context, temporary, reference, value_of, key_of, excluded_of, helper, call, K, array, member, assign, declares, declared, id_of}
use Rattle.lowering.specs.Patterns.{shape, properties, items_of, rest, has_rest_of, left_of, key, value, with_values, with_properties, has_nested_array_rest, has_object_rest, has_array_rest_over_object_rest, replaced, objects_with_rest, replaced_below, objects_below}
use Rattle.lowering.specs.Patterns.Shape.{object_pattern, array_pattern, default, leaf}
use Rattle.lowering.specs.Keys.{kept_key, taken, key_sort, is_primitive, all_primitive, excluded_key, excluded_keys, key_temporary, key_temporaries}
use Rattle.lowering.specs.Rests.{has_no_properties, mapped, is_hoisted, keys_read, rest_value, excluded_for}
use Rattle.lowering.specs.Declarations.{source, source_declarator, keys_before, pattern_declarator, rest_declarator, own, nested, nested_below, object_declarators, pattern_declarators, lower_declarator, is_lowered, lowered_in, declarators, declaration, declaration_excludes, declaration_refusal}
use Rattle.lowering.specs.Assignments.{is_top, target, target_left, parts_replaced, assigned, nearest, parts_of, outermost, from_reference, top_refusal, top_sequence, top_entry, top_excludes, nested_sequence, nested_entry}
use Rattle.lowering.specs.Walk.{Note, Step, Walked, WalkedFields, WalkedPiece, WalkedItems, each_item_of, each_piece, each_field, inside, rule_of, rewrite, unchanged, step_declaration, step_top, step_assignment, step_for, within}
use Rattle.lowering.specs.Walk.Rule.{nowhere}
use Rattle.lowering.specs.Walk.Walked.{noted}
use Rattle.lowering.specs.Weight.{walked}
use Rattle.lowering.specs.Collect.{Name, name_of, same, new_in, new_in_piece, bare, bare_fields, bare_piece, bare_items}
use Rattle.lowering.proofs.All.{AllItems, all_unit, all_append, all_gather}
use Rattle.lowering.proofs.Cases.{by_test, by_shape, by_key, by_rule_lem, and_left, and_right, and_none, is_changed, object_is, default_is, by_number}
use Rattle.lowering.proofs.Falls.{walked_is}
use Rattle.lowering.proofs.Levels.{below_object, below_leaf}
use Rattle.lowering.proofs.MadeAtSites.{times, times_append, no_ids}
use Rattle.lowering.proofs.Occurs.{occurs, occurs_fields, occurs_piece, occurs_items}
use Rattle.lowering.proofs.Clauses.{objects_object, objects_array, objects_default, objects_leaf, has_leaf, top_34, top_rest}
use Rattle.outcome.proofs.GoodNodes.{Leaf, NotDefault, first_simple, Good, rest_leaf, node_good, items_good, to_all}
use Rattle.lowering.proofs.ItemLaws.{each_append, gather_none, gather_append}
use Rattle.lowering.proofs.ChangeLaws.{stands_without}
use Rattle.lowering.proofs.WeightKeys.{values_rest}

-- ---- no refusal anywhere

abbrev mutual
  pub Calm : Walked → Type 0
  Calm (noted note at k fs) = (note.refusal ≡ 0) × CalmFields fs

  pub CalmFields : WalkedFields → Type 0
  CalmFields WalkedFields.done = Unit {0}
  CalmFields (WalkedFields.absent fs) = CalmFields fs
  CalmFields (WalkedFields.field p fs) = CalmPiece p × CalmFields fs

  pub CalmPiece : WalkedPiece → Type 0
  CalmPiece (WalkedPiece.one w) = Calm w
  CalmPiece (WalkedPiece.list is) = CalmItems is
  CalmPiece (WalkedPiece.text bs) = Unit {0}
  CalmPiece (WalkedPiece.byte b) = Unit {0}
  CalmPiece (WalkedPiece.mark b) = Unit {0}
  CalmPiece (WalkedPiece.number b) = Unit {0}

  pub CalmItems : WalkedItems → Type 0
  CalmItems WalkedItems.none = Unit {0}
  CalmItems (WalkedItems.hole is) = CalmItems is
  CalmItems (WalkedItems.item w is) = Calm w × CalmItems is

-- ---- some part

abbrev pub SomeItems : (Node → Type 0) → Items → Type 0
SomeItems P Items.none = ⊥
SomeItems P (Items.hole is) = SomeItems P is
SomeItems P (Items.item n is) = P n ⊎ SomeItems P is

abbrev pub SomePiece : (Node → Type 0) → Piece → Type 0
SomePiece P (Piece.one n) = P n
SomePiece P (Piece.list is) = SomeItems P is
SomePiece P (Piece.text bs) = ⊥
SomePiece P (Piece.byte b) = ⊥
SomePiece P (Piece.mark b) = ⊥
SomePiece P (Piece.number b) = ⊥

abbrev pub SomeFields : (Node → Type 0) → Fields → Type 0
SomeFields P Fields.done = ⊥
SomeFields P (Fields.absent fs) = SomeFields P fs
SomeFields P (Fields.field p fs) = SomePiece P p ⊎ SomeFields P fs

abbrev pub Some : (Node → Type 0) → Node → Type 0
Some P (node at k fs) = SomeFields P fs

module _ (P Q : Node → Type 0) (f : (n : Node) → P n → Q n) where
  some_items : (is : Items) → SomeItems P is → SomeItems Q is
  some_items Items.none h = h
  some_items (Items.hole is) h = some_items is h
  some_items (Items.item n is) h = ⊎_elim (λ u. inl (f n u)) (λ u. inr (some_items is u)) h

  some_piece : (p : Piece) → SomePiece P p → SomePiece Q p
  some_piece (Piece.one n) h = f n h
  some_piece (Piece.list is) h = some_items is h
  some_piece (Piece.text bs) h = h
  some_piece (Piece.byte b) h = h
  some_piece (Piece.mark b) h = h
  some_piece (Piece.number b) h = h

  some_fields : (fs : Fields) → SomeFields P fs → SomeFields Q fs
  some_fields Fields.done h = h
  some_fields (Fields.absent fs) h = some_fields fs h
  some_fields (Fields.field p fs) h = ⊎_elim (λ u. inl (some_piece p u)) (λ u. inr (some_fields fs u)) h

  some_weaker : (n : Node) → Some P n → Some Q n
  some_weaker (node at k fs) h = some_fields fs h

module _ (P : Node → Type 0) where
  some_left : (is js : Items) → SomeItems P is → SomeItems P (is +++ js)
  unfolding ◌+++◌
  some_left Items.none js h = absurd h
  some_left (Items.hole is) js h = some_left is js h
  some_left (Items.item n is) js h = ⊎_elim (λ u. inl u) (λ u. inr (some_left is js u)) h

  some_right : (is js : Items) → SomeItems P js → SomeItems P (is +++ js)
  unfolding ◌+++◌
  some_right Items.none js h = h
  some_right (Items.hole is) js h = some_right is js h
  some_right (Items.item n is) js h = inr (some_right is js h)

  some_gather : (Q : Node → Type 0) (f : Node → Items) → ((n : Node) → Q n → SomeItems P (f n)) → (is : Items) → SomeItems Q is → SomeItems P (gather f is)
  unfolding gather
  some_gather Q f g Items.none h = absurd h
  some_gather Q f g (Items.hole is) h = some_gather Q f g is h
  some_gather Q f g (Items.item n is) h = ⊎_elim (λ u. some_left (f n) (gather f is) (g n u)) (λ u. some_right (f n) (gather f is) (some_gather Q f g is u)) h

  some_each : (Q : Node → Type 0) (f : Node → Node) → ((n : Node) → Q n → P (f n)) → (is : Items) → SomeItems Q is → SomeItems P (each f is)
  unfolding each
  some_each Q f g Items.none h = h
  some_each Q f g (Items.hole is) h = some_each Q f g is h
  some_each Q f g (Items.item n is) h = ⊎_elim (λ u. inl (g n u)) (λ u. inr (some_each Q f g is u)) h

some_any : (f : Node → Bool) (is : Items) → SomeItems (λ n. f n ≡ true) is → any f is ≡ true
unfolding any
some_any f Items.none h = absurd h
some_any f (Items.hole is) h = some_any f is h
some_any f (Items.item n is) h =
    by_test (f n)
    (λ e. rw e refl)
    (λ e. rw e (⊎_elim (λ u. absurd (false≢true (sym e ∙ u))) (λ u. some_any f is u) h))

some_nonempty : (P : Node → Type 0) (is : Items) → SomeItems P is → is_empty is ≡ false
unfolding is_empty
some_nonempty P Items.none h = absurd h
some_nonempty P (Items.hole is) h = refl
some_nonempty P (Items.item n is) h = refl

-- which of a list
pub sum_some : (s t : ℕ) → 0 < s + t → (0 < s) ⊎ (0 < t)
sum_some zero t h = inr (omega arith)
sum_some (suc s) t h = inl (omega arith)

no_rule : (c : Context) (m : Node) → rule_of (kind m) ≡ nowhere → rewrite c m ≡ unchanged m
unfolding rewrite
no_rule c m e = rw (e, rewrite) refl

-- ---- assignments, rewritten

pub leaf_34 : (p : Node) → Leaf p → is 34 p ≡ false
unfolding shape is
leaf_34 p e = go (eqb (kind p) 34) (eqb (kind p) 36) (eqb (kind p) 37) e
  where
    go : (a b c : Bool) → cond a object_pattern (cond b array_pattern (cond c default leaf)) ≡ leaf → a ≡ false
    go true b c e = let z : ◌≡◌ {A = ℕ} 0 1 = cc in absurd (omega arith)
    go false b c e = refl

pub leaf_top : (p : Node) → Leaf p → is_top p ≡ false
unfolding is_top
leaf_top p e = rw (leaf_34 p e) refl

leaf_array : (d : ℕ) (p : Node) → Leaf p → has_nested_array_rest d p ≡ false
unfolding has_nested_array_rest
leaf_array zero p e = refl
leaf_array (suc d) p e = rw (e, has_nested_array_rest) refl

target_of : (l r : Node) → target (assign l r) ≡ l
unfolding node_at_of piece_in
target_of l r = refl

assigned_of : (l r : Node) → assigned (assign l r) ≡ r
unfolding node_at_of piece_in
assigned_of l r = refl

leaf_step : (c : Context) (n : Node) → Leaf (target n) → step_assignment c n ≡ unchanged n
unfolding step_assignment
leaf_step c n e =
    rw (leaf_array (depth (target n)) (target n) e, step_assignment)
    (rw (leaf_top (target n) e)
    (rw (has_leaf (depth (target n)) (target n) e) refl))

assign_rule : (c : Context) (l r : Node) → rewrite c (assign l r) ≡ step_assignment c (assign l r)
unfolding rewrite rule_of
assign_rule c l r = refl

leaf_assigned : (c : Context) (l r : Node) → Leaf l → rewrite c (assign l r) ≡ unchanged (assign l r)
leaf_assigned c l r e = assign_rule c l r ∙ leaf_step c (assign l r) (subst Leaf (sym (target_of l r)) e)

pub temporary_leaf : (path : List ℕ) (stem at : ℕ) → Leaf (temporary path stem at)
unfolding shape
temporary_leaf path stem at = refl

five : {A : Type 0} → ◌≡◌ {A = ℕ} 5 0 → A
five e = absurd (let z : ◌≡◌ {A = ℕ} 5 0 = e in omega arith)

-- the first assignment of what becomes of a target with rest
top_first : (P : Node → Type 0) (c : Context) (n : Node) → P (assign (value_of c (target n)) (assigned n)) → Some P (top_sequence c n)
unfolding top_sequence
top_first P c n h = inl (inl h)

step_top_lem : (P : Node → Type 0) (c : Context) (n : Node) → (step_top c n).note.refusal ≡ 0 → P (assign (value_of c (target n)) (assigned n)) → Some P (step_top c n).result
unfolding step_top
step_top_lem P c n z h =
    by_number (top_refusal n)
    (λ r e. let y : suc r ≡ 0 = rw (e, step_top) at z in absurd (omega arith))
    (λ e. rw (e, step_top, Some) (top_first P c n h))

step_some : (P : Node → Type 0) (c : Context) (n : Node) → is_top (target n) ≡ true → (step_assignment c n).note.refusal ≡ 0
    → P (assign (value_of c (target n)) (assigned n)) → Some P (step_assignment c n).result
unfolding step_assignment
step_some P c n t z h =
    by_test (has_array_rest_over_object_rest (target n))
    (λ e. let y : ◌≡◌ {A = ℕ} 5 0 = rw (e, step_assignment) at z in five y)
    (λ e.
    let y : (step_top c n).note.refusal ≡ 0 = rw (e, t, step_assignment) at z in
    rw (e, t, Some) (step_top_lem P c n y h))

top_some : (P : Node → Type 0) (c : Context) (p r : Node) → is_top p ≡ true → (rewrite c (assign p r)).note.refusal ≡ 0
    → ((t : Node) → Leaf t → P (assign t r)) → Some P (rewrite c (assign p r)).result
top_some P c p r t z f =
    let e = assign_rule c p r in
    subst (λ (s : Step). Some P s.result) (sym e)
    (step_some P c (assign p r) (ap is_top (target_of p r) ∙ t) (subst (λ (s : Step). s.note.refusal ≡ 0) e z)
    (subst (λ (x : Node). P (assign (value_of c (target (assign p r))) x)) (sym (assigned_of p r)) (f (value_of c (target (assign p r))) (temporary_leaf c.path 3 (position (target (assign p r)))))))

-- ---- objects with rest

-- what is left of a target with rest has none
left_rest : (c : Context) (p : Node) → is_top p ≡ true → has_rest_of (taken c (with_values (λ v. parts_replaced c (depth p) v) p)) ≡ false
unfolding taken
left_rest c p t =
    let f : Node → Node = λ v. parts_replaced c (depth p) v in
    rw (values_rest f p ∙ top_rest p t) (stands_without 1 (with_properties (kept_key c) (with_values f p)))

pub left_no_top : (c : Context) (n : Node) → is_top (target n) ≡ true → is_top (target_left c n) ≡ false
unfolding is_top
left_no_top c n t = and_none (is 34 (target_left c n)) (has_rest_of (target_left c n)) (left_rest c (target n) t)

some_changed_piece : (P : Node → Type 0) (f : Items → Items) → f Items.none ≡ Items.none → (p : Piece) → SomeItems P (f (as_items_of p)) → SomePiece P (on_items f p)
unfolding on_items
some_changed_piece P f z (Piece.one n) h = absurd (subst (SomeItems P) z h)
some_changed_piece P f z (Piece.list is) h = h
some_changed_piece P f z (Piece.text bs) h = absurd (subst (SomeItems P) z h)
some_changed_piece P f z (Piece.byte b) h = absurd (subst (SomeItems P) z h)
some_changed_piece P f z (Piece.mark b) h = absurd (subst (SomeItems P) z h)
some_changed_piece P f z (Piece.number b) h = absurd (subst (SomeItems P) z h)

some_changed_in : (P : Node → Type 0) (f : Items → Items) → f Items.none ≡ Items.none → (fs : Fields) (i : ℕ) → SomeItems P (f (as_items_of (piece_in fs i))) → SomeFields P (change_in fs i (on_items f))
unfolding piece_in change_in
some_changed_in P f z Fields.done i h = absurd (subst (SomeItems P) z h)
some_changed_in P f z (Fields.absent fs) zero h = absurd (subst (SomeItems P) z h)
some_changed_in P f z (Fields.absent fs) (suc i) h = some_changed_in P f z fs i h
some_changed_in P f z (Fields.field p fs) zero h = inl (some_changed_piece P f z p h)
some_changed_in P f z (Fields.field p fs) (suc i) h = inr (some_changed_in P f z fs i h)

-- a list in a changed field
some_changed : (P : Node → Type 0) (f : Items → Items) → f Items.none ≡ Items.none → (i : ℕ) (n : Node) → SomeItems P (f (items_at_of i n)) → Some P (change_items i f n)
unfolding items_at_of change
some_changed P f z i (node at k fs) h = some_changed_in P f z fs i h

pub values_top : (f : Node → Node) (p : Node) → is 34 p ≡ true → has_rest_of p ≡ true → is_top (with_values f p) ≡ true
unfolding is_top
values_top f p e r = rw (is_changed 0 (on_items (each (λ q. change_node 1 f q))) p 34 ∙ e) (values_rest f p ∙ r)

-- the objects with rest of an assignment
some_tops : (b : Bool) (is js : Items) → (b ≡ true → AllItems (λ o. is_top o ≡ true) is) → (b ≡ false → AllItems (λ o. is_top o ≡ true) js) → AllItems (λ o. is_top o ≡ true) (cond b is js)
some_tops true is js h k = h refl
some_tops false is js h k = k refl

own_top : (p : Node) → shape p ≡ object_pattern → has_rest_of p ≡ true → is_top p ≡ true
unfolding is_top
own_top p e r = rw (object_is p e) r

pub nearest_top : (arrays : Bool) (d : ℕ) (p : Node) → AllItems (λ o. is_top o ≡ true) (nearest arrays d p)
unfolding nearest
nearest_top arrays zero p = tt
nearest_top arrays (suc d) p =
    let T : Node → Type 0 = λ o. is_top o ≡ true in
    by_shape (shape p)
    (λ e. rw (e, nearest)
    (some_tops (has_rest_of p) (only p) (gather (λ q. nearest arrays d (value q)) (properties p)) (λ r. (own_top p e r, tt))
    (λ r. all_gather (λ q. Unit {0}) T (λ q. nearest arrays d (value q)) (λ q u. nearest_top arrays d (value q)) (properties p) (all_unit (properties p)))))
    (λ e. rw (e, nearest)
    (some_tops arrays (gather (λ q. nearest arrays d q) (items_of p)) Items.none
    (λ r. all_gather (λ q. Unit {0}) T (λ q. nearest arrays d q) (λ q u. nearest_top arrays d q) (items_of p) (all_unit (items_of p))) (λ r. tt)))
    (λ e. rw (e, nearest) (nearest_top arrays d (left_of p)))
    (λ e. rw (e, nearest) tt)

pub parts_top : (p : Node) → AllItems (λ o. is_top o ≡ true) (parts_of p)
parts_top p =
    all_gather (λ q. Unit {0}) (λ o. is_top o ≡ true) (λ q. nearest false (depth p) (value q)) (λ q u. nearest_top false (depth p) (value q)) (properties p) (all_unit (properties p))

module _ (c : Context) where
  pub objects_zero : (p : Node) → objects_with_rest c 0 p ≡ Items.none
  unfolding objects_with_rest
  objects_zero p = refl

  pub objects_top : (d : ℕ) (p : Node) → AllItems (λ o. is_top o ≡ true) (objects_with_rest c d p)
  unfolding objects_with_rest
  objects_top zero p = tt
  objects_top (suc d) p =
      let f : Node → Node = λ v. replaced c d v in
      let T : Node → Type 0 = λ o. is_top o ≡ true in
      by_shape (shape p)
      (λ e. rw (e, objects_with_rest, AllItems)
      (all_append T (gather (λ q. objects_with_rest c d (value q)) (properties p)) (cond (has_rest_of p) (only (with_values f p)) Items.none)
      (all_gather (λ q. Unit {0}) T (λ q. objects_with_rest c d (value q)) (λ q u. objects_top d (value q)) (properties p) (all_unit (properties p)))
      (by_test (has_rest_of p) (λ r. rw (r, AllItems) (values_top f p (object_is p e) r, tt)) (λ r. rw (r, AllItems) tt))))
      (λ e. rw (e, objects_with_rest, AllItems) (all_gather (λ q. Unit {0}) T (λ q. objects_with_rest c d q) (λ q u. objects_top d q) (items_of p) (all_unit (items_of p))))
      (λ e. rw (e, objects_with_rest, AllItems) (objects_top d (left_of p)))
      (λ e. rw (e, objects_with_rest, AllItems) tt)

module _ (a : Name) where
  -- ids of what a function gives
  ids_some : (Q : Node → Type 0) (f : Node → Items) → (is : Items) → AllItems Q is → 0 < times a (each id_of (gather f is)) → SomeItems (λ n. Q n × (0 < times a (each id_of (f n)))) is
  unfolding gather each times
  ids_some Q f Items.none q h = absurd (omega arith)
  ids_some Q f (Items.hole is) q h = ids_some Q f is q h
  ids_some Q f (Items.item n is) q h =
      let e = ap (times a) (each_append id_of (f n) (gather f is)) in
      let s = times_append a (each id_of (f n)) (each id_of (gather f is)) in
      ⊎_elim (λ u. inl (q.0, u)) (λ u. inr (ids_some Q f is q.1 u)) (sum_some (times a (each id_of (f n))) (times a (each id_of (gather f is))) (omega arith))

  -- ---- what stays

  -- m is walked without a refusal, so the name stands in what becomes of it
  abbrev pub Stays : Node → Type 0
  Stays m = (c : Context) (k : ℕ) → Calm (walked c m) → 0 < occurs a (bare k (walked c m))

  module _ (w : ℕ → ℕ → Node → Walked) where
    abbrev Part : Node → Type 0
    Part m = (i j k : ℕ) → Calm (w i j m) → 0 < occurs a (bare k (w i j m))

    items_occur : (i : ℕ) (is : Items) (j k : ℕ) → CalmItems (each_item_of (w i) j is) → SomeItems Part is → 0 < occurs_items a (bare_items k (each_item_of (w i) j is))
    unfolding each_item_of bare occurs
    items_occur i Items.none j k h s = absurd s
    items_occur i (Items.hole is) j k h s = items_occur i is (suc j) k h s
    items_occur i (Items.item n is) j k h s =
        ⊎_elim
        (λ u. let l = u i j k h.0 in omega arith)
        (λ u. let l = items_occur i is (suc j) (k + new_in (w i j n)) h.1 u in omega arith) s

    piece_occurs : (i : ℕ) (p : Piece) (k : ℕ) → CalmPiece (each_piece (w i) p) → SomePiece Part p → 0 < occurs_piece a (bare_piece k (each_piece (w i) p))
    unfolding each_piece bare occurs
    piece_occurs i (Piece.one n) k h s = s i 0 k h
    piece_occurs i (Piece.list is) k h s = items_occur i is 0 k h s
    piece_occurs i (Piece.text bs) k h s = absurd s
    piece_occurs i (Piece.byte b) k h s = absurd s
    piece_occurs i (Piece.mark b) k h s = absurd s
    piece_occurs i (Piece.number b) k h s = absurd s

    fields_occur : (fs : Fields) (i k : ℕ) → CalmFields (each_field w i fs) → SomeFields Part fs → 0 < occurs_fields a (bare_fields k (each_field w i fs))
    unfolding each_field bare occurs
    fields_occur Fields.done i k h s = absurd s
    fields_occur (Fields.absent fs) i k h s = fields_occur fs (suc i) k h s
    fields_occur (Fields.field p fs) i k h s =
        ⊎_elim
        (λ u. let l = piece_occurs i p k h.0 u in omega arith)
        (λ u. let l = fields_occur fs (suc i) (k + new_in_piece (each_piece (w i) p)) h.1 u in omega arith) s

    inside_occurs : (note : Note) (r : Node) (k : ℕ) → Calm (inside note w r) → (note.refusal ≡ 0 → Some Part r) → 0 < occurs a (bare k (inside note w r))
    unfolding inside bare occurs
    inside_occurs note (node at j fs) k h s = let l = fields_occur fs 0 k h.1 (s h.0) in omega arith

  -- if some part of the result stays
  pub stays_result : (c : Context) (m : Node) → ((rewrite c m).note.refusal ≡ 0 → Some Stays (rewrite c m).result) → (k : ℕ) → Calm (walked c m) → 0 < occurs a (bare k (walked c m))
  stays_result c m s k h =
      let note = (rewrite c m).note in
      let r = (rewrite c m).result in
      let w : ℕ → ℕ → Node → Walked = λ i j n. walked (within c r i j) n in
      let e : walked c m ≡ inside note w r = walked_is c m in
      subst (λ (x : Walked). 0 < occurs a (bare k x)) (sym e)
      (inside_occurs w note r k (subst Calm e h) (λ z. some_weaker Stays (Part w) (λ n u i j j' g. u (within c r i j) j' g) r (s z)))

  -- a Temporary
  temporary_result : (c : Context) (path : List ℕ) (stem at : ℕ) → rewrite c (temporary path stem at) ≡ unchanged (temporary path stem at)
  unfolding rewrite rule_of
  temporary_result c path stem at = refl

  temporary_walked : (c : Context) (path : List ℕ) (stem at k : ℕ) → bare k (walked c (temporary path stem at)) ≡ temporary path stem at
  unfolding inside each_field each_piece bare
  temporary_walked c path stem at k =
      ap (bare k) (walked_is c (temporary path stem at))
      ∙ ap (λ (s : Step). bare k (inside s.note (λ i j n. walked (within c s.result i j) n) s.result)) (temporary_result c path stem at)

  stays_temporary : (path : List ℕ) (stem at : ℕ) → same a (name_of (temporary path stem at)) ≡ true → Stays (temporary path stem at)
  unfolding occurs
  stays_temporary path stem at e c k h =
      subst (λ (x : Node). 0 < occurs a x) (sym (temporary_walked c path stem at k)) (rw e (omega arith))

  -- a node of a kind without a rule
  stays_plain : (m : Node) → rule_of (kind m) ≡ nowhere → Some Stays m → Stays m
  stays_plain m e s c k h = stays_result c m (λ z. subst (λ (x : Step). Some Stays x.result) (sym (no_rule c m e)) s) k h

  -- ---- an assignment

  -- to what is no pattern: nothing is rewritten
  stays_assign : (l r : Node) → Leaf l → Stays l ⊎ Stays r → Stays (assign l r)
  stays_assign l r e s c k h =
      stays_result c (assign l r)
      (λ z. subst (λ (x : Step). Some Stays x.result) (sym (leaf_assigned c l r e)) (⊎_elim (λ u. inr (inl u)) (λ u. inr (inr (inl u))) s)) k h

  stays_declares : (i v : Node) → Stays v → Stays (declares i v)
  unfolding rule_of
  stays_declares i v s = stays_plain (declares i v) refl (inr (inl s))

  -- to an object pattern with rest
  stays_top : (p r : Node) → is_top p ≡ true → Stays r → Stays (assign p r)
  stays_top p r e s c k h =
      stays_result c (assign p r) (λ z. top_some Stays c p r e z (λ t l. stays_assign t r l (inr s))) k h

  -- ---- calls

  stays_argument : (f x y : Node) → Stays y → Stays (call f (Items.item x (only y)))
  unfolding rule_of
  stays_argument f x y s = stays_plain (call f (Items.item x (only y))) refl (inr (inl (inr (inl s))))

  stays_array : (xs : Items) → SomeItems Stays xs → Stays (array xs)
  unfolding rule_of
  stays_array xs s = stays_plain (array xs) refl (inl s)

  stays_mapped : (n : Node) → Stays n → Stays (mapped n)
  unfolding mapped rule_of
  stays_mapped n s =
      stays_plain (call (member n (109 ∷ 97 ∷ 112 ∷ [])) (only K)) refl (inl (stays_plain (member n (109 ∷ 97 ∷ 112 ∷ [])) refl (inl s)))

  -- ---- the value of a rest

  one_times : (t : Node) → 0 < times a (only t) → same a (name_of t) ≡ true
  unfolding times
  one_times t h = by_test (same a (name_of t)) (λ e. e) (λ e. let z : 0 < 0 + 0 = rw e at h in absurd (omega arith))

  none_left : {A : Type 0} → 0 < times a (each id_of Items.none) → A
  unfolding each times
  none_left h = absurd (omega arith)

  module _ (c : Context) where
    key_some : (q : Node) → 0 < times a (each id_of (key_temporary c q)) → (is_primitive (key q) ≡ false) × SomeItems Stays (excluded_key c q)
    unfolding key_temporary excluded_key is_primitive each node_at_of piece_in
    key_some q h =
        by_key (key_sort (key q))
        (λ e. let z : 0 < times a Items.none = rw (e, key_temporary) at h in none_left z)
        (λ e. let z : 0 < times a Items.none = rw (e, key_temporary) at h in none_left z)
        (λ e. let z : 0 < times a Items.none = rw (e, key_temporary) at h in none_left z)
        (λ e. let z : 0 < times a Items.none = rw (e, key_temporary) at h in none_left z)
        (λ e. let z : 0 < times a Items.none = rw (e, key_temporary) at h in none_left z)
        (λ e. let z : 0 < times a (only (key_of c q)) = rw (e, key_temporary) at h in
        (rw (e, is_primitive) refl, rw (e, excluded_key, SomeItems) (inl (stays_temporary c.path 4 (position q) (one_times (key_of c q) z)))))

    keys_some : (p : Node) → 0 < times a (each id_of (key_temporaries c p)) → (all_primitive p ≡ false) × (has_no_properties p ≡ false) × SomeItems Stays (excluded_keys c p)
    unfolding key_temporaries excluded_keys all_primitive
    keys_some p h =
        let s = ids_some (λ q. Unit {0}) (key_temporary c) (properties p) (all_unit (properties p)) h in (
          ap not (some_any (λ q. not (is_primitive (key q))) (properties p)
              (some_items (λ q. Unit {0} × (0 < times a (each id_of (key_temporary c q)))) (λ q. not (is_primitive (key q)) ≡ true) (λ q u. ap not (key_some q u.1).0) (properties p) s)),
          some_nonempty (λ q. Unit {0} × (0 < times a (each id_of (key_temporary c q)))) (properties p) s,
          some_gather Stays (λ q. Unit {0} × (0 < times a (each id_of (key_temporary c q)))) (excluded_key c) (λ q u. (key_some q u.1).1) (properties p) s,
        )

    not_hoisted : (p : Node) → all_primitive p ≡ false → is_hoisted c p ≡ false
    unfolding is_hoisted
    not_hoisted p e = and_none (not c.root) (not (has_no_properties p) && all_primitive p) (and_none (not (has_no_properties p)) (all_primitive p) e)

    hoisted_props : (p : Node) → is_hoisted c p ≡ true → has_no_properties p ≡ false
    unfolding is_hoisted
    hoisted_props p e =
        not-true (has_no_properties p) (and_left (not (has_no_properties p)) (all_primitive p) (and_right (not c.root) (not (has_no_properties p) && all_primitive p) e))

    keys_stay : (p s : Node) → 0 < times a (each id_of (key_temporaries c p)) → Stays (rest_value c p s)
    unfolding rest_value keys_read
    keys_stay p s h =
        let k = keys_some p h in
        rw (k.1, not_hoisted p k.0, k.0, Stays) (stays_argument (helper 4) s (mapped (array (excluded_keys c p))) (stays_mapped (array (excluded_keys c p)) (stays_array (excluded_keys c p) k.2)))

    excluded_some : (p : Node) → 0 < times a (each id_of (excluded_for c p)) → (is_hoisted c p ≡ true) × (same a (name_of (excluded_of c p)) ≡ true)
    unfolding excluded_for each node_at_of piece_in
    excluded_some p h =
        by_test (is_hoisted c p)
        (λ e. let z : 0 < times a (only (excluded_of c p)) = rw e at h in (e, one_times (excluded_of c p) z))
        (λ e. let z : 0 < times a Items.none = rw e at h in none_left z)

    excluded_stays : (p s : Node) → 0 < times a (each id_of (excluded_for c p)) → Stays (rest_value c p s)
    unfolding rest_value keys_read
    excluded_stays p s h =
        let k = excluded_some p h in
        rw (hoisted_props p k.0, k.0, Stays) (stays_argument (helper 4) s (excluded_of c p) (stays_temporary c.path 2 (position p) k.1))

    -- ---- assignments from temporaries

    refs_some : (Q : Node → Type 0) (ps : Items) → AllItems Q ps → 0 < times a (each id_of (each (λ p. declared (reference c p)) ps)) → SomeItems (λ p. Q p × (same a (name_of (reference c p)) ≡ true)) ps
    unfolding each times node_at_of piece_in
    refs_some Q Items.none q h = absurd (omega arith)
    refs_some Q (Items.hole ps) q h = refs_some Q ps q h
    refs_some Q (Items.item p ps) q h =
        by_test (same a (name_of (reference c p)))
        (λ e. inl (q.0, e))
        (λ e. let z : 0 < 0 + times a (each id_of (each (λ m. declared (reference c m)) ps)) = rw e at h in inr (refs_some Q ps q.1 (omega arith)))

    refs_stay : (ps : Items) → AllItems (λ p. is_top p ≡ true) ps → 0 < times a (each id_of (each (λ p. declared (reference c p)) ps)) → SomeItems Stays (each (from_reference c) ps)
    refs_stay ps t h =
        some_each Stays (λ p. (is_top p ≡ true) × (same a (name_of (reference c p)) ≡ true)) (from_reference c)
        (λ p u. stays_top p (reference c p) u.0 (stays_temporary c.path 1 (position p) u.1)) ps
        (refs_some (λ p. is_top p ≡ true) ps t h)

    -- ---- a target with rest

    top_used : (n : Node) → is_top (target n) ≡ true → Good n → 0 < times a (each id_of (top_entry c n)) + times a (each id_of (top_excludes c n)) → Some Stays (top_sequence c n)
    unfolding top_sequence top_entry top_excludes each times node_at_of piece_in
    top_used n top g h =
        let p = target n in
        let t = value_of c p in
        let ds = each (λ q. declared (reference c q)) (parts_of p) in
        let ks = key_temporaries c p in
        let es = excluded_for c p in
        let ps = each (from_reference c) (parts_of p) in
        let last = Items.item (assign (rest p) (rest_value c p t)) (cond c.statement Items.none (only t)) in
        let l = rest_leaf p (top_34 p top) (node_good 1 n g) in
        let put : ((s : Node) → Stays (rest_value c p s)) → Some Stays (top_sequence c n) =
        λ s. inl (inr (inr (some_right Stays ps last (inl (stays_assign (rest p) (rest_value c p t) l (inr (s t))))))) in
        let u = ap (times a) (each_append id_of ds ks) in
        let v = times_append a (each id_of ds) (each id_of ks) in
        by_test (same a (name_of t))
        (λ e. inl (inl (stays_assign t (assigned n) (temporary_leaf c.path 3 (position p)) (inl (stays_temporary c.path 3 (position p) e)))))
        (λ e.
        let z : 0 < 0 + times a (each id_of (ds +++ ks)) + times a (each id_of es) = rw e at h in
        ⊎_elim
        (λ w. inl (inr (inr (some_left Stays ps last (refs_stay (parts_of p) (parts_top p) w)))))
        (λ w. ⊎_elim (λ k. put (λ s. keys_stay p s k)) (λ k. put (λ s. excluded_stays p s k)) (sum_some (times a (each id_of ks)) (times a (each id_of es)) w))
        (sum_some (times a (each id_of ds)) (times a (each id_of ks) + times a (each id_of es)) (omega arith)))

    -- ---- any other target

    nested_used : (n : Node) → 0 < times a (each id_of (nested_entry c n)) → Some Stays (nested_sequence c n)
    unfolding nested_sequence nested_entry
    nested_used n h = inl (inr (refs_stay (outermost (target n)) (nearest_top true (depth (target n)) (target n)) h))

    -- ---- declarations

    rest_some : (p s : Node) → has_rest_of p ≡ true → 0 < times a (each id_of (excluded_for c p)) → SomeItems Stays (rest_declarator c p s)
    unfolding rest_declarator
    rest_some p s e h = rw (e, SomeItems) (inl (stays_declares (rest p) (rest_value c p s) (excluded_stays p s h)))

    own_some : (p s : Node) → has_rest_of p ≡ true → 0 < times a (each id_of (excluded_for c p)) → SomeItems Stays (own c p s)
    unfolding own
    own_some p s e h =
        some_right Stays (keys_before c p) (pattern_declarator c p s +++ rest_declarator c p s) (some_right Stays (pattern_declarator c p s) (rest_declarator c p s) (rest_some p s e h))

    -- excluded keys of what is found
    abbrev Excluded : Items → Type 0
    Excluded os = 0 < times a (each id_of (gather (excluded_for c) os))

    excluded_split : (os ps : Items) → Excluded (os +++ ps) → Excluded os ⊎ Excluded ps
    excluded_split os ps h =
        let e = ap (λ (x : Items). times a (each id_of x)) (gather_append (excluded_for c) os ps) in
        let f = ap (times a) (each_append id_of (gather (excluded_for c) os) (gather (excluded_for c) ps)) in
        let t = times_append a (each id_of (gather (excluded_for c) os)) (each id_of (gather (excluded_for c) ps)) in
        sum_some (times a (each id_of (gather (excluded_for c) os))) (times a (each id_of (gather (excluded_for c) ps))) (omega arith)

    excluded_gather : (f : Node → Items) (is : Items) → Excluded (gather f is) → SomeItems (λ n. Excluded (f n)) is
    unfolding gather
    excluded_gather f Items.none h = none_left h
    excluded_gather f (Items.hole is) h = excluded_gather f is h
    excluded_gather f (Items.item n is) h = ⊎_elim (λ u. inl u) (λ u. inr (excluded_gather f is u)) (excluded_split (f n) (gather f is) h)

    excluded_only : (p : Node) → Excluded (only p) → 0 < times a (each id_of (excluded_for c p))
    unfolding gather
    excluded_only p h =
        let f = ap (times a) (each_append id_of (excluded_for c p) Items.none) in
        let t = times_append a (each id_of (excluded_for c p)) (each id_of Items.none) in
        let z = no_ids a in
        omega arith

    no_excluded : {A : Type 0} → Excluded Items.none → A
    unfolding gather
    no_excluded h = none_left h

    nested_some : (d : ℕ) (p : Node) → Excluded (objects_with_rest c d p) → SomeItems Stays (nested c d p)
    unfolding nested
    nested_some zero p h = no_excluded (subst Excluded (objects_zero c p) h)
    nested_some (suc d) p h =
        let f : Node → Node = λ v. replaced c d v in
        by_shape (shape p)
        (λ e. rw (e, nested, SomeItems)
        (let own-items = cond (has_rest_of p) (own c (with_values f p) (reference c p)) Items.none in
        let inner = gather (λ q. nested c d (value q)) (properties p) in
        ⊎_elim
        (λ u. some_right Stays own-items inner
        (some_gather Stays (λ q. Excluded (objects_with_rest c d (value q))) (λ q. nested c d (value q)) (λ q g. nested_some d (value q) g) (properties p)
        (excluded_gather (λ q. objects_with_rest c d (value q)) (properties p) u)))
        (λ u. some_left Stays own-items inner
        (by_test (has_rest_of p)
        (λ r. rw (r, SomeItems)
        (let u' : Excluded (only (with_values f p)) = rw r at u in
        own_some (with_values f p) (reference c p) (values_rest f p ∙ r) (excluded_only (with_values f p) u')))
        (λ r. let u' : Excluded Items.none = rw r at u in no_excluded u')))
        (excluded_split (gather (λ q. objects_with_rest c d (value q)) (properties p)) (cond (has_rest_of p) (only (with_values f p)) Items.none)
        (subst Excluded (objects_object c d p e) h))))
        (λ e. rw (e, nested, SomeItems)
        (some_gather Stays (λ q. Excluded (objects_with_rest c d q)) (λ q. nested c d q) (λ q g. nested_some d q g) (items_of p)
        (excluded_gather (λ q. objects_with_rest c d q) (items_of p) (subst Excluded (objects_array c d p e) h))))
        (λ e. rw (e, nested, SomeItems) (nested_some d (left_of p) (subst Excluded (objects_default c d p e) h)))
        (λ e. no_excluded (subst Excluded (objects_leaf c d p e) h))

    object_some : (p s : Node) → shape p ≡ object_pattern → Excluded (objects_below c p) → SomeItems Stays (object_declarators c p s)
    unfolding object_declarators
    object_some p s e h =
        let q = with_values (λ v. replaced_below c v) p in
        let ns = gather (λ r. nested_below c (value r)) (properties p) in
        some_right Stays (keys_before c q) (pattern_declarator c q s +++ ns +++ rest_declarator c q s)
        (some_right Stays (pattern_declarator c q s) (ns +++ rest_declarator c q s)
        (⊎_elim
        (λ u. some_left Stays ns (rest_declarator c q s)
        (some_gather Stays (λ r. Excluded (objects_below c (value r))) (λ r. nested_below c (value r)) (λ r g. nested_some (depth (value r)) (value r) g) (properties p)
        (excluded_gather (λ r. objects_below c (value r)) (properties p) u)))
        (λ u. some_right Stays ns (rest_declarator c q s)
        (by_test (has_rest_of p)
        (λ r. let u' : Excluded (only q) = rw r at u in rest_some q s (values_rest (λ v. replaced_below c v) p ∙ r) (excluded_only q u'))
        (λ r. let u' : Excluded Items.none = rw r at u in no_excluded u')))
        (excluded_split (gather (λ r. objects_below c (value r)) (properties p)) (cond (has_rest_of p) (only q) Items.none) (subst Excluded (below_object c p e) h))))

    pattern_some : (p s : Node) → NotDefault p → Excluded (objects_below c p) → SomeItems Stays (pattern_declarators c p s)
    unfolding pattern_declarators
    pattern_some p s n h =
        by_shape (shape p)
        (λ e. rw (e, SomeItems) (object_some p s e h))
        (λ e. rw (e, SomeItems) (some_right Stays (only (declares (replaced_below c p) s)) (nested_below c p) (nested_some (depth p) p h)))
        (λ e. absurd (true≢false (sym (default_is p e) ∙ n)))
        (λ e. no_excluded (subst Excluded (below_leaf c p e) h))

    declarators_some : (d : Node) → Good d → Excluded (lowered_in c d) → SomeItems Stays (declarators c d)
    unfolding declarators lowered_in lower_declarator
    declarators_some d g h =
        let p = node_at_of 0 d in
        let init = node_at_of 1 d in
        by_test (is_lowered d)
        (λ e.
        let h' : Excluded (objects_below c p) = rw e at h in
        rw (e, SomeItems) (some_right Stays (source_declarator c p init) (pattern_declarators c p (source c p init)) (pattern_some p (source c p init) (first_simple d g) h')))
        (λ e. let h' : Excluded Items.none = rw e at h in no_excluded h')

    declaration_used : (n : Node) → Good n → 0 < times a (each id_of (declaration_excludes c n)) → Some Stays (declaration c n)
    unfolding declaration declaration_excludes
    declaration_used n g h =
        some_changed Stays (gather (declarators c)) (gather_none (declarators c)) 2 n
        (some_gather Stays (λ d. Good d × Excluded (lowered_in c d)) (declarators c) (λ d u. declarators_some d u.0 u.1) (items_at_of 2 n)
        (ids_some Good (λ d. gather (excluded_for c) (lowered_in c d)) (items_at_of 2 n) (to_all (items_at_of 2 n) (items_good 2 n g)) h))

    -- ---- the steps

    abbrev Used : Step → Type 0
    Used s = 0 < times a (each id_of s.note.entry) + times a (each id_of s.note.excluded) → Some Stays s.result

    nothing_used : (made : Items) (r : ℕ) (n : Node) → Used (record { note = record { refusal = r; made = made; entry = Items.none; excluded = Items.none }; result = n })
    nothing_used made r n h = let z = no_ids a in absurd (omega arith)

    declarations_used : (n : Node) → Good n → Used (step_declaration c n)
    unfolding step_declaration
    declarations_used n g =
        by_number (declaration_refusal c n)
        (λ r e. rw (e, step_declaration) (nothing_used Items.none (suc r) nothing))
        (λ e. rw (e, step_declaration) (λ h. let z = no_ids a in declaration_used n g (omega arith)))

    tops_used : (n : Node) → is_top (target n) ≡ true → Good n → Used (step_top c n)
    unfolding step_top
    tops_used n t g =
        by_number (top_refusal n)
        (λ r e. rw (e, step_top) (nothing_used Items.none (suc r) nothing))
        (λ e. rw (e, step_top) (top_used n t g))

    assignments_used : (n : Node) → Good n → Used (step_assignment c n)
    unfolding step_assignment
    assignments_used n g =
        by_test (has_array_rest_over_object_rest (target n))
        (λ e. rw (e, step_assignment) (nothing_used Items.none 5 nothing))
        (λ e. rw (e, step_assignment)
        (by_test (is_top (target n))
        (λ t. rw t (tops_used n t g))
        (λ t. rw t
        (by_test (has_object_rest (target n))
        (λ r. rw r (λ h. let z = no_ids a in nested_used n (omega arith)))
        (λ r. rw r (nothing_used Items.none 0 n))))))

    fors_used : (n : Node) → Used (step_for c n)
    unfolding step_for
    fors_used n =
        by_test (is 4 (node_at_of 1 n))
        (λ d. rw (d, step_for) (λ h. let z = no_ids a in absurd (omega arith)))
        (λ d. rw (d, step_for)
        (by_test (has_array_rest_over_object_rest (node_at_of 1 n))
        (λ e. rw e (nothing_used Items.none 5 nothing))
        (λ e. rw e (λ h. let z = no_ids a in absurd (omega arith)))))

    pub rewrite_used : (n : Node) → Good n → Used (rewrite c n)
    unfolding rewrite
    rewrite_used n g =
        by_rule_lem (rule_of (kind n))
        (λ e. rw (e, rewrite) (λ h. let z = no_ids a in absurd (omega arith)))
        (λ e. rw (e, rewrite) (declarations_used n g))
        (λ e. rw (e, rewrite) (assignments_used n g))
        (λ e. rw (e, rewrite) (λ h. let z = no_ids a in absurd (omega arith)))
        (λ e. rw (e, rewrite) (λ h. let z = no_ids a in absurd (omega arith)))
        (λ e. rw (e, rewrite) (λ h. let z = no_ids a in absurd (omega arith)))
        (λ e. rw (e, rewrite) (fors_used n))
        (λ e. rw (e, rewrite) (nothing_used Items.none 0 n))
