-- Each rewriting spends what it makes: what it makes in a cell and what any part of its result may still make there are together no more than
-- what the node might make.
-- Assumes nothing.
use mathlib.Core.Path.{◌≡◌, refl, sym, ap, ap₂, ◌∙◌, subst}
use mathlib.Core.Bool.{Bool, true, false, cond, ◌&&◌, ◌||◌, false≢true, true≢false}
use mathlib.Core.List.{List}
use Prim.Native.Nat.{ℕ, zero, suc, ◌+◌, ◌≤◌, ◌<◌}
use native.Mathlib.Omega.{arith}
use native.Mathlib.Nat.{le_refl}
use lib.Dec.{eqb}
use borrow.Author.Tests.{eqb-true}
use Rattle.tree.specs.Tree.{Node, Fields, Piece, Items, depth}
use Rattle.tree.specs.Tree.Node.{node}
use Rattle.lowering.specs.Parts.{nothing, position, kind, is, piece_in, stands_in, change_in, as_node, as_items_of, node_at_of, items_at_of, number_at, stands, change, on_node, on_items, change_node, change_items, only, each, gather, any, ◌+++◌}
use Rattle.lowering.specs.Made.{Context, temporary, reference, value_of, key_of, S, X, E, W, object, array, sequence, assign, declares, declared, id_of, let_of, var_of, assigning, returning, block, function_body}
use Rattle.lowering.specs.Patterns.{shape, properties, items_of, rest, has_rest_of, left_of, key, value, with_values, has_nested_object_rest, has_object_rest, has_array_rest_over_object_rest, replaced, objects_with_rest, replaced_below, objects_below}
use Rattle.lowering.specs.Patterns.Shape.{object_pattern, array_pattern, default, leaf}
use Rattle.lowering.specs.Keys.{key_sort, excluded_keys, key_temporary, key_temporaries, all_primitive, taken}
use Rattle.lowering.specs.Rests.{has_no_properties, mapped, is_hoisted, keys_read, rest_value, excluded_for, rest_makes}
use Rattle.lowering.specs.Literals.{Call, opened, closed, scan, literal}
use Rattle.lowering.specs.Declarations.{is_name_of, source, source_declarator, keys_before, pattern_declarator, rest_declarator, nested, nested_below, object_declarators, pattern_declarators, lower_declarator, inner_objects, declarator_makes, is_lowered, declarators, declaration, declaration_makes, declaration_refusal}
use Rattle.lowering.specs.Declarations
use Rattle.lowering.specs.Assignments.{is_top, target, assigned, parts_of, outermost, from_reference, top_refusal, target_left, top_sequence, top_entry, top_excludes, top_makes, nested_sequence, nested_entry, nested_makes}
use Rattle.lowering.specs.Heads.{is_moved, moved, moved_from, moved_pattern, moved_out_of, left_behind, in_front, in_body, as_function_body, as_block, references, function, function_makes, arrow, arrow_makes, catch, catch_makes, declaring_head, declaring_makes, assigning_head, assigning_makes}
use Rattle.lowering.specs.Walk.{Rule, rule_of, rewrite, step_declaration, step_top, step_assignment, step_for}
use Rattle.lowering.specs.Walk.Rule.{literals, declarations, assignments, functions, arrows, catches, fors, nowhere}
use Rattle.lowering.proofs.All.{AllItems, AllPiece, AllFields, Each, all_append, all_gather, all_each, weaker_items, other_changed, none_passes}
use Rattle.lowering.proofs.Cases.{by_test, by_shape, by_key, by_rule_lem, and_left, object_is, array_is, default_is, is_changed, function_body_is, block_is, by_number}
use Rattle.lowering.proofs.Sites.{here, here_items}
use Rattle.lowering.proofs.Clauses.{objects_object, objects_array, objects_default, taken_none, inner_object, inner_array, has_leaf, lowered_rest, top_34, top_rest, top_rest as top-rest'}
use Rattle.direct.specs.Events.{cell, cell_of}
use Rattle.lowering.proofs.WeightKeys.{rest_changed, values_rest}
use Rattle.outcome.proofs.MadeOnce.{number, number_append, number_none, in_cell}
use Rattle.outcome.proofs.GoodNodes.{NoParts, Leaf, NotDefault, Good, GoodItems, to_all, node_good, items_good, properties_35, rest_leaf, first_simple, values_good, moved_out_view, named_parts}
use Rattle.outcome.proofs.GoodRules.{below_good}
use Rattle.outcome.proofs.ListedStand.{left_no_top, objects_top, nearest_top, parts_top, temporary_leaf, values_top, leaf_top}
use Rattle.outcome.proofs.Potential.{is_pattern, gone, slot, slot_moved, slot_value, slot_top, slots, slot_values, odds, head, heads, head_catch, head_for, aliens, resting, declaring, own, pot, pot_fields, pot_piece, pot_items, inner, pot_34, pot_14, pot_17, pot_10, pot_7, pot_8, pot_27, pot_5, pot_4, inner_in, piece_in_lem, two_pieces, as_node_lem, as_items, node_in, items_in_lem, node_and_node, items_and_node, pot_append, only_pot, none_pot, nothing_pot, temporary_pot, each_item, node_exchange, items_exchange, node_exchange_in}
use Rattle.outcome.proofs.PotentialViews.{node_changed, node_changed_in, gone_in, slot_nothing, slot_temporary, slot_changed, slot_34, whole, wholes, wholes_append, nil, nil_sum, nil_is, wholes_sum, object_sum, objects_sum, targets_sum, taken_sum, excluded_keys_pot, restings, restings_append, restings_none, only_restings, none_wholes, only_wholes, outermost_sum, left_over_sum, rest_beside, moves, moves_append, moves_none, moved_sum, left_less}
use Rattle.lowering.proofs.ItemLaws.{each_append}
use Rattle.lowering.proofs.ChangeLaws.{stands_changed, items_changed}
use Rattle.lowering.proofs.Levels.{below_object, below_leaf}
use Rattle.lowering.proofs.SiteViews.{only_here, none_here}
use Rattle.direct.proofs.MovedMade.{from_kept}

-- ---- what is made in a cell

pub cell_1 : (at : ℕ) → cell 1 at ≡ at
unfolding cell
cell_1 at = omega arith

cell_2 : (at : ℕ) → cell 2 at ≡ at + 1
unfolding cell
cell_2 at = refl

cell_3 : (at : ℕ) → cell 3 at ≡ at + 2
unfolding cell
cell_3 at = refl

cell_4 : (at : ℕ) → cell 4 at ≡ at
unfolding cell
cell_4 at = omega arith

pattern_shape : (p : Node) → is_pattern p ≡ false → Leaf p
unfolding is_pattern shape is
pattern_shape p h = go (eqb (kind p) 34) (eqb (kind p) 36) (eqb (kind p) 37) h
  where
    go : (a b c : Bool) → a || (b || c) ≡ false → cond a object_pattern (cond b array_pattern (cond c default leaf)) ≡ leaf
    go true b c e = absurd (true≢false e)
    go false true c e = absurd (true≢false e)
    go false false true e = absurd (true≢false e)
    go false false false e = refl

leaf_pattern : (p : Node) → Leaf p → is_pattern p ≡ false
unfolding is_pattern shape is
leaf_pattern p h = go (eqb (kind p) 34) (eqb (kind p) 36) (eqb (kind p) 37) h
  where
    go : (a b c : Bool) → cond a object_pattern (cond b array_pattern (cond c default leaf)) ≡ leaf → a || (b || c) ≡ false
    go true b c e = let z : ◌≡◌ {A = ℕ} 0 1 = cc in absurd (omega arith)
    go false true c e = let z : ◌≡◌ {A = ℕ} 0 1 = cc in absurd (omega arith)
    go false false true e = let z : ◌≡◌ {A = ℕ} 0 1 = cc in absurd (omega arith)
    go false false false e = refl

-- a pattern with an object rest below is one
rest_pattern : (p : Node) → has_object_rest p ≡ true → is_pattern p ≡ true
rest_pattern p h =
    by_test (is_pattern p) (λ e. e) (λ e. absurd (false≢true (sym (has_leaf (depth p) p (pattern_shape p e)) ∙ h)))

temporary_name : (path : List ℕ) (stem at : ℕ) → is_name_of (temporary path stem at) ≡ true
unfolding is_name_of is
temporary_name path stem at = refl

-- what is left of a target without rest has none
temporary_top : (path : List ℕ) (stem at : ℕ) → is_top (temporary path stem at) ≡ false
unfolding is_top is
temporary_top path stem at = refl

changed_top : (i : ℕ) (f : Piece → Piece) (n : Node) → is_top n ≡ false → is_top (change i f n) ≡ false
unfolding is_top
changed_top i f n h = ap₂ (λ (a b : Bool). a && b) (is_changed i f n 34) (rest_changed i f n) ∙ h

replaced_top : (c : Context) (d : ℕ) (p : Node) → is_top p ≡ false → is_top (replaced c d p) ≡ false
unfolding replaced
replaced_top c zero p h = h
replaced_top c (suc d) p h =
    by_shape (shape p)
    (λ e. rw (e, replaced)
    (by_test (has_rest_of p)
    (λ r. rw r (temporary_top c.path 1 (position p)))
    (λ r. rw r (changed_top 0 (on_items (each (λ q. change_node 1 (λ v. replaced c d v) q))) p h))))
    (λ e. rw (e, replaced) (changed_top 0 (on_items (each (λ v. replaced c d v))) p h))
    (λ e. rw (e, replaced) (changed_top 0 (on_node (λ v. replaced c d v)) p h))
    (λ e. rw (e, replaced) h)

moved_is : (q : Node) → is_moved q ≡ true → moved_from q ≡ moved (depth (node_at_of 0 q)) (node_at_of 0 q)
unfolding moved_from
moved_is q e = rw e refl

kind_changed : (i : ℕ) (f : Piece → Piece) (n : Node) → eqb (kind (change i f n)) 16 || eqb (kind (change i f n)) 2 ≡ eqb (kind n) 16 || eqb (kind n) 2
unfolding change
kind_changed i f (node at k fs) = refl

body_kind : (b : Node) → eqb (kind (as_function_body b)) 16 || eqb (kind (as_function_body b)) 2 ≡ true
unfolding is
body_kind b = rw (function_body_is b) refl

block_kind : (b : Node) → eqb (kind (as_block b)) 16 || eqb (kind (as_block b)) 2 ≡ true
unfolding is
block_kind b = let z : kind (as_block b) ≡ 2 = eqb-true (kind (as_block b)) 2 (block_is b) in ap (λ (k : ℕ). eqb k 16 || eqb k 2) z

-- what a rule says of the tests of the kind
abbrev Kinds : Rule → Bool → Bool → Bool → Bool → Bool → Bool → Type 0
Kinds literals d a f r c o = Unit {0}
Kinds declarations d a f r c o = d ≡ true
Kinds assignments d a f r c o = a ≡ true
Kinds functions d a f r c o = f ≡ true
Kinds arrows d a f r c o = r ≡ true
Kinds catches d a f r c o = c ≡ true
Kinds fors d a f r c o = o ≡ true
Kinds nowhere d a f r c o = Unit {0}

kinds : (k : ℕ) → Kinds (rule_of k) (eqb k 4) (eqb k 27) (eqb k 14) (eqb k 17) (eqb k 10) (eqb k 7 || eqb k 8)
unfolding rule_of
kinds k = go (eqb k 24) (eqb k 4) (eqb k 27) (eqb k 14) (eqb k 17) (eqb k 10) (eqb k 7 || eqb k 8)
  where
    go : (l d a f r c o : Bool)
        → Kinds (cond l literals (cond d declarations (cond a assignments (cond f functions (cond r arrows (cond c catches (cond o fors nowhere))))))) d a f r c o
    go true d a f r c o = tt
    go false true a f r c o = refl
    go false false true f r c o = refl
    go false false false true r c o = refl
    go false false false false true c o = refl
    go false false false false false true o = refl
    go false false false false false false true = refl
    go false false false false false false false = tt

kinds_at_lem : (k : ℕ) (r : Rule) → rule_of k ≡ r → Kinds r (eqb k 4) (eqb k 27) (eqb k 14) (eqb k 17) (eqb k 10) (eqb k 7 || eqb k 8)
kinds_at_lem k r e = rw e at (kinds k)

module _ (x : ℕ) where
  temporary_number : (path : List ℕ) (stem at : ℕ) → number (in_cell x) (only (temporary path stem at)) ≡ here x (cell stem at)
  unfolding number here cell_of number_at piece_in
  temporary_number path stem at = omega arith

  parts_none : (fs : Fields) → NoParts fs → pot_fields x fs ≡ 0
  unfolding pot
  parts_none Fields.done h = refl
  parts_none (Fields.absent fs) h = parts_none fs h
  parts_none (Fields.field (Piece.one n) fs) h = absurd h.0
  parts_none (Fields.field (Piece.list is) fs) h = absurd h.0
  parts_none (Fields.field (Piece.text bs) fs) h = let r = parts_none fs h.1 in omega arith
  parts_none (Fields.field (Piece.byte b) fs) h = let r = parts_none fs h.1 in omega arith
  parts_none (Fields.field (Piece.mark b) fs) h = let r = parts_none fs h.1 in omega arith
  parts_none (Fields.field (Piece.number b) fs) h = let r = parts_none fs h.1 in omega arith

  -- a name makes nothing
  name_pot : (e : Node) → Good e → is_name_of e ≡ true → pot x e ≡ 0
  unfolding is_name_of is pot own
  name_pot (node at k fs) g n =
      by_test (eqb k 18)
      (λ t.
      let z : k ≡ 18 = eqb-true k 18 t in
      let y = parts_none fs (g.0.reference t) in
      ap (λ (m : ℕ). own x at m fs + pot_fields x fs) z ∙ omega arith)
      (λ t.
      let u : eqb k 20 ≡ true = rw t at n in
      let z : k ≡ 20 = eqb-true k 20 u in
      let y = parts_none fs (named_parts fs (g.0.temporary u)) in
      ap (λ (m : ℕ). own x at m fs + pot_fields x fs) z ∙ omega arith)

  slot_value_leaf : (p : Node) → Leaf p → slot_value x p ≡ 0
  unfolding slot_value
  slot_value_leaf p e = rw (leaf_pattern p e) refl

  slot_value_is : (p : Node) → is_pattern p ≡ true → slot_value x p ≡ here x (position p + 2)
  unfolding slot_value
  slot_value_is p e = rw e refl

  slot_top_is : (p : Node) → is_top p ≡ true → slot_top x p ≡ here x (position p + 2)
  unfolding slot_top
  slot_top_is p e = rw e refl

  slot_top_not : (p : Node) → is_top p ≡ false → slot_top x p ≡ 0
  unfolding slot_top
  slot_top_not p e = rw e refl

  -- ---- nodes that the rules make

  object_pot : (ps : Items) → pot x (object ps) ≡ pot_items x ps
  unfolding pot own
  object_pot ps = omega arith

  array_pot : (xs : Items) → pot x (array xs) ≡ pot_items x xs
  unfolding pot own
  array_pot xs = omega arith

  S-pot : (xs : Items) → pot x (S xs) ≡ pot_items x xs
  unfolding pot own
  S-pot xs = omega arith

  mapped_pot : (n : Node) → pot x (mapped n) ≡ pot x n
  unfolding mapped pot own
  mapped_pot n = omega arith

  X-pot : (s : Node) → pot x s ≡ 0 → pot x (X (object Items.none) (sequence (Items.item (E s) (only s)))) ≡ 0
  unfolding pot own
  X-pot s z = omega arith

  W-pot : (a b : Node) → pot x (W a b) ≡ pot x a + pot x b
  unfolding pot own
  W-pot a b = omega arith

  assign_pot : (l r : Node) → pot x (assign l r) ≡ slot_top x l + (pot x l + pot x r)
  unfolding pot own piece_in
  assign_pot l r = omega arith

  declares_pot : (i v : Node) → pot x (declares i v) ≡ cond (is_name_of v) 0 (slot_value x i) + (pot x i + pot x v)
  unfolding pot own piece_in stands_in declaring
  declares_pot i v = omega arith

  declares_name : (i v : Node) → is_name_of v ≡ true → pot x (declares i v) ≡ pot x i + pot x v
  declares_name i v e = let d : pot x (declares i v) ≡ 0 + (pot x i + pot x v) = rw e at (declares_pot i v) in omega arith

  declares_leaf : (i v : Node) → Leaf i → pot x (declares i v) ≡ pot x i + pot x v
  declares_leaf i v e = let d = declares_pot i v in let z = slot_value_leaf i e in go (is_name_of v) d z
    where
      go : (b : Bool) → pot x (declares i v) ≡ cond b 0 (slot_value x i) + (pot x i + pot x v) → slot_value x i ≡ 0 → pot x (declares i v) ≡ pot x i + pot x v
      go true d z = omega arith
      go false d z = omega arith

  let_pot : (i v : Node) → is_name_of v ≡ true → pot x v ≡ 0 → pot x (let_of i v) ≡ pot x i
  unfolding pot own piece_in stands_in declaring aliens is
  let_pot i v e z = rw e (omega arith)

  var_pot : (path : List ℕ) (stem at : ℕ) → pot x (var_of (temporary path stem at)) ≡ 0
  unfolding pot own piece_in stands_in declaring aliens is
  var_pot path stem at = refl

  assigning_pot : (l r : Node) → pot x (assigning l r) ≡ slot_top x l + (pot x l + pot x r)
  unfolding pot own piece_in
  assigning_pot l r = omega arith

  returned_pot : (b : Node) → pot x (function_body (only (returning b))) ≡ pot x b
  unfolding pot own
  returned_pot b = omega arith

  block_pot : (is : Items) → pot x (block is) ≡ pot_items x is
  unfolding pot own
  block_pot is = omega arith

  -- ---- what fits beside something that is made

  abbrev Fit : ℕ → ℕ → Node → Type 0
  Fit a b m = a + pot x m ≤ b

  fit_items : (a b : ℕ) (is : Items) → a + pot_items x is ≤ b → AllItems (Fit a b) is
  unfolding pot
  fit_items a b Items.none h = tt
  fit_items a b (Items.hole is) h = fit_items a b is h
  fit_items a b (Items.item n is) h = (omega arith, fit_items a b is (omega arith))

  fit_piece : (a b : ℕ) (p : Piece) → a + pot_piece x p ≤ b → AllPiece (Fit a b) p
  unfolding pot
  fit_piece a b (Piece.one n) h = h
  fit_piece a b (Piece.list is) h = fit_items a b is h
  fit_piece a b (Piece.text bs) h = tt
  fit_piece a b (Piece.byte v) h = tt
  fit_piece a b (Piece.mark v) h = tt
  fit_piece a b (Piece.number v) h = tt

  fit_fields : (a b : ℕ) (fs : Fields) → a + pot_fields x fs ≤ b → AllFields (Fit a b) fs
  unfolding pot
  fit_fields a b Fields.done h = tt
  fit_fields a b (Fields.absent fs) h = fit_fields a b fs h
  fit_fields a b (Fields.field p fs) h = (fit_piece a b p (omega arith), fit_fields a b fs (omega arith))

  fit_each : (a b : ℕ) (n : Node) → a + inner x n ≤ b → Each (Fit a b) n
  unfolding inner
  fit_each a b (node at k fs) h = fit_fields a b fs h

  fit_more : (a b a' b' : ℕ) → a' + b ≤ b' + a → (is : Items) → AllItems (Fit a b) is → AllItems (Fit a' b') is
  fit_more a b a' b' l is h = weaker_items (Fit a b) (Fit a' b') (λ m k. omega arith) is h

  -- one field changed: the others have room for what is made
  one_kept : (a b : ℕ) (fs : Fields) (i : ℕ) (g : Piece → Piece) → a + pot_fields x fs ≤ b + pot_piece x (piece_in fs i) → AllPiece (Fit a b) (g (piece_in fs i)) → AllFields (Fit a b) (change_in fs i g)
  unfolding change_in piece_in pot
  one_kept a b Fields.done i g h k = tt
  one_kept a b (Fields.absent fs) zero g h k = fit_fields a b fs (omega arith)
  one_kept a b (Fields.absent fs) (suc i) g h k = one_kept a b fs i g h k
  one_kept a b (Fields.field p fs) zero g h k = (k, fit_fields a b fs (omega arith))
  one_kept a b (Fields.field p fs) (suc i) g h k = let q = piece_in_lem x fs i in (fit_piece a b p (omega arith), one_kept a b fs i g (omega arith) k)

  -- two fields changed
  two_kept : (a b : ℕ) (fs : Fields) (i j : ℕ) (f g : Piece → Piece) → i < j → a + pot_fields x fs ≤ b + (pot_piece x (piece_in fs i) + pot_piece x (piece_in fs j))
      → AllPiece (Fit a b) (f (piece_in fs i)) → AllPiece (Fit a b) (g (piece_in fs j)) → AllFields (Fit a b) (change_in (change_in fs i f) j g)
  unfolding change_in piece_in pot
  two_kept a b Fields.done i j f g l h k m = tt
  two_kept a b (Fields.absent fs) zero zero f g l h k m = absurd (omega arith)
  two_kept a b (Fields.absent fs) zero (suc j) f g l h k m = one_kept a b fs j g (omega arith) m
  two_kept a b (Fields.absent fs) (suc i) zero f g l h k m = absurd (omega arith)
  two_kept a b (Fields.absent fs) (suc i) (suc j) f g l h k m = two_kept a b fs i j f g (omega arith) h k m
  two_kept a b (Fields.field p fs) zero zero f g l h k m = absurd (omega arith)
  two_kept a b (Fields.field p fs) zero (suc j) f g l h k m = (k, one_kept a b fs j g (omega arith) m)
  two_kept a b (Fields.field p fs) (suc i) zero f g l h k m = absurd (omega arith)
  two_kept a b (Fields.field p fs) (suc i) (suc j) f g l h k m =
      let q = two_pieces x fs i j (omega arith) in (fit_piece a b p (omega arith), two_kept a b fs i j f g (omega arith) (omega arith) k m)

  -- ---- literals

  abbrev call_pot : Call → ℕ
  call_pot Call.no_call = 0
  call_pot (Call.call c) = pot x c

  opened_pot : (c : Call) (ps : Items) → pot_items x (opened c ps) ≤ call_pot c + pot_items x ps
  unfolding opened pot
  opened_pot Call.no_call ps = let o = object_pot ps in omega arith
  opened_pot (Call.call c) Items.none = omega arith
  opened_pot (Call.call c) (Items.hole ps) = omega arith
  opened_pot (Call.call c) (Items.item p ps) = let o = object_pot (Items.item p ps) in let z = object_pot Items.none in omega arith

  closed_pot : (c : Call) (ps : Items) → pot x (closed c ps) ≤ call_pot c + pot_items x ps
  unfolding closed
  closed_pot Call.no_call ps = let o = object_pot ps in omega arith
  closed_pot (Call.call c) Items.none = omega arith
  closed_pot (Call.call c) (Items.hole ps) = omega arith
  closed_pot (Call.call c) (Items.item p ps) =
      let s = S-pot (opened (Call.call c) (Items.item p ps)) in let o = opened_pot (Call.call c) (Items.item p ps) in omega arith

  scan_pot : (c : Call) (pending ps : Items) → pot x (scan c pending ps) ≤ call_pot c + pot_items x pending + pot_items x ps
  unfolding scan pot
  scan_pot c pending Items.none = let o = closed_pot c pending in omega arith
  scan_pot c pending (Items.hole ps) = scan_pot c pending ps
  scan_pot c pending (Items.item p ps) =
      by_test (is 26 p)
      (λ e. rw (e, scan)
      (let xs = opened c pending +++ only (node_at_of 0 p) in
      let r = scan_pot (Call.call (S xs)) Items.none ps in
      let s = S-pot xs in
      let a = pot_append x (opened c pending) (only (node_at_of 0 p)) in
      let o = opened_pot c pending in
      let k = only_pot x (node_at_of 0 p) in
      let n = node_in x 0 p in
      let i = inner_in x p in
      omega arith))
      (λ e. rw (e, scan)
      (let r = scan_pot c (pending +++ only p) ps in
      let a = pot_append x pending (only p) in
      let k = only_pot x p in
      omega arith))

  literal_pot : (n : Node) → pot x (literal n) ≤ pot x n
  unfolding literal
  literal_pot n =
      let i = items_in_lem x 0 n in
      let o = inner_in x n in
      let z = none_pot x in
      by_test (any (λ p. is 26 p) (items_at_of 0 n))
      (λ e. rw e (let s = scan_pot Call.no_call Items.none (items_at_of 0 n) in omega arith))
      (λ e. rw e (omega arith))

  only_number : (t : Node) → number (in_cell x) (only t) ≡ cond (in_cell x t) 1 0
  unfolding number
  only_number t = omega arith

  no_ids : number (in_cell x) (each id_of Items.none) ≡ 0
  unfolding each number
  no_ids = refl

  -- the fields of a node
  inner_is : (at k : ℕ) (fs : Fields) → pot_fields x fs ≤ pot x (node at k fs)
  unfolding pot
  inner_is at k fs = omega arith

  items_at_two : (at k : ℕ) (fs : Fields) → aliens x (items_at_of 2 (node at k fs)) ≡ aliens x (as_items_of (piece_in fs 2))
  unfolding items_at_of
  items_at_two at k fs = refl

  items_good_at : (i at k : ℕ) (fs : Fields) → Good (node at k fs) → GoodItems (as_items_of (piece_in fs i))
  unfolding items_at_of
  items_good_at i at k fs g = items_good i (node at k fs) g

  node_good_at : (i at k : ℕ) (fs : Fields) → Good (node at k fs) → Good (as_node (piece_in fs i))
  unfolding node_at_of
  node_good_at i at k fs g = node_good i (node at k fs) g

  module _ (c : Context) where
    -- ---- what is made

    refs_number : (ps : Items) → number (in_cell x) (each (λ p. reference c p) ps) ≡ here_items x ps
    unfolding each number here_items
    refs_number Items.none = refl
    refs_number (Items.hole ps) = refs_number ps
    refs_number (Items.item p ps) =
        let h = refs_number ps in
        let t = temporary_number c.path 1 (position p) in
        let e = ap (here x) (cell_1 (position p)) in
        let o = only_number (reference c p) in
        omega arith

    key_number_lem : (q : Node) → number (in_cell x) (each id_of (key_temporary c q)) ≤ here x (position q)
    unfolding key_temporary each node_at_of piece_in
    key_number_lem q =
        let z = number_none (in_cell x) in
        by_key (key_sort (key q))
        (λ e. rw (e, key_temporary) (omega arith))
        (λ e. rw (e, key_temporary) (omega arith))
        (λ e. rw (e, key_temporary) (omega arith))
        (λ e. rw (e, key_temporary) (omega arith))
        (λ e. rw (e, key_temporary) (omega arith))
        (λ e. rw (e, key_temporary) (let t = temporary_number c.path 4 (position q) in let k = ap (here x) (cell_4 (position q)) in omega arith))

    ids_number : (f : Node → Items) → ((n : Node) → number (in_cell x) (each id_of (f n)) ≤ here x (position n)) → (is : Items) → number (in_cell x) (each id_of (gather f is)) ≤ here_items x is
    unfolding gather here_items
    ids_number f h Items.none = let z = no_ids in omega arith
    ids_number f h (Items.hole is) = ids_number f h is
    ids_number f h (Items.item n is) =
        let k = h n in
        let r = ids_number f h is in
        let e = ap (number (in_cell x)) (each_append id_of (f n) (gather f is)) in
        let s = number_append (in_cell x) (each id_of (f n)) (each id_of (gather f is)) in
        omega arith

    keys_number : (p : Node) → number (in_cell x) (each id_of (key_temporaries c p)) ≤ here_items x (properties p)
    unfolding key_temporaries
    keys_number p = ids_number (key_temporary c) key_number_lem (properties p)

    excluded_number : (p : Node) → number (in_cell x) (each id_of (excluded_for c p)) ≤ here x (position p + 1)
    unfolding excluded_for each node_at_of piece_in
    excluded_number p =
        by_test (is_hoisted c p)
        (λ e. rw e (let t = temporary_number c.path 2 (position p) in let k = ap (here x) (cell_2 (position p)) in omega arith))
        (λ e. rw e (let z = number_none (in_cell x) in omega arith))

    resting_is : (p : Node) → resting x (position p) true (properties p) ≡ here x (position p + 1) + here_items x (properties p)
    unfolding resting
    resting_is p = refl

    rest_number : (p : Node) → number (in_cell x) (rest_makes c p) ≤ resting x (position p) true (properties p)
    unfolding rest_makes
    rest_number p =
        let k = keys_number p in
        let e = excluded_number p in
        let s = number_append (in_cell x) (each id_of (key_temporaries c p)) (each id_of (excluded_for c p)) in
        let r = resting_is p in
        omega arith

    rests_number : (ps : Items) → number (in_cell x) (gather (rest_makes c) ps) ≤ restings x c ps
    unfolding gather restings
    rests_number Items.none = let z = number_none (in_cell x) in omega arith
    rests_number (Items.hole ps) = rests_number ps
    rests_number (Items.item p ps) =
        let h = rests_number ps in let k = rest_number p in let s = number_append (in_cell x) (rest_makes c p) (gather (rest_makes c) ps) in omega arith

    -- ---- the value of a rest, read from a source that makes nothing

    keys_read_pot : (p : Node) → pot x (keys_read c p) ≤ pot_items x (excluded_keys c p)
    unfolding keys_read
    keys_read_pot p =
        let a = array_pot (excluded_keys c p) in
        let m = mapped_pot (array (excluded_keys c p)) in
        let t = temporary_pot x c.path 2 (position p) in
        by_test (is_hoisted c p)
        (λ e. rw e (omega arith))
        (λ e. rw e (by_test (all_primitive p) (λ f. rw f (omega arith)) (λ f. rw f (omega arith))))

    rest_value_pot : (p s : Node) → pot x s ≡ 0 → pot x (rest_value c p s) ≤ pot_items x (excluded_keys c p)
    unfolding rest_value
    rest_value_pot p s z =
        let k = keys_read_pot p in
        let y = X-pot s z in
        let w = W-pot s (keys_read c p) in
        by_test (has_no_properties p) (λ e. rw e (omega arith)) (λ e. rw e (omega arith))

    -- ---- one object pattern with rest, taken apart

    abbrev taking : Node → ℕ
    taking o = resting x (position o) true (properties o)

    object_pot_is : (o : Node) → is 34 o ≡ true → has_rest_of o ≡ true → pot x o ≡ slot_values x (properties o) + taking o + inner x o
    object_pot_is o e r = pot_34 x o e ∙ ap (λ (b : Bool). slot_values x (properties o) + resting x (position o) b (properties o) + inner x o) r

    key_temporary_fit : (b : ℕ) (q : Node) → pot x q ≤ b → AllItems (λ m. pot x m ≤ b) (key_temporary c q)
    unfolding key_temporary
    key_temporary_fit b q h =
        let n = node_in x 0 q in
        let i = inner_in x q in
        by_key (key_sort (key q))
        (λ e. rw (e, key_temporary, AllItems) tt)
        (λ e. rw (e, key_temporary, AllItems) tt)
        (λ e. rw (e, key_temporary, AllItems) tt)
        (λ e. rw (e, key_temporary, AllItems) tt)
        (λ e. rw (e, key_temporary, AllItems) tt)
        (λ e. rw (e, key_temporary, AllItems)
        (let d = declares_leaf (key_of c q) (key q) (temporary_leaf c.path 4 (position q)) in let t = temporary_pot x c.path 4 (position q) in (omega arith, tt)))

    keys_before_fit : (o : Node) → is 34 o ≡ true → has_rest_of o ≡ true → AllItems (Fit (taking o) (pot x o)) (keys_before c o)
    unfolding keys_before key_temporaries
    keys_before_fit o e r =
        let a = object_pot_is o e r in
        let i = items_in_lem x 0 o in
        rw (r, AllItems)
        (weaker_items (λ m. pot x m ≤ inner x o) (Fit (taking o) (pot x o)) (λ m k. omega arith) (gather (key_temporary c) (properties o))
        (all_gather (λ q. pot x q ≤ inner x o) (λ m. pot x m ≤ inner x o) (key_temporary c) (λ q k. key_temporary_fit (inner x o) q k) (properties o) (each_item x (inner x o) (properties o) i)))

    pattern_fit : (o s : Node) → is 34 o ≡ true → Good o → has_rest_of o ≡ true → is_name_of s ≡ true → pot x s ≡ 0 → AllItems (Fit (taking o) (pot x o)) (pattern_declarator c o s)
    unfolding pattern_declarator
    pattern_fit o s e g r n z =
        by_test (has_no_properties o)
        (λ h. rw (h, AllItems) tt)
        (λ h. rw (h, AllItems)
        (let t = taken_sum x c o e (properties_35 o e g) r in let d = declares_name (taken c o) s n in (omega arith, tt)))

    rest_fit : (o s : Node) → is 34 o ≡ true → Good o → has_rest_of o ≡ true → pot x s ≡ 0 → AllItems (Fit (taking o) (pot x o)) (rest_declarator c o s)
    unfolding rest_declarator
    rest_fit o s e g r z =
        let a = object_pot_is o e r in
        let i = items_and_node x 0 1 (omega arith) o in
        let k = excluded_keys_pot x c o in
        let v = rest_value_pot o s z in
        let d = declares_leaf (rest o) (rest_value c o s) (rest_leaf o e g) in
        rw (r, AllItems) (omega arith, tt)

    own_fit : (o s : Node) → is 34 o ≡ true → Good o → has_rest_of o ≡ true → is_name_of s ≡ true → pot x s ≡ 0 → AllItems (Fit (taking o) (pot x o)) (Declarations.own c o s)
    unfolding Declarations.own
    own_fit o s e g r n z =
        all_append (Fit (taking o) (pot x o)) (keys_before c o) (pattern_declarator c o s +++ rest_declarator c o s) (keys_before_fit o e r)
        (all_append (Fit (taking o) (pot x o)) (pattern_declarator c o s) (rest_declarator c o s) (pattern_fit o s e g r n z) (rest_fit o s e g r z))

    -- ---- what is found below

    abbrev cost : Items → ℕ
    cost os = here_items x os + restings x c os

    here_append : (is js : Items) → here_items x (is +++ js) ≡ here_items x is + here_items x js
    unfolding here_items ◌+++◌
    here_append Items.none js = omega arith
    here_append (Items.hole is) js = here_append is js
    here_append (Items.item n is) js = let h = here_append is js in omega arith

    cost_append : (is js : Items) → cost (is +++ js) ≡ cost is + cost js
    cost_append is js = let a = here_append is js in let b = restings_append x c is js in omega arith

    cost_none : cost Items.none ≡ 0
    cost_none = let a = none_here x in let b = restings_none x c in omega arith

    whole_cost : (o : Node) → is_top o ≡ true → here x (position o) + here x (position o + 2) + pot x o ≡ whole x o
    whole_cost o t = let s = slot_34 x o (top_34 o t) in omega arith

    cost_less : (os : Items) → AllItems (λ o. is_top o ≡ true) os → cost os ≤ wholes x os
    unfolding here_items restings wholes
    cost_less Items.none h = omega arith
    cost_less (Items.hole os) h = cost_less os h
    cost_less (Items.item o os) h =
        let r = cost_less os h.1 in
        let w = whole_cost o h.0 in
        let p = object_pot_is o (top_34 o h.0) (top-rest' o h.0) in
        omega arith

    objects_cost : (d : ℕ) (p : Node) → cost (objects_with_rest c d p) ≤ wholes x (objects_with_rest c d p)
    objects_cost d p = cost_less (objects_with_rest c d p) (objects_top c d p)

    abbrev Costs : Items → Node → Type 0
    Costs os m = cost os + pot x m ≤ wholes x os

    gather_cost : (h : Node → Items) → ((n : Node) → cost (h n) ≤ wholes x (h n)) → (is : Items) → cost (gather h is) ≤ wholes x (gather h is)
    unfolding gather
    gather_cost h l Items.none = let z = cost_none in omega arith
    gather_cost h l (Items.hole is) = gather_cost h l is
    gather_cost h l (Items.item n is) =
        let a = cost_append (h n) (gather h is) in let b = wholes_append x (h n) (gather h is) in let u = l n in let v = gather_cost h l is in omega arith

    fit_gather : (h g : Node → Items) → ((n : Node) → cost (h n) ≤ wholes x (h n)) → ((n : Node) → Good n → AllItems (Costs (h n)) (g n)) → (is : Items) → AllItems Good is
        → AllItems (Costs (gather h is)) (gather g is)
    unfolding gather
    fit_gather h g l f Items.none k = tt
    fit_gather h g l f (Items.hole is) k = fit_gather h g l f is k
    fit_gather h g l f (Items.item n is) k =
        let a = cost_append (h n) (gather h is) in
        let b = wholes_append x (h n) (gather h is) in
        let u = l n in
        let v = gather_cost h l is in
        all_append (Costs (h n +++ gather h is)) (g n) (gather g is)
        (weaker_items (Costs (h n)) (Costs (h n +++ gather h is)) (λ m z. omega arith) (g n) (f n k.0))
        (weaker_items (Costs (gather h is)) (Costs (h n +++ gather h is)) (λ m z. omega arith) (gather g is) (fit_gather h g l f is k.1))

    -- an object in its place: own declarators read from the temporary there
    own_costs : (o s : Node) → is_top o ≡ true → Good o → is_name_of s ≡ true → pot x s ≡ 0 → AllItems (Costs (only o)) (Declarations.own c o s)
    own_costs o s t g n z =
        let w = whole_cost o t in
        let a = only_here x o in
        let b = only_restings x c o in
        let d = only_wholes x o in
        weaker_items (Fit (taking o) (pot x o)) (Costs (only o)) (λ m k. omega arith) (Declarations.own c o s) (own_fit o s (top_34 o t) g (top-rest' o t) n z)

    nested_fit : (d : ℕ) (p : Node) → Good p → AllItems (Costs (objects_with_rest c d p)) (nested c d p)
    unfolding nested
    nested_fit zero p g = tt
    nested_fit (suc d) p g =
        let f : Node → Node = λ v. replaced c d v in
        let h : Node → Items = λ q. objects_with_rest c d (value q) in
        by_shape (shape p)
        (λ e. rw (e, nested, AllItems)
        (let found = gather h (properties p) in
        let o = with_values f p in
        let os = found +++ cond (has_rest_of p) (only o) Items.none in
        let l = gather_cost h (λ q. objects_cost d (value q)) (properties p) in
        let inside = fit_gather h (λ q. nested c d (value q)) (λ q. objects_cost d (value q)) (λ q k. nested_fit d (value q) (node_good 1 q k)) (properties p) (to_all (properties p) (items_good 0 p g)) in
        subst (λ (ys : Items). AllItems (Costs ys) (cond (has_rest_of p) (Declarations.own c o (reference c p)) Items.none +++ gather (λ q. nested c d (value q)) (properties p))) (sym (objects_object c d p e))
        (by_test (has_rest_of p)
        (λ r. rw r
        (let t : is_top o ≡ true = values_top f p (object_is p e) r in
        let a = cost_append found (only o) in
        let b = wholes_append x found (only o) in
        let w = cost_less (only o) (t, tt) in
        all_append (Costs (found +++ only o)) (Declarations.own c o (reference c p)) (gather (λ q. nested c d (value q)) (properties p))
        (weaker_items (Costs (only o)) (Costs (found +++ only o)) (λ m k. omega arith) (Declarations.own c o (reference c p))
        (own_costs o (reference c p) t (values_good c d p g) (temporary_name c.path 1 (position p)) (temporary_pot x c.path 1 (position p))))
        (weaker_items (Costs found) (Costs (found +++ only o)) (λ m k. omega arith) (gather (λ q. nested c d (value q)) (properties p)) inside)))
        (λ r. rw r
        (let a = cost_append found Items.none in
        let b = wholes_append x found Items.none in
        let y = cost_none in
        let z = none_wholes x in
        all_append (Costs (found +++ Items.none)) Items.none (gather (λ q. nested c d (value q)) (properties p)) tt
        (weaker_items (Costs found) (Costs (found +++ Items.none)) (λ m k. omega arith) (gather (λ q. nested c d (value q)) (properties p)) inside))))))
        (λ e. rw (e, nested, AllItems)
        (subst (λ (ys : Items). AllItems (Costs ys) (gather (λ q. nested c d q) (items_of p))) (sym (objects_array c d p e))
        (fit_gather (λ q. objects_with_rest c d q) (λ q. nested c d q) (λ q. objects_cost d q) (λ q k. nested_fit d q k) (items_of p) (to_all (items_of p) (items_good 0 p g)))))
        (λ e. rw (e, nested, AllItems)
        (subst (λ (ys : Items). AllItems (Costs ys) (nested c d (left_of p))) (sym (objects_default c d p e)) (nested_fit d (left_of p) (node_good 0 p g))))
        (λ e. rw (e, nested, AllItems) tt)

    -- ---- the declarators of a pattern

    -- what is made for p beside the temporary of its value
    abbrev wanted : Node → ℕ
    wanted p = number (in_cell x) (each (λ o. reference c o) (inner_objects c p)) + number (in_cell x) (gather (rest_makes c) (objects_below c p))

    -- both, for a pattern
    record Apart (p s : Node) : Type 0 where
      makes : wanted p ≤ pot x p
      leaves : AllItems (Fit (wanted p) (pot x p)) (pattern_declarators c p s)

    inner_leaf : (p : Node) → shape p ≡ leaf → inner_objects c p ≡ Items.none
    unfolding inner_objects
    inner_leaf p e = rw (e, inner_objects)

    not_top : (p : Node) → is 36 p ≡ true → is_top p ≡ false
    unfolding is_top is
    not_top p e = let z : kind p ≡ 36 = eqb-true (kind p) 36 e in ap (λ (y : ℕ). eqb y 34 && has_rest_of p) z

    array_apart : (p s : Node) → shape p ≡ array_pattern → Good p → is_name_of s ≡ true → pot x s ≡ 0 → Apart p s
    unfolding pattern_declarators
    array_apart p s e g n z =
        let os = objects_below c p in
        let u = ap (λ (ys : Items). number (in_cell x) (each (λ o. reference c o) ys)) (inner_array c p e) ∙ refs_number os in
        let v = rests_number os in
        let t = targets_sum x c (depth p) p (not_top p (array_is p e)) g in
        let l = objects_cost (depth p) p in
        let d = declares_name (replaced_below c p) s n in
        record {
          makes = omega arith;
          leaves = rw (e, AllItems)
              (all_append (Fit (wanted p) (pot x p)) (only (declares (replaced_below c p) s)) (nested_below c p) (omega arith, tt)
              (weaker_items (Costs os) (Fit (wanted p) (pot x p)) (λ m k. omega arith) (nested_below c p) (nested_fit (depth p) p g)));
        }

    -- the value of each property of p, and p with its values replaced
    below_sum : (p : Node) → is 34 p ≡ true → Good p → wholes x (gather (λ q. objects_below c (value q)) (properties p)) + pot x (with_values (λ v. replaced_below c v) p) ≤ pot x p
    below_sum p e g =
        let h : Node → Items = λ v. objects_below c v in
        let s = object_sum x (wholes x) (nil x) (wholes_sum x) (nil_sum x) h (λ v. replaced_below c v)
        (λ v k. let o = objects_sum x c (depth v) v k in let z = nil_is x (objects_below c v) in omega arith) p e g in
        let z = nil_is x (gather (λ q. h (value q)) (properties p)) in
        omega arith

    below_fit : (p : Node) → Good p → AllItems (Costs (gather (λ q. objects_below c (value q)) (properties p))) (gather (λ q. nested_below c (value q)) (properties p))
    below_fit p g =
        fit_gather (λ q. objects_below c (value q)) (λ q. nested_below c (value q)) (λ q. objects_cost (depth (value q)) (value q)) (λ q k. nested_fit (depth (value q)) (value q) (node_good 1 q k)) (properties p)
        (to_all (properties p) (items_good 0 p g))

    no_keys : (q : Node) → has_rest_of q ≡ false → (a b : ℕ) → AllItems (Fit a b) (keys_before c q)
    unfolding keys_before
    no_keys q r a b = rw (r, AllItems) tt

    no_rest : (q s : Node) → has_rest_of q ≡ false → (a b : ℕ) → AllItems (Fit a b) (rest_declarator c q s)
    unfolding rest_declarator
    no_rest q s r a b = rw (r, AllItems) tt

    kept_pattern : (q s : Node) → has_rest_of q ≡ false → is_name_of s ≡ true → pot x s ≡ 0 → (a b : ℕ) → a + pot x q ≤ b → AllItems (Fit a b) (pattern_declarator c q s)
    unfolding pattern_declarator
    kept_pattern q s r n z a b h =
        by_test (has_no_properties q)
        (λ e. rw (e, AllItems) tt)
        (λ e. rw (e, AllItems)
        (let t = ap (pot x) (taken_none c q r) in let d = declares_name (taken c q) s n in (omega arith, tt)))

    object_apart : (p s : Node) → shape p ≡ object_pattern → Good p → is_name_of s ≡ true → pot x s ≡ 0 → Apart p s
    unfolding pattern_declarators object_declarators
    object_apart p s e g n z =
        let q = with_values (λ v. replaced_below c v) p in
        let found = gather (λ r. objects_below c (value r)) (properties p) in
        let ns = gather (λ r. nested_below c (value r)) (properties p) in
        let e34 = object_is p e in
        let q34 : is 34 q ≡ true = is_changed 0 (on_items (each (λ r. change_node 1 (λ v. replaced_below c v) r))) p 34 ∙ e34 in
        let qg = below_good c p g in
        let u = ap (λ (ys : Items). number (in_cell x) (each (λ o. reference c o) ys)) (inner_object c p e) ∙ refs_number found in
        let b = below_sum p e34 g in
        let l = gather_cost (λ r. objects_below c (value r)) (λ r. objects_cost (depth (value r)) (value r)) (properties p) in
        let inside = below_fit p g in
        by_test (has_rest_of p)
        (λ r.
        let qr : has_rest_of q ≡ true = values_rest (λ v. replaced_below c v) p ∙ r in
        let m : objects_below c p ≡ found +++ only q = below_object c p e ∙ ap (λ (b : Bool). found +++ cond b (only q) Items.none) r in
        let v = ap (λ (ys : Items). number (in_cell x) (gather (rest_makes c) ys)) m in
        let w = rests_number (found +++ only q) in
        let y = restings_append x c found (only q) in
        let o = only_restings x c q in
        let a = object_pot_is q q34 qr in
        let own_part : (is : Items) → AllItems (Fit (taking q) (pot x q)) is → AllItems (Fit (wanted p) (pot x p)) is =
        λ is h. weaker_items (Fit (taking q) (pot x q)) (Fit (wanted p) (pot x p)) (λ k j. omega arith) is h in
        record {
          makes = omega arith;
          leaves = rw (e, AllItems)
              (all_append (Fit (wanted p) (pot x p)) (keys_before c q) (pattern_declarator c q s +++ ns +++ rest_declarator c q s) (own_part (keys_before c q) (keys_before_fit q q34 qr))
              (all_append (Fit (wanted p) (pot x p)) (pattern_declarator c q s) (ns +++ rest_declarator c q s) (own_part (pattern_declarator c q s) (pattern_fit q s q34 qg qr n z))
              (all_append (Fit (wanted p) (pot x p)) ns (rest_declarator c q s)
              (weaker_items (Costs found) (Fit (wanted p) (pot x p)) (λ k j. omega arith) ns inside)
              (own_part (rest_declarator c q s) (rest_fit q s q34 qg qr z)))));
        })
        (λ r.
        let qr : has_rest_of q ≡ false = values_rest (λ v. replaced_below c v) p ∙ r in
        let m : objects_below c p ≡ found +++ Items.none = below_object c p e ∙ ap (λ (b : Bool). found +++ cond b (only q) Items.none) r in
        let v = ap (λ (ys : Items). number (in_cell x) (gather (rest_makes c) ys)) m in
        let w = rests_number (found +++ Items.none) in
        let y = restings_append x c found Items.none in
        let o = restings_none x c in
        record {
          makes = omega arith;
          leaves = rw (e, AllItems)
              (all_append (Fit (wanted p) (pot x p)) (keys_before c q) (pattern_declarator c q s +++ ns +++ rest_declarator c q s) (no_keys q qr (wanted p) (pot x p))
              (all_append (Fit (wanted p) (pot x p)) (pattern_declarator c q s) (ns +++ rest_declarator c q s) (kept_pattern q s qr n z (wanted p) (pot x p) (omega arith))
              (all_append (Fit (wanted p) (pot x p)) ns (rest_declarator c q s)
              (weaker_items (Costs found) (Fit (wanted p) (pot x p)) (λ k j. omega arith) ns inside)
              (no_rest q s qr (wanted p) (pot x p)))));
        })

    leaf_apart : (p s : Node) → shape p ≡ leaf → Apart p s
    unfolding pattern_declarators
    leaf_apart p s e =
        let u = ap (λ (ys : Items). number (in_cell x) (each (λ o. reference c o) ys)) (inner_leaf p e) ∙ refs_number Items.none in
        let h = none_here x in
        let v = ap (λ (ys : Items). number (in_cell x) (gather (rest_makes c) ys)) (below_leaf c p e) in
        let w = rests_number Items.none in
        let y = restings_none x c in
        record { makes = omega arith; leaves = rw (e, AllItems) tt }

    pattern_apart : (p s : Node) → NotDefault p → Good p → is_name_of s ≡ true → pot x s ≡ 0 → Apart p s
    pattern_apart p s d g n z =
        by_shape (shape p)
        (λ e. object_apart p s e g n z)
        (λ e. array_apart p s e g n z)
        (λ e. absurd (true≢false (sym (default_is p e) ∙ d)))
        (λ e. leaf_apart p s e)

    -- ---- a declarator

    source_name : (p init : Node) → is_name_of (source c p init) ≡ true
    unfolding source
    source_name p init = by_test (is_name_of init) (λ e. rw e e) (λ e. rw e (temporary_name c.path 3 (position p)))

    source_pot : (p init : Node) → Good init → pot x (source c p init) ≡ 0
    unfolding source
    source_pot p init g = by_test (is_name_of init) (λ e. rw e (name_pot init g e)) (λ e. rw e (temporary_pot x c.path 3 (position p)))

    source_number : (p init : Node) → is_pattern p ≡ true → number (in_cell x) (each id_of (source_declarator c p init)) ≡ cond (is_name_of init) 0 (slot_value x p)
    unfolding source_declarator each node_at_of piece_in
    source_number p init h =
        let s = slot_value_is p h in
        by_test (is_name_of init)
        (λ e. rw e (number_none (in_cell x)))
        (λ e. rw e (let t = temporary_number c.path 3 (position p) in let k = ap (here x) (cell_3 (position p)) in omega arith))

    source_fit : (p init : Node) (a b : ℕ) → a + pot x init ≤ b → AllItems (Fit a b) (source_declarator c p init)
    unfolding source_declarator
    source_fit p init a b h =
        by_test (is_name_of init)
        (λ e. rw (e, AllItems) tt)
        (λ e. rw (e, AllItems)
        (let d = declares_leaf (value_of c p) init (temporary_leaf c.path 3 (position p)) in let t = temporary_pot x c.path 3 (position p) in (omega arith, tt)))

    -- what a declarator of a declaration makes
    abbrev made_by : Node → Items
    made_by d = cond (is_lowered d) (declarator_makes c (node_at_of 0 d) (node_at_of 1 d)) Items.none

    record Parts (d : Node) : Type 0 where
      makes : number (in_cell x) (made_by d) ≤ pot x d
      leaves : AllItems (Fit (number (in_cell x) (made_by d)) (pot x d)) (declarators c d)

    lowered_stands : (d : Node) → is_lowered d ≡ true → stands 1 d ≡ true
    unfolding is_lowered
    lowered_stands d e = and_left (stands 1 d) (has_object_rest (node_at_of 0 d)) e

    declaring_is : (d : Node) → stands 1 d ≡ true → declaring x (stands 1 d) (node_at_of 0 d) (node_at_of 1 d) ≡ cond (is_name_of (node_at_of 1 d)) 0 (slot_value x (node_at_of 0 d))
    unfolding declaring
    declaring_is d e = rw e refl

    makes_number : (p init : Node) → number (in_cell x) (declarator_makes c p init) ≡ number (in_cell x) (each id_of (source_declarator c p init)) + wanted p
    unfolding declarator_makes
    makes_number p init =
        let a = number_append (in_cell x) (each id_of (source_declarator c p init)) (each (λ o. reference c o) (inner_objects c p) +++ gather (rest_makes c) (objects_below c p)) in
        let b = number_append (in_cell x) (each (λ o. reference c o) (inner_objects c p)) (gather (rest_makes c) (objects_below c p)) in
        omega arith

    declarator_parts : (d : Node) → is 5 d ≡ true → Good d → Parts d
    unfolding declarators lower_declarator
    declarator_parts d i g =
        let p = node_at_of 0 d in
        let init = node_at_of 1 d in
        let k = pot_5 x d i in
        let nn = node_and_node x 0 1 (omega arith) d in
        let z = number_none (in_cell x) in
        by_test (is_lowered d)
        (λ e.
        let s = source c p init in
        let u = declaring_is d (lowered_stands d e) in
        let v = source_number p init (rest_pattern p (lowered_rest d e)) in
        let w = makes_number p init in
        let a = pattern_apart p s (first_simple d g) (node_good 0 d g) (source_name p init) (source_pot p init (node_good 1 d g)) in
        let m = a.makes in
        let t : number (in_cell x) (made_by d) ≡ number (in_cell x) (declarator_makes c p init) = ap (λ (b : Bool). number (in_cell x) (cond b (declarator_makes c p init) Items.none)) e in
        record {
          makes = omega arith;
          leaves = rw e
              (all_append (Fit (number (in_cell x) (declarator_makes c p init)) (pot x d)) (source_declarator c p init) (pattern_declarators c p s)
              (source_fit p init (number (in_cell x) (declarator_makes c p init)) (pot x d) (omega arith))
              (weaker_items (Fit (wanted p) (pot x p)) (Fit (number (in_cell x) (declarator_makes c p init)) (pot x d)) (λ q l. omega arith) (pattern_declarators c p s) a.leaves));
        })
        (λ e.
        let t : number (in_cell x) (made_by d) ≡ number (in_cell x) Items.none = ap (λ (b : Bool). number (in_cell x) (cond b (declarator_makes c p init) Items.none)) e in
        record { makes = omega arith; leaves = rw e (omega arith, tt) })

    -- ---- a declaration

    declarators_make : (ds : Items) → AllItems Parts ds → number (in_cell x) (gather made_by ds) ≤ pot_items x ds
    unfolding gather pot
    declarators_make Items.none h = let z = number_none (in_cell x) in omega arith
    declarators_make (Items.hole ds) h = declarators_make ds h
    declarators_make (Items.item d ds) h =
        let a = number_append (in_cell x) (made_by d) (gather made_by ds) in let m = h.0.makes in let r = declarators_make ds h.1 in omega arith

    declarators_leave : (ds : Items) → AllItems Parts ds → AllItems (Fit (number (in_cell x) (gather made_by ds)) (pot_items x ds)) (gather (declarators c) ds)
    unfolding gather pot
    declarators_leave Items.none h = tt
    declarators_leave (Items.hole ds) h = declarators_leave ds h
    declarators_leave (Items.item d ds) h =
        let a = number_append (in_cell x) (made_by d) (gather made_by ds) in
        let m = h.0.makes in
        let r = declarators_make ds h.1 in
        let n = number (in_cell x) (made_by d +++ gather made_by ds) in
        all_append (Fit n (pot x d + pot_items x ds)) (declarators c d) (gather (declarators c) ds)
        (weaker_items (Fit (number (in_cell x) (made_by d)) (pot x d)) (Fit n (pot x d + pot_items x ds)) (λ q l. omega arith) (declarators c d) h.0.leaves)
        (weaker_items (Fit (number (in_cell x) (gather made_by ds)) (pot_items x ds)) (Fit n (pot x d + pot_items x ds)) (λ q l. omega arith) (gather (declarators c) ds) (declarators_leave ds h.1))

    -- no declarator is of another kind where there is one site at most
    all_five : (ds : Items) → aliens x ds ≤ 1 → AllItems (λ d. is 5 d ≡ true) ds
    unfolding aliens
    all_five Items.none h = tt
    all_five (Items.hole ds) h = all_five ds h
    all_five (Items.item d ds) h =
        by_test (is 5 d)
        (λ e. (e, all_five ds (omega arith)))
        (λ e. let z : 2 + aliens x ds ≤ 1 = rw e at h in absurd (omega arith))

    all_parts : (ds : Items) → AllItems (λ d. is 5 d ≡ true) ds → AllItems Good ds → AllItems Parts ds
    all_parts Items.none h g = tt
    all_parts (Items.hole ds) h g = all_parts ds h g
    all_parts (Items.item d ds) h g = (declarator_parts d h.0 g.0, all_parts ds h.1 g.1)

    -- what is spent: what is made, and what each part of the result may make
    abbrev Spent : Node → Items → Node → Type 0
    Spent n made r = (number (in_cell x) made ≤ pot x n) × Each (Fit (number (in_cell x) made) (pot x n)) r

    declaration_piece : (b : ℕ) (p : Piece) → pot_piece x p ≤ b
        → AllItems (Fit (number (in_cell x) (gather made_by (as_items_of p))) (pot_items x (as_items_of p))) (gather (declarators c) (as_items_of p))
        → AllPiece (Fit (number (in_cell x) (gather made_by (as_items_of p))) b) (on_items (gather (declarators c)) p)
    unfolding on_items pot gather
    declaration_piece b (Piece.one m) h f = let z = number_none (in_cell x) in omega arith
    declaration_piece b (Piece.list ds) h f =
        fit_more (number (in_cell x) (gather made_by ds)) (pot_items x ds) (number (in_cell x) (gather made_by ds)) b (omega arith) (gather (declarators c) ds) f
    declaration_piece b (Piece.text bs) h f = tt
    declaration_piece b (Piece.byte v) h f = tt
    declaration_piece b (Piece.mark v) h f = tt
    declaration_piece b (Piece.number v) h f = tt

    declaration_spent : (n : Node) → is 4 n ≡ true → Good n → pot x n ≤ 1 → Spent n (declaration_makes c n) (declaration c n)
    unfolding declaration declaration_makes items_at_of change
    declaration_spent (node at k fs) e g l =
        let n = node at k fs in
        let a = pot_4 x n e in
        let ds = as_items_of (piece_in fs 2) in
        let i = items_at_two at k fs in
        let five = all_five ds (omega arith) in
        let parts = all_parts ds five (to_all ds (items_good_at 2 at k fs g)) in
        let m = declarators_make ds parts in
        let f = declarators_leave ds parts in
        let b = piece_in_lem x fs 2 in
        let d = as_items x (piece_in fs 2) in
        let o = inner_is at k fs in
        (omega arith, one_kept (number (in_cell x) (gather made_by ds)) (pot x n) fs 2 (on_items (gather (declarators c))) (omega arith) (declaration_piece (pot x n) (piece_in fs 2) (omega arith) f))

    -- ---- a target with rest

    first_number : (t : Node) (ts : Items) → number (in_cell x) (Items.item t ts) ≡ cond (in_cell x t) 1 0 + number (in_cell x) ts
    unfolding number
    first_number t ts = refl

    ids_refs : (ps : Items) → number (in_cell x) (each id_of (each (λ p. declared (reference c p)) ps)) ≡ number (in_cell x) (each (λ p. reference c p) ps)
    unfolding each number node_at_of piece_in
    ids_refs Items.none = refl
    ids_refs (Items.hole ps) = ids_refs ps
    ids_refs (Items.item p ps) = ap (λ (k : ℕ). cond (in_cell x (reference c p)) 1 0 + k) (ids_refs ps)

    top_number : (n : Node) → number (in_cell x) (top_makes c n) ≤ here x (position (target n) + 2) + (here_items x (parts_of (target n)) + resting x (position (target n)) true (properties (target n)))
    unfolding top_makes top_entry top_excludes each node_at_of piece_in
    top_number n =
        let p = target n in
        let t = value_of c p in
        let ds = each (λ q. declared (reference c q)) (parts_of p) in
        let ks = key_temporaries c p in
        let es = each id_of (excluded_for c p) in
        let a = number_append (in_cell x) (Items.item t (each id_of (ds +++ ks))) es in
        let b = first_number t (each id_of (ds +++ ks)) in
        let d = temporary_number c.path 3 (position p) in
        let e = ap (here x) (cell_3 (position p)) in
        let u = ap (number (in_cell x)) (each_append id_of ds ks) in
        let v = number_append (in_cell x) (each id_of ds) (each id_of ks) in
        let w = ids_refs (parts_of p) ∙ refs_number (parts_of p) in
        let k = keys_number p in
        let m = excluded_number p in
        let q = resting_is p in
        let o = only_number t in
        omega arith

    -- all that are replaced have their places
    here_less : (os : Items) → AllItems (λ o. is_top o ≡ true) os → here_items x os ≤ wholes x os
    here_less os t = let l = cost_less os t in omega arith

    -- an object with rest, beside all that are replaced
    object_fit : (os : Items) → AllItems (λ o. is_top o ≡ true) os → AllItems (λ o. (is_top o ≡ true) × (here_items x os + (here x (position o + 2) + pot x o) ≤ wholes x os)) os
    unfolding here_items wholes
    object_fit Items.none t = tt
    object_fit (Items.hole os) t = object_fit os t
    object_fit (Items.item o os) t =
        let w = whole_cost o t.0 in
        let h = here_less os t.1 in (
          (t.0, omega arith),
          weaker_items (λ m. (is_top m ≡ true) × (here_items x os + (here x (position m + 2) + pot x m) ≤ wholes x os))
              (λ m. (is_top m ≡ true) × (here x (position o) + here_items x os + (here x (position m + 2) + pot x m) ≤ whole x o + wholes x os)) (λ m k. let l = k.1 in (k.0, omega arith)) os (object_fit os t.1),
        )

    -- the assignment of each from the temporary in its place
    from_fit : (a b : ℕ) (os : Items) → AllItems (λ o. is_top o ≡ true) os → a + wholes x os ≤ b → AllItems (Fit (a + here_items x os) b) (each (from_reference c) os)
    from_fit a b os t h =
        all_each (λ o. (is_top o ≡ true) × (here_items x os + (here x (position o + 2) + pot x o) ≤ wholes x os)) (Fit (a + here_items x os) b) (from_reference c)
        (λ o k.
        let u = assign_pot o (reference c o) in
        let q = slot_top_is o k.0 in
        let f = temporary_pot x c.path 1 (position o) in
        let l = k.1 in
        omega arith)
        os (object_fit os t)

    last_fit : (s : Bool) (t : Node) (a b : ℕ) → a + pot x t ≤ b → AllItems (Fit a b) (cond s Items.none (only t))
    last_fit true t a b h = tt
    last_fit false t a b h = (h, tt)

    top_spent : (n : Node) → is 27 n ≡ true → is_top (target n) ≡ true → Good n → Spent n (top_makes c n) (top_sequence c n)
    unfolding top_sequence
    top_spent n e t g =
        let p = target n in
        let v = value_of c p in
        let pg = node_good 1 n g in
        let os = parts_of p in
        let m = top_number n in
        let k = pot_27 x n e in
        let s = slot_top_is p t in
        let nn = node_and_node x 1 2 (omega arith) n in
        let z = temporary_pot x c.path 3 (position p) in
        let r = left_over_sum x c p (top_34 p t) (top_rest p t) pg in
        let y = rest_beside x c p (top_34 p t) (top_rest p t) pg in
        let h = here_less os (parts_top p) in
        let a0 = assign_pot v (assigned n) in
        let s0 = slot_top_not v (leaf_top v (temporary_leaf c.path 3 (position p))) in
        let a1 = assign_pot (target_left c n) v in
        let s1 = slot_top_not (target_left c n) (left_no_top c n t) in
        let a2 = assign_pot (rest p) (rest_value c p v) in
        let s2 = slot_top_not (rest p) (leaf_top (rest p) (rest_leaf p (top_34 p t) pg)) in
        let w = rest_value_pot p v z in
        let R = here x (position p + 2) + resting x (position p) true (properties p) in
        let made = number (in_cell x) (top_makes c n) in (
          omega arith,
          (
            (
              omega arith,
              (
                omega arith,
                all_append (Fit made (pot x n)) (each (from_reference c) os) (Items.item (assign (rest p) (rest_value c p v)) (cond c.statement Items.none (only v)))
                    (weaker_items (Fit (R + here_items x os) (pot x n)) (Fit made (pot x n)) (λ q l. omega arith) (each (from_reference c) os) (from_fit R (pot x n) os (parts_top p) (omega arith)))
                    (omega arith, last_fit c.statement v made (pot x n) (omega arith)),
              ),
            ),
            tt,
          ),
        )

    -- ---- any other target

    nested_number : (n : Node) → number (in_cell x) (nested_makes c n) ≡ here_items x (outermost (target n))
    unfolding nested_makes nested_entry
    nested_number n = ids_refs (outermost (target n)) ∙ refs_number (outermost (target n))

    slot_top_nothing : slot_top x nothing ≡ 0
    unfolding slot_top is_top is
    slot_top_nothing = refl

    nested_spent : (n : Node) → is 27 n ≡ true → is_top (target n) ≡ false → Good n → Spent n (nested_makes c n) (nested_sequence c n)
    unfolding nested_sequence
    nested_spent n e t g =
        let p = target n in
        let os = outermost p in
        let pg = node_good 1 n g in
        let m = nested_number n in
        let k = pot_27 x n e in
        let s = outermost_sum x c (depth p) p t pg in
        let nn = node_in x 1 n in
        let n' = change_node 1 (λ q. replaced_below c q) n in
        let k' = pot_27 x n' (is_changed 1 (on_node (λ q. replaced_below c q)) n 27 ∙ e) in
        let y = node_exchange x 1 (λ q. replaced_below c q) n in
        let z = node_changed (slot_top x) slot_top_nothing 1 (λ q. replaced_below c q) n in
        let w = slot_top_not (replaced_below c p) (replaced_top c (depth p) p t) in
        let h = here_less os (nearest_top true (depth p) p) in
        let made = number (in_cell x) (nested_makes c n) in (
          omega arith,
          (
            (
              omega arith,
              weaker_items (Fit (0 + here_items x os) (pot x n)) (Fit made (pot x n)) (λ q l. omega arith) (each (from_reference c) os) (from_fit 0 (pot x n) os (nearest_top true (depth p) p) (omega arith)),
            ),
            tt,
          ),
        )

    -- ---- assignments

    unchanged_spent : (n : Node) → Spent n Items.none n
    unchanged_spent n =
        let z = number_none (in_cell x) in
        let i = inner_in x n in
        (omega arith, fit_each (number (in_cell x) Items.none) (pot x n) n (omega arith))

    refused_spent : (n : Node) → Spent n Items.none nothing
    refused_spent n = let z = number_none (in_cell x) in (omega arith, tt)

    tops_spent : (n : Node) → is 27 n ≡ true → is_top (target n) ≡ true → Good n → Spent n (step_top c n).note.made (step_top c n).result
    unfolding step_top
    tops_spent n e t g =
        by_number (top_refusal n)
        (λ r l. rw (l, step_top) (refused_spent n))
        (λ l. rw (l, step_top) (top_spent n e t g))

    assignments_spent : (n : Node) → is 27 n ≡ true → Good n → Spent n (step_assignment c n).note.made (step_assignment c n).result
    unfolding step_assignment
    assignments_spent n e g =
        by_test (has_array_rest_over_object_rest (target n))
        (λ a. rw (a, step_assignment) (refused_spent n))
        (λ a. rw (a, step_assignment)
        (by_test (is_top (target n))
        (λ t. rw t (tops_spent n e t g))
        (λ t. rw t
        (by_test (has_object_rest (target n))
        (λ r. rw r (nested_spent n e t g))
        (λ r. rw r (unchanged_spent n))))))

    declarations_spent : (n : Node) → is 4 n ≡ true → Good n → pot x n ≤ 1 → Spent n (step_declaration c n).note.made (step_declaration c n).result
    unfolding step_declaration
    declarations_spent n e g l =
        by_number (declaration_refusal c n)
        (λ r h. rw (h, step_declaration) (refused_spent n))
        (λ h. rw (h, step_declaration) (declaration_spent n e g l))

    -- ---- heads

    cond_less : (b : Bool) (u v u' v' : ℕ) → (b ≡ true → u' ≤ u) → (b ≡ false → v' ≤ v) → cond b u' v' ≤ cond b u v
    cond_less true u v u' v' f g = f refl
    cond_less false u v u' v' f g = g refl

    moved_out_slot : (d : ℕ) (p : Node) → slot x (moved_out_of c d p) ≤ slot x p
    unfolding moved_out_of
    moved_out_slot zero p = omega arith
    moved_out_slot (suc d) p =
        let f : Node → Node = λ v. moved_out_of c d v in
        by_shape (shape p)
        (λ e. rw (e, moved_out_of) (let z = slot_temporary x c.path 1 (position p) in omega arith))
        (λ e. rw (e, moved_out_of) (let a = slot_changed x 1 (on_node f) (change_items 0 (each f) p) in let b = slot_changed x 0 (on_items (each f)) p in omega arith))
        (λ e. rw (e, moved_out_of) (let a = slot_changed x 0 (on_node (λ l. reference c p)) p in omega arith))
        (λ e. rw (e, moved_out_of) (omega arith))

    value_changed : (i : ℕ) (g : Piece → Piece) (n : Node) → slot_value x (change i g n) ≡ slot_value x n
    unfolding slot_value is_pattern is change
    value_changed i g (node at k fs) = refl

    moved_out_value : (d : ℕ) (p : Node) → slot_value x (moved_out_of c d p) ≤ slot_value x p
    unfolding moved_out_of
    moved_out_value zero p = omega arith
    moved_out_value (suc d) p =
        let f : Node → Node = λ v. moved_out_of c d v in
        by_shape (shape p)
        (λ e. rw (e, moved_out_of) (let z = slot_value_leaf (reference c p) (temporary_leaf c.path 1 (position p)) in omega arith))
        (λ e. rw (e, moved_out_of) (let a = value_changed 1 (on_node f) (change_items 0 (each f) p) in let b = value_changed 0 (on_items (each f)) p in omega arith))
        (λ e. rw (e, moved_out_of) (let a = value_changed 0 (on_node (λ l. reference c p)) p in omega arith))
        (λ e. rw (e, moved_out_of) (omega arith))

    -- what is put in place of the pattern of a parameter or a declarator
    abbrev left : Node → Node
    left p = moved_out_of c (depth p) p

    -- the own potential, by the fields that it looks at
    own_of : ℕ → ℕ → Items → Bool → Node → Node → Items → Items → ℕ
    own_of at k i0 s1 n0 n1 i2 i3 =
        cond (eqb k 34) (slot_values x i0 + resting x at s1 i0)
        (cond (eqb k 36) (slots x i0 + slot x n1)
        (cond (eqb k 37) (slot x n0 + cond (gone n0) 0 (here x at))
        (cond (eqb k 14) (heads x i3)
        (cond (eqb k 17) (heads x i0)
        (cond (eqb k 10) (head_catch x n0)
        (cond (eqb k 7 || eqb k 8) (head_for x n1)
        (cond (eqb k 27) (slot_top x n1)
        (cond (eqb k 5) (declaring x s1 n0 n1)
        (cond (eqb k 4) (aliens x i2) 0)))))))))

    own_of_lem : (at k : ℕ) (fs : Fields) → own x at k fs ≡ own_of at k (as_items_of (piece_in fs 0)) (stands_in fs 1) (as_node (piece_in fs 0)) (as_node (piece_in fs 1)) (as_items_of (piece_in fs 2)) (as_items_of (piece_in fs 3))
    unfolding own own_of
    own_of_lem at k fs = refl

    declaring_less : (s : Bool) (n m v : Node) → slot_value x m ≤ slot_value x n → declaring x s m v ≤ declaring x s n v
    unfolding declaring
    declaring_less s n m v h = cond_less s (cond (is_name_of v) 0 (slot_value x n)) 0 (cond (is_name_of v) 0 (slot_value x m)) 0 (λ e. cond_less (is_name_of v) 0 (slot_value x n) 0 (slot_value x m) (λ f. omega arith) (λ f. h)) (λ e. omega arith)

    own_less : (at k : ℕ) (i0 : Items) (s1 : Bool) (n m n1 : Node) (i2 i3 : Items) → eqb k 10 ≡ false → slot x m ≤ slot x n → (gone n ≡ true → gone m ≡ true) → slot_value x m ≤ slot_value x n
        → own_of at k i0 s1 m n1 i2 i3 ≤ own_of at k i0 s1 n n1 i2 i3
    unfolding own_of
    own_less at k i0 s1 n m n1 i2 i3 z a b d =
        let g = left_less (here x at) (gone n) (gone m) b in
        let e = declaring_less s1 n m n1 d in
        cond_less (eqb k 34) _ _ _ _ (λ h. le_refl _)
        (λ h. cond_less (eqb k 36) _ _ _ _ (λ h. le_refl _)
        (λ h. cond_less (eqb k 37) (slot x n + cond (gone n) 0 (here x at)) _ (slot x m + cond (gone m) 0 (here x at)) _ (λ h. omega arith)
        (λ h. cond_less (eqb k 14) _ _ _ _ (λ h. le_refl _)
        (λ h. cond_less (eqb k 17) _ _ _ _ (λ h. le_refl _)
        (λ h. cond_less (eqb k 10) _ _ _ _ (λ h. absurd (true≢false (sym h ∙ z)))
        (λ h. cond_less (eqb k 7 || eqb k 8) _ _ _ _ (λ h. le_refl _)
        (λ h. cond_less (eqb k 27) _ _ _ _ (λ h. le_refl _)
        (λ h. cond_less (eqb k 5) _ _ _ _ (λ h. e) (λ h. le_refl _)))))))))

    lists_same : (f : Node → Node) (fs : Fields) → as_items_of (piece_in (change_in fs 0 (on_node f)) 0) ≡ as_items_of (piece_in fs 0)
    unfolding change_in piece_in on_node
    lists_same f Fields.done = refl
    lists_same f (Fields.absent fs) = refl
    lists_same f (Fields.field (Piece.one n) fs) = refl
    lists_same f (Fields.field (Piece.list ds) fs) = refl
    lists_same f (Fields.field (Piece.text bs) fs) = refl
    lists_same f (Fields.field (Piece.byte b) fs) = refl
    lists_same f (Fields.field (Piece.mark b) fs) = refl
    lists_same f (Fields.field (Piece.number b) fs) = refl

    value_nothing : slot_value x nothing ≡ 0
    unfolding slot_value is_pattern is
    value_nothing = refl

    -- of a node with field 0 changed, if it is no Catch
    own_left : (at k : ℕ) (fs : Fields) → eqb k 10 ≡ false → own x at k (change_in fs 0 (on_node left)) ≤ own x at k fs
    own_left at k fs z =
        let gs = change_in fs 0 (on_node left) in
        let n = as_node (piece_in fs 0) in
        let m = as_node (piece_in gs 0) in
        let i0 : as_items_of (piece_in gs 0) ≡ as_items_of (piece_in fs 0) = lists_same left fs in
        let p1 : as_node (piece_in gs 1) ≡ as_node (piece_in fs 1) = ap as_node (other_changed fs 0 (on_node left) 1 (λ e. omega arith)) in
        let p2 : as_items_of (piece_in gs 2) ≡ as_items_of (piece_in fs 2) = ap as_items_of (other_changed fs 0 (on_node left) 2 (λ e. omega arith)) in
        let p3 : as_items_of (piece_in gs 3) ≡ as_items_of (piece_in fs 3) = ap as_items_of (other_changed fs 0 (on_node left) 3 (λ e. omega arith)) in
        let s1 : stands_in gs 1 ≡ stands_in fs 1 = stands_changed fs 0 (on_node left) 1 in
        let a = own_of_lem at k fs in
        let b : own x at k gs ≡ own_of at k (as_items_of (piece_in fs 0)) (stands_in fs 1) m (as_node (piece_in fs 1)) (as_items_of (piece_in fs 2)) (as_items_of (piece_in fs 3)) =
        own_of_lem at k gs ∙ (λ j. own_of at k ((i0) j) ((s1) j) m ((p1) j) ((p2) j) ((p3) j)) in
        let u = node_changed_in (slot x) (slot_nothing x) left fs 0 in
        let u' = moved_out_slot (depth n) n in
        let v = node_changed_in (slot_value x) value_nothing left fs 0 in
        let v' = moved_out_value (depth n) n in
        let l = own_less at k (as_items_of (piece_in fs 0)) (stands_in fs 1) n m (as_node (piece_in fs 1)) (as_items_of (piece_in fs 2)) (as_items_of (piece_in fs 3)) z (omega arith)
        (gone_in left (λ y h. (moved_out_view c (depth y)).fixes y h) fs 0) (omega arith) in
        omega arith

    left_exchange : (q : Node) → is 10 q ≡ false → pot x (change_node 0 left q) + pot x (node_at_of 0 q) ≤ pot x q + pot x (left (node_at_of 0 q))
    unfolding is change node_at_of pot
    left_exchange (node at k fs) z = let o = own_left at k fs z in let e = node_exchange_in x left fs 0 in omega arith

    -- where there is nothing to move
    fixed_in : (f : Node → Node) (fs : Fields) → f (as_node (piece_in fs 0)) ≡ as_node (piece_in fs 0) → change_in fs 0 (on_node f) ≡ fs
    unfolding change_in piece_in on_node
    fixed_in f Fields.done h = refl
    fixed_in f (Fields.absent fs) h = refl
    fixed_in f (Fields.field (Piece.one n) fs) h = ap (λ (m : Node). Fields.field (Piece.one m) fs) h
    fixed_in f (Fields.field (Piece.list ds) fs) h = refl
    fixed_in f (Fields.field (Piece.text bs) fs) h = refl
    fixed_in f (Fields.field (Piece.byte b) fs) h = refl
    fixed_in f (Fields.field (Piece.mark b) fs) h = refl
    fixed_in f (Fields.field (Piece.number b) fs) h = refl

    fixed : (f : Node → Node) (q : Node) → f (node_at_of 0 q) ≡ node_at_of 0 q → change_node 0 f q ≡ q
    unfolding change node_at_of
    fixed f (node at k fs) h = ap (node at k) (fixed_in f fs h)

    catch_pattern : (q : Node) → is_pattern q ≡ true → head_catch x q ≡ 2
    unfolding head_catch
    catch_pattern q e = rw e refl

    catch_other : (q : Node) → is_pattern q ≡ false → head_catch x q ≡ head x q
    unfolding head_catch
    catch_other q e = rw e refl

    any_exchange : (q : Node) → pot x q ≤ 1 → pot x (change_node 0 left q) + pot x (node_at_of 0 q) ≤ pot x q + pot x (left (node_at_of 0 q))
    any_exchange q l =
        by_test (is 10 q)
        (λ e.
        let k = pot_10 x q e in
        by_test (is_pattern (node_at_of 0 q))
        (λ p. let z = catch_pattern (node_at_of 0 q) p in absurd (omega arith))
        (λ p.
        let f = (moved_out_view c (depth (node_at_of 0 q))).fixes (node_at_of 0 q) (pattern_shape (node_at_of 0 q) p) in
        let a = ap (pot x) (fixed left q f) in
        let b = ap (pot x) f in
        omega arith))
        (λ e. left_exchange q e)

    -- one parameter or declarator
    head_is : (q : Node) → head x q ≡ slot_moved x (node_at_of 0 q) + odds x (moved_from q)
    unfolding head
    head_is q = refl

    left_sum : (q : Node) → Good q → pot x q ≤ 1 → moves x c (moved_from q) + pot x (left_behind c q) ≤ head x q + pot x q
    unfolding left_behind
    left_sum q g l =
        let h = head_is q in
        by_test (is_moved q)
        (λ e.
        let m = ap (moves x c) (moved_is q e) in
        let o = ap (odds x) (moved_is q e) in
        let s = moved_sum x c (depth (node_at_of 0 q)) (node_at_of 0 q) (node_good 0 q g) in
        let y = any_exchange q l in
        rw e (omega arith))
        (λ e.
        let m = ap (moves x c) (from_kept q e) in
        let z = moves_none x c in
        rw e (omega arith))

    lefts_sum : (qs : Items) → AllItems Good qs → pot_items x qs ≤ 1 → moves x c (gather moved_from qs) + pot_items x (each (left_behind c) qs) ≤ heads x qs + pot_items x qs
    unfolding gather each heads pot
    lefts_sum Items.none g l = let z = moves_none x c in omega arith
    lefts_sum (Items.hole qs) g l = lefts_sum qs g l
    lefts_sum (Items.item q qs) g l =
        let a = left_sum q g.0 (omega arith) in
        let b = lefts_sum qs g.1 (omega arith) in
        let d = moves_append x c (moved_from q) (gather moved_from qs) in
        omega arith

    -- what is moved into a body
    unfoldable into : Items → ℕ
    into Items.none = 0
    into (Items.hole ps) = into ps
    into (Items.item p ps) = pot x (moved_pattern p) + into ps

    moves_split : (ps : Items) → moves x c ps ≡ here_items x ps + into ps
    unfolding moves here_items into
    moves_split Items.none = refl
    moves_split (Items.hole ps) = moves_split ps
    moves_split (Items.item p ps) = let h = moves_split ps in omega arith

    front_pot : (ps body : Items) → pot_items x (in_front c ps body) ≡ into ps + pot_items x body
    unfolding in_front into pot
    front_pot Items.none body = omega arith
    front_pot (Items.hole ps) body = front_pot ps body
    front_pot (Items.item p ps) body =
        let h = front_pot ps (Items.item (let_of (moved_pattern p) (reference c p)) body) in
        let k = let_pot (moved_pattern p) (reference c p) (temporary_name c.path 1 (position p)) (temporary_pot x c.path 1 (position p)) in
        omega arith

    -- a body or a block has nothing of its own
    plain_pot : (n : Node) → eqb (kind n) 16 || eqb (kind n) 2 ≡ true → pot x n ≡ inner x n
    unfolding pot own inner
    plain_pot (node at k fs) h =
        by_test (eqb k 16)
        (λ e. let z : k ≡ 16 = eqb-true k 16 e in ap (λ (m : ℕ). own x at m fs + pot_fields x fs) z ∙ omega arith)
        (λ e. let u : eqb k 2 ≡ true = rw e at h in let z : k ≡ 2 = eqb-true k 2 u in ap (λ (m : ℕ). own x at m fs + pot_fields x fs) z ∙ omega arith)

    in_body_pot : (ps : Items) (b : Node) → eqb (kind b) 16 || eqb (kind b) 2 ≡ true → pot x (in_body c ps b) ≤ pot x b + into ps
    unfolding in_body
    in_body_pot ps b e =
        let y = items_exchange x 1 (in_front c ps) b in
        let f = front_pot ps (items_at_of 1 b) in
        let k = plain_pot (change_items 1 (in_front c ps) b) (kind_changed 1 (on_items (in_front c ps)) b ∙ e) in
        let i = inner_in x b in
        omega arith

    as_function_body_pot : (b : Node) → pot x (as_function_body b) ≤ pot x b
    unfolding as_function_body
    as_function_body_pot b = by_test (is 16 b) (λ e. rw e (omega arith)) (λ e. rw e (let r = returned_pot b in omega arith))

    as_block_pot : (b : Node) → pot x (as_block b) ≤ pot x b
    unfolding as_block
    as_block_pot b =
        by_test (is 2 b)
        (λ e. rw e (omega arith))
        (λ e. rw e
        (let r = block_pot (cond (is 13 b) Items.none (only b)) in
        let z = none_pot x in
        let o = only_pot x b in
        let s : pot_items x (cond (is 13 b) Items.none (only b)) ≤ pot x b = by_test (is 13 b) (λ f. rw f (omega arith)) (λ f. rw f (omega arith)) in
        omega arith))

    -- ---- fields of a node, named

    inner_fields : (at k : ℕ) (fs : Fields) → inner x (node at k fs) ≡ pot_fields x fs
    unfolding inner
    inner_fields at k fs = refl

    heads_at : (i at k : ℕ) (fs : Fields) → heads x (items_at_of i (node at k fs)) ≡ heads x (as_items_of (piece_in fs i))
    unfolding items_at_of
    heads_at i at k fs = refl

    places_at_lem : (i at k : ℕ) (fs : Fields) → here_items x (gather moved_from (items_at_of i (node at k fs))) ≡ here_items x (gather moved_from (as_items_of (piece_in fs i)))
    unfolding items_at_of
    places_at_lem i at k fs = refl

    catch_at : (at k : ℕ) (fs : Fields) → head_catch x (node_at_of 0 (node at k fs)) ≡ head_catch x (as_node (piece_in fs 0))
    unfolding node_at_of
    catch_at at k fs = refl

    catch_places : (at k : ℕ) (fs : Fields) → here_items x (moved_from (node_at_of 0 (node at k fs))) ≡ here_items x (moved_from (as_node (piece_in fs 0)))
    unfolding node_at_of
    catch_places at k fs = refl

    for_at : (at k : ℕ) (fs : Fields) → head_for x (node_at_of 1 (node at k fs)) ≡ head_for x (as_node (piece_in fs 1))
    unfolding node_at_of
    for_at at k fs = refl

    for_places : (at k : ℕ) (fs : Fields) → here_items x (gather moved_from (items_at_of 2 (node_at_of 1 (node at k fs)))) ≡ here_items x (gather moved_from (items_at_of 2 (as_node (piece_in fs 1))))
    unfolding node_at_of
    for_places at k fs = refl

    first_pot : (t : Node) (ts : Items) → pot_items x (Items.item t ts) ≡ pot x t + pot_items x ts
    unfolding pot
    first_pot t ts = refl

    behind_is : (q : Node) (j : ℕ) → is j (left_behind c q) ≡ is j q
    unfolding left_behind
    behind_is q j = by_test (is_moved q) (λ e. rw e (is_changed 0 (on_node (λ p. moved_out_of c (depth p) p)) q j)) (λ e. rw e refl)

    nothing_4 : {A : Type 0} → is 4 nothing ≡ true → A
    unfolding is
    nothing_4 e = absurd (false≢true e)

    nothing_moves : moves x c (moved_from nothing) ≡ 0
    unfolding moved_from is_moved has_nested_object_rest shape node_at_of piece_in depth
    nothing_moves = moves_none x c

    -- ---- pieces of a head

    lists_piece : (p : Piece) → AllItems Good (as_items_of p) → pot_piece x p ≤ 1 → moves x c (gather moved_from (as_items_of p)) + pot_piece x (on_items (each (left_behind c)) p) ≤ heads x (as_items_of p) + pot_piece x p
    unfolding on_items gather heads pot
    lists_piece (Piece.one n) g l = let z = moves_none x c in omega arith
    lists_piece (Piece.list qs) g l = lefts_sum qs g l
    lists_piece (Piece.text bs) g l = let z = moves_none x c in omega arith
    lists_piece (Piece.byte b) g l = let z = moves_none x c in omega arith
    lists_piece (Piece.mark b) g l = let z = moves_none x c in omega arith
    lists_piece (Piece.number b) g l = let z = moves_none x c in omega arith

    nodes_piece_lem : (f : Node → Node) (k : ℕ) → ((m : Node) → pot x (f m) ≤ pot x m + k) → (p : Piece) → pot_piece x (on_node f p) ≤ pot_piece x p + k
    unfolding on_node pot
    nodes_piece_lem f k h (Piece.one n) = h n
    nodes_piece_lem f k h (Piece.list qs) = omega arith
    nodes_piece_lem f k h (Piece.text bs) = omega arith
    nodes_piece_lem f k h (Piece.byte b) = omega arith
    nodes_piece_lem f k h (Piece.mark b) = omega arith
    nodes_piece_lem f k h (Piece.number b) = omega arith

    into_body : (ps : Items) (b : Node) → pot x (in_body c ps (as_function_body b)) ≤ pot x b + into ps
    into_body ps b = let i = in_body_pot ps (as_function_body b) (body_kind b) in let a = as_function_body_pot b in omega arith

    into_block : (ps : Items) (b : Node) → pot x (in_body c ps (as_block b)) ≤ pot x b + into ps
    into_block ps b = let i = in_body_pot ps (as_block b) (block_kind b) in let a = as_block_pot b in omega arith

    -- where nothing is moved nothing is made
    none_moved : (qs : Items) → AllItems (λ q. is_moved q ≡ false) qs → here_items x (gather moved_from qs) ≡ 0
    unfolding gather
    none_moved Items.none h = none_here x
    none_moved (Items.hole qs) h = none_moved qs h
    none_moved (Items.item q qs) h =
        let a = here_append (moved_from q) (gather moved_from qs) in
        let b = ap (here_items x) (from_kept q h.0) in
        let d = none_moved qs h.1 in
        let z = none_here x in
        omega arith

    references_number : (ps : Items) → number (in_cell x) (references c ps) ≡ here_items x ps
    references_number ps = refs_number ps

    -- ---- functions and arrows

    function_number : (n : Node) → number (in_cell x) (function_makes c n) ≤ here_items x (gather moved_from (items_at_of 3 n))
    unfolding function_makes
    function_number n =
        let r = references_number (gather moved_from (items_at_of 3 n)) in
        let z = number_none (in_cell x) in
        by_test (stands 5 n) (λ e. rw e (omega arith)) (λ e. rw e (omega arith))

    function_quiet : (n : Node) → stands 5 n && any is_moved (items_at_of 3 n) ≡ false → number (in_cell x) (function_makes c n) ≡ 0
    unfolding function_makes
    function_quiet n h =
        by_test (stands 5 n)
        (λ e.
        let u : any is_moved (items_at_of 3 n) ≡ false = rw e at h in
        rw e (let r = references_number (gather moved_from (items_at_of 3 n)) in let m = none_moved (items_at_of 3 n) (none_passes is_moved (items_at_of 3 n) u) in omega arith))
        (λ e. rw e (number_none (in_cell x)))

    function_spent : (n : Node) → is 14 n ≡ true → Good n → pot x n ≤ 1 → Spent n (function_makes c n) (function c n)
    unfolding function change items_at_of
    function_spent (node at k fs) e g l =
        let n = node at k fs in
        let qs = as_items_of (piece_in fs 3) in
        let ps = gather moved_from qs in
        let made = number (in_cell x) (function_makes c n) in
        let m = function_number n in
        let w = pot_14 x n e in
        let i = inner_fields at k fs in
        let a = lists_piece (piece_in fs 3) (to_all qs (items_good_at 3 at k fs g)) (let b = piece_in_lem x fs 3 in omega arith) in
        let s = moves_split ps in
        let t = two_pieces x fs 3 5 (omega arith) in
        let b = nodes_piece_lem (λ y. in_body c ps (as_function_body y)) (into ps) (into_body ps) (piece_in fs 5) in
        let h3 = heads_at 3 at k fs in
        by_test (stands 5 n && any is_moved qs)
        (λ z. rw (z, Each) (
          omega arith,
          two_kept made (pot x n) fs 3 5 (on_items (each (left_behind c))) (on_node (λ y. in_body c ps (as_function_body y))) (omega arith) (omega arith)
              (fit_piece made (pot x n) (on_items (each (left_behind c)) (piece_in fs 3)) (omega arith))
              (fit_piece made (pot x n) (on_node (λ y. in_body c ps (as_function_body y)) (piece_in fs 5)) (omega arith)),
        ))
        (λ z. rw (z, Each)
        (let q = function_quiet n z in (omega arith, fit_fields made (pot x n) fs (omega arith))))

    arrow_quiet : (n : Node) → any is_moved (items_at_of 0 n) ≡ false → number (in_cell x) (arrow_makes c n) ≡ 0
    unfolding arrow_makes
    arrow_quiet n h = let r = references_number (gather moved_from (items_at_of 0 n)) in let m = none_moved (items_at_of 0 n) (none_passes is_moved (items_at_of 0 n) h) in omega arith

    arrow_number : (n : Node) → number (in_cell x) (arrow_makes c n) ≡ here_items x (gather moved_from (items_at_of 0 n))
    unfolding arrow_makes
    arrow_number n = references_number (gather moved_from (items_at_of 0 n))

    arrow_spent : (n : Node) → is 17 n ≡ true → Good n → pot x n ≤ 1 → Spent n (arrow_makes c n) (arrow c n)
    unfolding arrow change items_at_of
    arrow_spent (node at k fs) e g l =
        let n = node at k fs in
        let qs = as_items_of (piece_in fs 0) in
        let ps = gather moved_from qs in
        let made = number (in_cell x) (arrow_makes c n) in
        let m = arrow_number n in
        let w = pot_17 x n e in
        let i = inner_fields at k fs in
        let a = lists_piece (piece_in fs 0) (to_all qs (items_good_at 0 at k fs g)) (let b = piece_in_lem x fs 0 in omega arith) in
        let s = moves_split ps in
        let t = two_pieces x fs 0 2 (omega arith) in
        let b = nodes_piece_lem (λ y. in_body c ps (as_function_body y)) (into ps) (into_body ps) (piece_in fs 2) in
        let h0 = heads_at 0 at k fs in
        let p0 = places_at_lem 0 at k fs in
        by_test (any is_moved qs)
        (λ z. rw (z, Each) (
          omega arith,
          two_kept made (pot x n) fs 0 2 (on_items (each (left_behind c))) (on_node (λ y. in_body c ps (as_function_body y))) (omega arith) (omega arith)
              (fit_piece made (pot x n) (on_items (each (left_behind c)) (piece_in fs 0)) (omega arith))
              (fit_piece made (pot x n) (on_node (λ y. in_body c ps (as_function_body y)) (piece_in fs 2)) (omega arith)),
        ))
        (λ z. rw (z, Each)
        (let q = arrow_quiet n z in (omega arith, fit_fields made (pot x n) fs (omega arith))))

    -- ---- catch

    left_piece_lem : (p : Piece) → Good (as_node p) → pot x (as_node p) ≤ 1 → moves x c (moved_from (as_node p)) + pot_piece x (on_node (left_behind c) p) ≤ head x (as_node p) + pot_piece x p
    unfolding on_node pot
    left_piece_lem (Piece.one n) g l = left_sum n g l
    left_piece_lem (Piece.list qs) g l = let z = nothing_moves in omega arith
    left_piece_lem (Piece.text bs) g l = let z = nothing_moves in omega arith
    left_piece_lem (Piece.byte b) g l = let z = nothing_moves in omega arith
    left_piece_lem (Piece.mark b) g l = let z = nothing_moves in omega arith
    left_piece_lem (Piece.number b) g l = let z = nothing_moves in omega arith

    catch_number : (n : Node) → number (in_cell x) (catch_makes c n) ≡ here_items x (moved_from (node_at_of 0 n))
    unfolding catch_makes
    catch_number n = references_number (moved_from (node_at_of 0 n))

    catch_spent : (n : Node) → is 10 n ≡ true → Good n → pot x n ≤ 1 → Spent n (catch_makes c n) (catch c n)
    unfolding catch change node_at_of
    catch_spent (node at k fs) e g l =
        let n = node at k fs in
        let q = as_node (piece_in fs 0) in
        let ps = moved_from q in
        let made = number (in_cell x) (catch_makes c n) in
        let m = catch_number n in
        let w = pot_10 x n e in
        let i = inner_fields at k fs in
        let d = as_node_lem x (piece_in fs 0) in
        let u = piece_in_lem x fs 0 in
        let a = left_piece_lem (piece_in fs 0) (node_good_at 0 at k fs g) (omega arith) in
        let s = moves_split ps in
        let t = two_pieces x fs 0 1 (omega arith) in
        let b = nodes_piece_lem (λ y. in_body c ps (as_block y)) (into ps) (into_block ps) (piece_in fs 1) in
        let h0 = catch_at at k fs in
        let p0 = catch_places at k fs in
        by_test (is_pattern q)
        (λ z. let y = catch_pattern q z in absurd (omega arith))
        (λ z.
        let y = catch_other q z in
        by_test (is_moved q)
        (λ f. rw (f, Each) (
          omega arith,
          two_kept made (pot x n) fs 0 1 (on_node (left_behind c)) (on_node (λ v. in_body c ps (as_block v))) (omega arith) (omega arith)
              (fit_piece made (pot x n) (on_node (left_behind c) (piece_in fs 0)) (omega arith))
              (fit_piece made (pot x n) (on_node (λ v. in_body c ps (as_block v)) (piece_in fs 1)) (omega arith)),
        ))
        (λ f. rw (f, Each)
        (let v = ap (here_items x) (from_kept q f) in let o = none_here x in (omega arith, fit_fields made (pot x n) fs (omega arith)))))

    -- ---- the heads of 7 and 8

    aliens_each : (ds : Items) → aliens x (each (left_behind c) ds) ≡ aliens x ds
    unfolding each aliens
    aliens_each Items.none = refl
    aliens_each (Items.hole ds) = aliens_each ds
    aliens_each (Items.item d ds) = ap₂ (λ (u : Bool) (v : ℕ). cond u 0 2 + v) (behind_is d 5) (aliens_each ds)

    declaration_left : (n : Node) → is 4 n ≡ true → Good n → pot x n ≤ 1 → moves x c (gather moved_from (items_at_of 2 n)) + pot x (change_items 2 (each (left_behind c)) n) ≤ heads x (items_at_of 2 n) + pot x n
    declaration_left n e g l =
        let n' = change_items 2 (each (left_behind c)) n in
        let a = pot_4 x n e in
        let b = pot_4 x n' (is_changed 2 (on_items (each (left_behind c))) n 4 ∙ e) in
        let d = ap (aliens x) (items_changed 2 (left_behind c) n) ∙ aliens_each (items_at_of 2 n) in
        let i = items_in_lem x 2 n in
        let s = lefts_sum (items_at_of 2 n) (to_all (items_at_of 2 n) (items_good 2 n g)) (omega arith) in
        let y = items_exchange x 2 (each (left_behind c)) n in
        omega arith

    declaring_piece : (p : Piece) → is 4 (as_node p) ≡ true → Good (as_node p) → pot x (as_node p) ≤ 1
        → moves x c (gather moved_from (items_at_of 2 (as_node p))) + pot_piece x (on_node (λ m. change_items 2 (each (left_behind c)) m) p) ≤ heads x (items_at_of 2 (as_node p)) + pot_piece x p
    unfolding on_node pot
    declaring_piece (Piece.one n) e g l = declaration_left n e g l
    declaring_piece (Piece.list qs) e g l = nothing_4 e
    declaring_piece (Piece.text bs) e g l = nothing_4 e
    declaring_piece (Piece.byte b) e g l = nothing_4 e
    declaring_piece (Piece.mark b) e g l = nothing_4 e
    declaring_piece (Piece.number b) e g l = nothing_4 e

    declaring_number : (n : Node) → number (in_cell x) (declaring_makes c n) ≡ here_items x (gather moved_from (items_at_of 2 (node_at_of 1 n)))
    unfolding declaring_makes
    declaring_number n = references_number (gather moved_from (items_at_of 2 (node_at_of 1 n)))

    -- what 7 and 8 have of their own
    for_pot : (n : Node) → is 7 n || is 8 n ≡ true → pot x n ≡ head_for x (node_at_of 1 n) + inner x n
    for_pot n h = by_test (is 7 n) (λ e. pot_7 x n e) (λ e. let u : is 8 n ≡ true = rw e at h in pot_8 x n u)

    for_declaration : (l : Node) → is 4 l ≡ true → head_for x l ≡ heads x (items_at_of 2 l)
    unfolding head_for
    for_declaration l e = rw e refl

    for_other : (l : Node) → is 4 l ≡ false → head_for x l ≡ slot x l + cond (is 36 l) (here x (position l)) (cond (is 37 l) 2 0)
    unfolding head_for
    for_other l e = rw e refl

    declaring_spent : (n : Node) → is 7 n || is 8 n ≡ true → is 4 (node_at_of 1 n) ≡ true → Good n → pot x n ≤ 1 → Spent n (declaring_makes c n) (declaring_head c n)
    unfolding declaring_head change node_at_of
    declaring_spent (node at k fs) e f g l =
        let n = node at k fs in
        let r = as_node (piece_in fs 1) in
        let ds = items_at_of 2 r in
        let ps = gather moved_from ds in
        let made = number (in_cell x) (declaring_makes c n) in
        let m = declaring_number n in
        let w = for_pot n e in
        let v = for_declaration r f in
        let i = inner_fields at k fs in
        let d = as_node_lem x (piece_in fs 1) in
        let u = piece_in_lem x fs 1 in
        let a = declaring_piece (piece_in fs 1) f (node_good_at 1 at k fs g) (omega arith) in
        let s = moves_split ps in
        let t = two_pieces x fs 1 3 (omega arith) in
        let b = nodes_piece_lem (λ y. in_body c ps (as_block y)) (into ps) (into_block ps) (piece_in fs 3) in
        let h1 = for_at at k fs in
        let p1 = for_places at k fs in
        by_test (any is_moved ds)
        (λ z. rw (z, Each) (
          omega arith,
          two_kept made (pot x n) fs 1 3 (on_node (λ y. change_items 2 (each (left_behind c)) y)) (on_node (λ y. in_body c ps (as_block y))) (omega arith) (omega arith)
              (fit_piece made (pot x n) (on_node (λ y. change_items 2 (each (left_behind c)) y) (piece_in fs 1)) (omega arith))
              (fit_piece made (pot x n) (on_node (λ y. in_body c ps (as_block y)) (piece_in fs 3)) (omega arith)),
        ))
        (λ z. rw (z, Each)
        (let q = none_moved ds (none_passes is_moved ds z) in (omega arith, fit_fields made (pot x n) fs (omega arith))))

    -- left is a target
    first_block : (t b : Node) → pot x (change_items 1 (Items.item t) (as_block b)) ≤ pot x b + pot x t
    first_block t b =
        let m = as_block b in
        let y = items_exchange x 1 (Items.item t) m in
        let f = first_pot t (items_at_of 1 m) in
        let k = plain_pot (change_items 1 (Items.item t) m) (kind_changed 1 (on_items (Items.item t)) m ∙ block_kind b) in
        let i = inner_in x m in
        let a = as_block_pot b in
        omega arith

    var_piece : (p : Piece) → pot_piece x (on_node (λ m. var_of (reference c m)) p) + pot x (as_node p) ≤ pot_piece x p
    unfolding on_node pot
    var_piece (Piece.one n) = let v = var_pot c.path 1 (position n) in omega arith
    var_piece (Piece.list qs) = let z = nothing_pot x in omega arith
    var_piece (Piece.text bs) = let z = nothing_pot x in omega arith
    var_piece (Piece.byte b) = let z = nothing_pot x in omega arith
    var_piece (Piece.mark b) = let z = nothing_pot x in omega arith
    var_piece (Piece.number b) = let z = nothing_pot x in omega arith

    target_slot : (p : Node) → is_pattern p ≡ true → slot x p + cond (is 36 p) (here x (position p)) (cond (is 37 p) 2 0) ≤ 1 → here x (position p) + slot_top x p ≤ slot x p + cond (is 36 p) (here x (position p)) (cond (is 37 p) 2 0)
    unfolding is_pattern slot slot_top is_top
    target_slot p h l = go (is 34 p) (is 36 p) (is 37 p) (has_rest_of p) h l
      where
        go : (u v w r : Bool) → u || (v || w) ≡ true
            → cond u (here x (position p) + here x (position p + 2)) 0 + cond v (here x (position p)) (cond w 2 0) ≤ 1
            → here x (position p) + cond (u && r) (here x (position p + 2)) 0 ≤ cond u (here x (position p) + here x (position p + 2)) 0 + cond v (here x (position p)) (cond w 2 0)
        go true v w true h l = omega arith
        go true v w false h l = omega arith
        go false true w r h l = omega arith
        go false false true r h l = absurd (omega arith)
        go false false false r h l = absurd (false≢true h)

    assigning_number : (n : Node) → has_object_rest (node_at_of 1 n) ≡ true → number (in_cell x) (assigning_makes c n) ≡ here x (position (node_at_of 1 n))
    unfolding assigning_makes
    assigning_number n e =
        rw e (let t = temporary_number c.path 1 (position (node_at_of 1 n)) in let k = ap (here x) (cell_1 (position (node_at_of 1 n))) in omega arith)

    assigning_quiet : (n : Node) → has_object_rest (node_at_of 1 n) ≡ false → number (in_cell x) (assigning_makes c n) ≡ 0
    unfolding assigning_makes
    assigning_quiet n e = rw e (number_none (in_cell x))

    assigning_spent : (n : Node) → is 7 n || is 8 n ≡ true → is 4 (node_at_of 1 n) ≡ false → Good n → pot x n ≤ 1 → Spent n (assigning_makes c n) (assigning_head c n)
    unfolding assigning_head change node_at_of
    assigning_spent (node at k fs) e f g l =
        let n = node at k fs in
        let p = as_node (piece_in fs 1) in
        let t = assigning p (reference c p) in
        let made = number (in_cell x) (assigning_makes c n) in
        let w = for_pot n e in
        let v = for_other p f in
        let i = inner_fields at k fs in
        let d = as_node_lem x (piece_in fs 1) in
        let u = two_pieces x fs 1 3 (omega arith) in
        let a = assigning_pot p (reference c p) in
        let z0 = temporary_pot x c.path 1 (position p) in
        let b = nodes_piece_lem (λ y. change_items 1 (Items.item t) (as_block y)) (pot x t) (first_block t) (piece_in fs 3) in
        let q = var_piece (piece_in fs 1) in
        let h1 = for_at at k fs in
        by_test (has_object_rest p)
        (λ r. rw (r, Each)
        (let m = assigning_number n r in
        let s = target_slot p (rest_pattern p r) (omega arith) in (
          omega arith,
          two_kept made (pot x n) fs 1 3 (on_node (λ y. var_of (reference c y))) (on_node (λ y. change_items 1 (Items.item t) (as_block y))) (omega arith) (omega arith)
              (fit_piece made (pot x n) (on_node (λ y. var_of (reference c y)) (piece_in fs 1)) (omega arith))
              (fit_piece made (pot x n) (on_node (λ y. change_items 1 (Items.item t) (as_block y)) (piece_in fs 3)) (omega arith)),
        )))
        (λ r. rw (r, Each)
        (let m = assigning_quiet n r in (omega arith, fit_fields made (pot x n) fs (omega arith))))

    fors_spent : (n : Node) → is 7 n || is 8 n ≡ true → Good n → pot x n ≤ 1 → Spent n (step_for c n).note.made (step_for c n).result
    unfolding step_for
    fors_spent n e g l =
        by_test (is 4 (node_at_of 1 n))
        (λ d. rw (d, step_for) (declaring_spent n e d g l))
        (λ d. rw (d, step_for)
        (by_test (has_array_rest_over_object_rest (node_at_of 1 n))
        (λ a. rw a (refused_spent n))
        (λ a. rw a (assigning_spent n e d g l))))

    literal_spent : (n : Node) → Spent n Items.none (literal n)
    literal_spent n =
        let z = number_none (in_cell x) in
        let i = inner_in x (literal n) in
        let l = literal_pot n in
        (omega arith, fit_each (number (in_cell x) Items.none) (pot x n) (literal n) (omega arith))

    -- each rewriting spends what it makes
    rewrite_spent : (n : Node) → Good n → pot x n ≤ 1 → Spent n (rewrite c n).note.made (rewrite c n).result
    unfolding rewrite is
    rewrite_spent n g l =
        by_rule_lem (rule_of (kind n))
        (λ e. rw (e, rewrite) (literal_spent n))
        (λ e. rw (e, rewrite) (declarations_spent n (kinds_at_lem (kind n) declarations e) g l))
        (λ e. rw (e, rewrite) (assignments_spent n (kinds_at_lem (kind n) assignments e) g))
        (λ e. rw (e, rewrite) (function_spent n (kinds_at_lem (kind n) functions e) g l))
        (λ e. rw (e, rewrite) (arrow_spent n (kinds_at_lem (kind n) arrows e) g l))
        (λ e. rw (e, rewrite) (catch_spent n (kinds_at_lem (kind n) catches e) g l))
        (λ e. rw (e, rewrite) (fors_spent n (kinds_at_lem (kind n) fors e) g l))
        (λ e. rw (e, rewrite) (unchanged_spent n))

pub spent : (x : ℕ) (c : Context) (n : Node) → Good n → pot x n ≤ 1
    → (number (in_cell x) (rewrite c n).note.made ≤ pot x n)
    × Each (λ m. number (in_cell x) (rewrite c n).note.made + pot x m ≤ pot x n) (rewrite c n).result
spent x c n g l = rewrite_spent x c n g l
