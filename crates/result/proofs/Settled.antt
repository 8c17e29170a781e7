-- What a rule leaves is settled: no spread in a literal, and no rest in a pattern but where an exception has it. A clause for each rule.
-- Assumes nothing.
use mathlib.Core.Path.{◌≡◌, refl, sym, subst, ◌∙◌}
use mathlib.Core.Bool.{Bool, true, false, cond, ◌&&◌, true≢false}
use mathlib.Core.List.{List, [], ◌∷◌}
use Prim.Native.Nat.{ℕ, zero, suc, ◌<◌, ◌≤◌}
use native.Mathlib.Omega.{arith}
use lib.Dec.{eqb}
use Rattle.tree.specs.Tree.{Node, Fields, Piece, Items, depth, depth_fields, depth_items}
use Rattle.tree.specs.Tree.Node.{node}
use Rattle.tree.specs.Grammar.{Sort, Field, form_at, fields_of, kinds}
use Rattle.tree.specs.Grammar.Field.{must, may}
use Rattle.tree.specs.Grammar.Stage.{rewritten}
use Rattle.lowering.specs.Parts.{is, node_at_of, items_at_of, stands, piece_in, stands_in, as_node, as_items_of, change, change_in, on_node, on_items, only, each, gather, any, ◌+++◌}
use Rattle.lowering.specs.Made.{Context, declares, reference, value_of, S}
use Rattle.lowering.specs.Patterns.{Shape, shape, properties, rest, has_rest_of, left_of, value, key, with_values, has_object_rest, has_nested_object_rest, has_array_rest_over_object_rest, replaced, replaced_below}
use Rattle.lowering.specs.Patterns.Shape.{object_pattern}
use Rattle.lowering.specs.Keys.{key_sort, key_temporary, key_temporaries, taken}
use Rattle.lowering.specs.Rests.{has_no_properties, rest_value}
use Rattle.lowering.specs.Literals.{Call, opened, closed, scan, literal}
use Rattle.lowering.specs.Declarations.{is_name_of, source, source_declarator, keys_before, pattern_declarator, rest_declarator, own, nested, nested_below, object_declarators, pattern_declarators, lower_declarator, is_lowered, declarators, declaration, declaration_refusal}
use Rattle.lowering.specs.Assignments.{target, is_top, top_refusal, top_sequence, nested_sequence, nearest}
use Rattle.lowering.specs.Heads.{is_moved, moved_out_of, left_behind, function, arrow, catch, declaring_head, assigning_head}
use Rattle.lowering.specs.Walk.{Step, rewrite, step_declaration, step_top, step_assignment, step_for}
use Rattle.lowering.proofs.Cases.{by_number, by_test, by_shape, by_key}
use Rattle.lowering.proofs.ItemLaws.{any_behind}
use Rattle.lowering.proofs.All.{AllItems, all_append, all_gather, all_cond, all_each, none_passes, other_changed}
use Rattle.result.proofs.PlaceRows.{form_4, form_7, form_8, form_10, form_17}
use Rattle.result.proofs.Lies.{Texts, Lies, LieFields, LiePiece, LieItems, may_stand, list_at, node_at, stands_at, all_of}
use Rattle.lowering.proofs.Levels.{items_depth}
use Rattle.result.proofs.LyingPatterns.{pattern_at, PropertyView, DefaultView, property_view, fields_at}
use Rattle.result.proofs.PatternsLie.{values_lies, replaced_lies, properties_of, items_of_lem, value_of_lem, left_whole, rest_of}
use Rattle.result.proofs.KeysLie.{same_shape}
use Rattle.result.proofs.Declarations.{declarator_fields, inner_lies}
use Rattle.result.proofs.Assignments.{name_shape}
use Rattle.result.proofs.HeadsLie.{bound_fields, param_fields, function_fields, FunctionForm, function_forms, for_fields}
use Rattle.result.proofs.Valued.{changed_items}
use Rattle.result.proofs.NoRestLeft.{by_default, leaf_clear, bare_clear, taken_clear, replaced_clear, moved_out_bare}
use Rattle.result.proofs.ByRule.{by_rules}

-- a declarator with a value keeps rests below array rests alone; a parameter keeps none
abbrev pub Taken : Node → Type 0
Taken d = stands 1 d ≡ true → nearest true (depth (node_at_of 0 d)) (node_at_of 0 d) ≡ Items.none

abbrev pub Still : Node → Type 0
Still q = has_object_rest (node_at_of 0 q) ≡ false

-- a node, by its kind and fields
pub data Settled : Node → Type 0 where
  of_literal : {at : ℕ} {fs : Fields} → any (λ p. is 26 p) (as_items_of (piece_in fs 0)) ≡ false → Settled (node at 24 fs)
  of_declaration : {at : ℕ} {fs : Fields} → AllItems Taken (as_items_of (piece_in fs 2)) → Settled (node at 4 fs)
  of_assignment : {at : ℕ} {fs : Fields} → has_object_rest (as_node (piece_in fs 1)) ≡ false → Settled (node at 27 fs)
  of_function : {at : ℕ} {fs : Fields} → (stands_in fs 5 ≡ true → AllItems Still (as_items_of (piece_in fs 3))) → Settled (node at 14 fs)
  of_arrow : {at : ℕ} {fs : Fields} → AllItems Still (as_items_of (piece_in fs 0)) → Settled (node at 17 fs)
  of_catch : {at : ℕ} {fs : Fields} → Still (as_node (piece_in fs 0)) → Settled (node at 10 fs)
  of_for_in : {at : ℕ} {fs : Fields} → (is 4 (as_node (piece_in fs 1)) ≡ false → has_object_rest (as_node (piece_in fs 1)) ≡ false) → Settled (node at 7 fs)
  of_for_of : {at : ℕ} {fs : Fields} → (is 4 (as_node (piece_in fs 1)) ≡ false → has_object_rest (as_node (piece_in fs 1)) ≡ false) → Settled (node at 8 fs)
  of_other : {at k : ℕ} {fs : Fields} → eqb k 24 ≡ false → eqb k 4 ≡ false → eqb k 27 ≡ false → eqb k 14 ≡ false → eqb k 17 ≡ false → eqb k 10 ≡ false → eqb k 7 ≡ false → eqb k 8 ≡ false
      → Settled (node at k fs)

-- ---- literals

abbrev CallSettled : Call → Type 0
CallSettled Call.no_call = Unit {0}
CallSettled (Call.call m) = Settled m

closed_settled : (c : Call) (ps : Items) → CallSettled c → any (λ p. is 26 p) ps ≡ false → Settled (closed c ps)
unfolding closed piece_in
closed_settled Call.no_call ps h e = Settled.of_literal e
closed_settled (Call.call m) Items.none h e = h
closed_settled (Call.call m) (Items.hole ps) h e = h
closed_settled (Call.call m) (Items.item p ps) h e = Settled.of_other refl refl refl refl refl refl refl refl

scan_settled : (c : Call) (pending ps : Items) → CallSettled c → any (λ p. is 26 p) pending ≡ false → Settled (scan c pending ps)
unfolding scan any
scan_settled c pending Items.none h e = closed_settled c pending h e
scan_settled c pending (Items.hole ps) h e = scan_settled c pending ps h e
scan_settled c pending (Items.item n ps) h e =
    by_test (is 26 n)
    (λ t. rw (t, scan) (scan_settled (Call.call (S (opened c pending +++ only (node_at_of 0 n)))) Items.none ps (Settled.of_other refl refl refl refl refl refl refl refl) refl))
    (λ t. rw (t, scan) (scan_settled c (pending +++ only n) ps h (any_behind (λ p. is 26 p) pending n e t)))

literal_settled : (at : ℕ) (fs : Fields) → Settled (literal (node at 24 fs))
unfolding literal items_at_of any
literal_settled at fs =
    by_test (any (λ p. is 26 p) (items_at_of 0 (node at 24 fs)))
    (λ e. rw e (scan_settled Call.no_call Items.none (as_items_of (piece_in fs 0)) tt refl))
    (λ e. rw e (Settled.of_literal e))

second : (a b : Bool) → a ≡ true → a && b ≡ false → b ≡ false
second true b h e = e
second false b h e = absurd (true≢false (sym h))

five_three : ◌≡◌ {A = ℕ} 5 3 → ⊥
five_three z = omega arith

two_zero : ◌≡◌ {A = ℕ} 2 0 → ⊥
two_zero z = omega arith

-- ---- depths

value_depth : {T : Texts} {a : ℕ} {q : Node} → PropertyView T a q → depth (value q) < depth q
unfolding node_at_of piece_in depth
value_depth (PropertyView.property x y z) = omega arith

left_depth : {T : Texts} {a : ℕ} {p : Node} → DefaultView T a p → depth (left_of p) < depth p
unfolding node_at_of piece_in depth
left_depth (DefaultView.defaulted a b) = omega arith

-- ---- declarations

module _ (c : Context) where
  -- a declarator of a name
  named_taken : (path : List ℕ) (stem at : ℕ) (init : Node) → Taken (declares (Rattle.lowering.specs.Made.temporary path stem at) init)
  unfolding node_at_of piece_in nearest shape depth Rattle.tree.specs.Tree.depth_fields
  named_taken path stem at init h = refl

  clear_taken : (id init : Node) → ((e : ℕ) → nearest true e id ≡ Items.none) → Taken (declares id init)
  unfolding node_at_of piece_in
  clear_taken id init g h = g (depth id)

  key_temporary_taken : (q : Node) → AllItems Taken (key_temporary c q)
  unfolding key_temporary
  key_temporary_taken q =
      by_key (key_sort (key q)) (λ e. rw (e, key_temporary) tt) (λ e. rw (e, key_temporary) tt) (λ e. rw (e, key_temporary) tt) (λ e. rw (e, key_temporary) tt) (λ e. rw (e, key_temporary) tt)
      (λ e. rw (e, key_temporary) (named_taken c.path 4 (Rattle.lowering.specs.Parts.position q) (key q), tt))

  keys_taken_lem : (p : Node) → AllItems Taken (key_temporaries c p)
  unfolding key_temporaries
  keys_taken_lem p = all_gather (λ q. Unit {0}) Taken (key_temporary c) (λ q u. key_temporary_taken q) (properties p) (Rattle.lowering.proofs.All.all_unit (properties p))

  before_taken : (p : Node) → AllItems Taken (keys_before c p)
  unfolding keys_before
  before_taken p = all_cond Taken (has_rest_of p) (key_temporaries c p) Items.none (keys_taken_lem p) tt

  pattern_taken : (p s : Node) → ((e : ℕ) → nearest true e (taken c p) ≡ Items.none) → AllItems Taken (pattern_declarator c p s)
  unfolding pattern_declarator
  pattern_taken p s g = all_cond Taken (has_no_properties p) Items.none (only (declares (taken c p) s)) tt (clear_taken (taken c p) s g, tt)

  rest_taken : (p s : Node) → (has_rest_of p ≡ true → shape (rest p) ≡ Shape.leaf) → AllItems Taken (rest_declarator c p s)
  unfolding rest_declarator
  rest_taken p s g =
      by_test (has_rest_of p)
      (λ h. rw h (clear_taken (rest p) (rest_value c p s) (leaf_clear (rest p) (g h)), tt))
      (λ h. rw h tt)

  -- the objects inside p replaced by f, which clears
  object_taken : {T : Texts} (f : Node → Node) (d : ℕ) → ((v : Node) → Lies T 18 v → depth v ≤ d → (e : ℕ) → nearest true e (f v) ≡ Items.none) → (w : Bool) (p : Node) → Lies T (pattern_at false w) p → shape p ≡ object_pattern
      → depth p ≤ suc d → Lies T 15 (with_values f p) → (s : Node)
      → AllItems Taken (keys_before c (with_values f p)) × AllItems Taken (pattern_declarator c (with_values f p) s) × AllItems Taken (rest_declarator c (with_values f p) s)
  object_taken f d g w p l o k m s = (
    before_taken (with_values f p),
    pattern_taken (with_values f p) s (taken_clear false f d g c w p l o k),
    rest_taken (with_values f p) s (λ h. name_shape (rest (with_values f p)) (rest_of false false (with_values f p) m (same_shape _ p o) h)),
  )

  -- of each property's value, and of each item
  gather_taken : {T : Texts} (f : Node → Items) (d : ℕ) → ((v : Node) → Lies T 18 v → depth v ≤ d → AllItems Taken (f v)) → {h : Bool} {is : Items} → LieItems T 17 h is → depth_items is ≤ d → AllItems Taken (gather (λ q. f (value q)) is)
  unfolding gather depth
  gather_taken f d g LieItems.none k = tt
  gather_taken f d g (LieItems.hole a) k = gather_taken f d g a k
  gather_taken f d g (LieItems.item {n = q} {is = is} x a) k =
      let z = value_depth (property_view false q x) in
      all_append Taken (f (value q)) (gather (λ q. f (value q)) is) (g (value q) (value_of_lem false q x) (omega arith)) (gather_taken f d g a (omega arith))

  items_taken : {T : Texts} (f : Node → Items) (d : ℕ) → ((v : Node) → Lies T 18 v → depth v ≤ d → AllItems Taken (f v)) → {h : Bool} {is : Items} → LieItems T 18 h is → depth_items is ≤ d → AllItems Taken (gather f is)
  unfolding gather depth
  items_taken f d g LieItems.none k = tt
  items_taken f d g (LieItems.hole a) k = items_taken f d g a k
  items_taken f d g (LieItems.item {n = n} {is = is} x a) k = all_append Taken (f n) (gather f is) (g n x (omega arith)) (items_taken f d g a (omega arith))

  nested_taken : {T : Texts} (d : ℕ) (w : Bool) (p : Node) → Lies T (pattern_at false w) p → depth p ≤ d → AllItems Taken (nested c d p)
  unfolding nested own
  nested_taken zero w p l k = tt
  nested_taken (suc d) w p l k =
      by_shape (shape p)
      (λ e. rw (e, nested)
      (let q : Node = with_values (λ v. replaced c d v) p in
      let t = object_taken (λ v. replaced c d v) d (λ v m n i. replaced_clear c false d true v m n i) w p l e k (inner_lies c d w p l e) (reference c p) in
      all_append Taken (cond (has_rest_of p) (own c q (reference c p)) Items.none) (gather (λ q. nested c d (value q)) (properties p))
      (all_cond Taken (has_rest_of p) (own c q (reference c p)) Items.none
      (all_append Taken (keys_before c q) (pattern_declarator c q (reference c p) +++ rest_declarator c q (reference c p)) t.0 (all_append Taken (pattern_declarator c q (reference c p)) (rest_declarator c q (reference c p)) t.1 t.2))
      tt)
      (gather_taken (λ x. nested c d x) d (λ x m n. nested_taken d true x m n) (properties_of false w p l e) (let z = items_depth 0 p in omega arith))))
      (λ e. rw (e, nested) (items_taken (λ x. nested c d x) d (λ x m n. nested_taken d true x m n) (items_of_lem false w p l e) (let z = items_depth 0 p in omega arith)))
      (λ e. rw (e, nested) (nested_taken d false (left_of p) (left_whole false w p l e) (let z = left_depth (by_default false w p l e) in omega arith)))
      (λ e. rw (e, nested) tt)

  objects_taken : {T : Texts} (p : Node) → Lies T 15 p → (s : Node) → shape p ≡ object_pattern → AllItems Taken (object_declarators c p s)
  unfolding object_declarators
  objects_taken {T = T} p l s o =
      let q : Node = with_values (λ v. replaced_below c v) p in
      let m : Lies T 15 q = values_lies false false (λ v. replaced_below c v) (λ v n. replaced_lies c false (depth v) true v n) p l o in
      let t = object_taken (λ v. replaced_below c v) (depth p) (λ v n i j. replaced_clear c false (depth v) true v n (omega arith) j) false p l o (omega arith) m s in
      all_append Taken (keys_before c q) (pattern_declarator c q s +++ gather (λ r. nested_below c (value r)) (properties p) +++ rest_declarator c q s) t.0
      (all_append Taken (pattern_declarator c q s) (gather (λ r. nested_below c (value r)) (properties p) +++ rest_declarator c q s) t.1
      (all_append Taken (gather (λ r. nested_below c (value r)) (properties p)) (rest_declarator c q s)
      (gather_taken (λ x. nested_below c x) (depth p) (λ x n i. nested_taken (depth x) true x n (omega arith)) (properties_of false false p l o) (let z = items_depth 0 p in omega arith))
      t.2))

  patterns_taken : {T : Texts} (p : Node) → Lies T 15 p → (s : Node) → AllItems Taken (pattern_declarators c p s)
  unfolding pattern_declarators
  patterns_taken p l s =
      by_shape (shape p)
      (λ e. rw (e, pattern_declarators) (objects_taken p l s e))
      (λ e. rw (e, pattern_declarators)
      (all_append Taken (only (declares (replaced_below c p) s)) (nested_below c p)
      (clear_taken (replaced_below c p) s (replaced_clear c false (depth p) false p l (omega arith)), tt)
      (nested_taken (depth p) false p l (omega arith))))
      (λ e. rw (e, pattern_declarators) tt)
      (λ e. rw (e, pattern_declarators) tt)

  source_taken : (p init : Node) → AllItems Taken (source_declarator c p init)
  unfolding source_declarator
  source_taken p init =
      all_cond Taken (is_name_of init) Items.none (only (declares (value_of c p) init)) tt (named_taken c.path 3 (Rattle.lowering.specs.Parts.position p) init, tt)

  declarators_taken : {T : Texts} (d : Node) → Lies T 4 d → AllItems Taken (declarators c d)
  unfolding declarators is_lowered stands node_at_of lower_declarator
  declarators_taken (node at k fs) l =
      let f = declarator_fields c l in
      let p = node_at_of 0 (node at k fs) in
      let init = node_at_of 1 (node at k fs) in
      by_test (is_lowered (node at k fs))
      (λ e. rw e (all_append Taken (source_declarator c p init) (pattern_declarators c p (source c p init)) (source_taken p init) (patterns_taken p (node_at f 0 (stands_at f 0 refl)) (source c p init))))
      (λ e. rw e ((λ h. bare_clear (depth p) p (second (stands_in fs 1) (has_object_rest p) h e)), tt))

  declared_settled : {T : Texts} {at : ℕ} {fs : Fields} → LieFields T 0 (must Sort.mark ∷ must (Sort.byte 1 3) ∷ must (Sort.many 4) ∷ []) fs → Settled (node at 4 (change_in fs 2 (on_items (gather (declarators c)))))
  unfolding change_in on_items piece_in
  declared_settled {T = T} (LieFields.needed (LiePiece.mark a) (LieFields.needed (LiePiece.byte x y z) (LieFields.needed (LiePiece.many {is = ds} b) LieFields.done))) =
      Settled.of_declaration (all_gather (Lies T 4) Taken (declarators c) declarators_taken ds (all_of b))

  declaration_settled : {T : Texts} (p at : ℕ) (fs : Fields) → Lies T p (node at 4 fs) → Settled (declaration c (node at 4 fs))
  unfolding declaration change fields_of kinds
  declaration_settled p at fs l = declared_settled (fields_at p 4 4 (must Sort.mark ∷ must (Sort.byte 1 3) ∷ must (Sort.many 4) ∷ []) refl (form_4 p (may_stand l)) refl l refl)

  -- ---- heads

  behind_still : {T : Texts} (at k : ℕ) {fs : Fields} → LieFields T 0 bound_fields fs → Still (left_behind c (node at k fs))
  unfolding left_behind is_moved node_at_of change change_in on_node piece_in
  behind_still at k (LieFields.needed (LiePiece.child {n = p} x) f) =
      by_test (has_object_rest p)
      (λ h. rw h (moved_out_bare c false (depth p) false p x (omega arith) (depth (moved_out_of c (depth p) p))))
      (λ h. rw h h)

  param_still : {T : Texts} (q : Node) → Lies T 7 q → Still (left_behind c q)
  param_still (node at k fs) l = behind_still at k (param_fields l)

  unmoved_still : (is : Items) → any is_moved is ≡ false → AllItems Still is
  unfolding is_moved
  unmoved_still is h = none_passes is_moved is h

  params_still : {T : Texts} {h : Bool} (is : Items) → LieItems T 7 h is → AllItems Still (each (left_behind c) is)
  params_still {T = T} is l = all_each (Lies T 7) Still (left_behind c) param_still is (all_of l)

  -- fields 3 and 5 of a Function, 0 and 2 of an Arrow
  changed_still : (fs : Fields) (i j : ℕ) (f : Piece → Piece) → (j ≡ i → ⊥) → AllItems Still (each (left_behind c) (as_items_of (piece_in fs i)))
      → AllItems Still (as_items_of (piece_in (change_in (change_in fs i (on_items (each (left_behind c)))) j f) i))
  changed_still fs i j f d h =
      subst (λ (x : Piece). AllItems Still (as_items_of x)) (sym (other_changed (change_in fs i (on_items (each (left_behind c)))) j f i d))
      (changed_items Still fs i (each (left_behind c)) h)

  function_settled : {T : Texts} (p at : ℕ) (fs : Fields) → Lies T p (node at 14 fs) → Settled (function c (node at 14 fs))
  unfolding function change items_at_of stands
  function_settled p at fs l = go (function_forms p (may_stand l))
    where
      go : FunctionForm (form_at rewritten p 14) → Settled (function c (node at 14 fs))
      go (FunctionForm.function_form {low = low} {high = high} g) =
          let f = fields_at p 14 (form_at rewritten p 14) (function_fields low high) refl refl g l refl in
          by_test (stands_in fs 5 && any is_moved (as_items_of (piece_in fs 3)))
          (λ h. rw h (Settled.of_function (λ b. changed_still fs 3 5 _ five_three (params_still (as_items_of (piece_in fs 3)) (list_at f 3)))))
          (λ h. rw h (Settled.of_function (λ b. unmoved_still (as_items_of (piece_in fs 3)) (second (stands_in fs 5) (any is_moved (as_items_of (piece_in fs 3))) b h))))

  arrow_settled : {T : Texts} (p at : ℕ) (fs : Fields) → Lies T p (node at 17 fs) → Settled (arrow c (node at 17 fs))
  unfolding arrow change items_at_of fields_of kinds
  arrow_settled p at fs l =
      let f = fields_at p 17 17 (must (Sort.many 7) ∷ may (Sort.child 15) ∷ must (Sort.child 9) ∷ []) refl (form_17 p (may_stand l)) refl l refl in
      by_test (any is_moved (as_items_of (piece_in fs 0)))
      (λ h. rw h (Settled.of_arrow (changed_still fs 0 2 _ two_zero (params_still (as_items_of (piece_in fs 0)) (list_at f 0)))))
      (λ h. rw h (Settled.of_arrow (unmoved_still (as_items_of (piece_in fs 0)) h)))

  caught_settled : {T : Texts} (at : ℕ) {fs : Fields} → LieFields T 0 (may (Sort.child 7) ∷ must (Sort.child 5) ∷ []) fs → Settled (catch c (node at 10 fs))
  unfolding catch change change_in on_node node_at_of piece_in is_moved has_nested_object_rest shape depth
  caught_settled at (LieFields.absent f) = Settled.of_catch refl
  caught_settled at (LieFields.given (LiePiece.child {n = q} x) f) =
      by_test (is_moved q)
      (λ h. rw h (Settled.of_catch (param_still q x)))
      (λ h. rw h (Settled.of_catch h))

  for_settled : {T : Texts} (at k : ℕ) {ts : List Field} {fs : Fields} → LieFields T 0 (for_fields c ts) fs → ((gs : Fields) → (is 4 (as_node (piece_in gs 1)) ≡ false → has_object_rest (as_node (piece_in gs 1)) ≡ false) → Settled (node at k gs))
      → (is 4 (node_at_of 1 (node at k fs)) ≡ true → Settled (declaring_head c (node at k fs))) × (is 4 (node_at_of 1 (node at k fs)) ≡ false → Settled (assigning_head c (node at k fs)))
  unfolding declaring_head assigning_head change change_in on_node node_at_of piece_in is
  for_settled at k (LieFields.needed (LiePiece.mark {m = m} a) (LieFields.needed (LiePiece.child {n = x} y) f)) make = (
    λ d. by_test (any is_moved (items_at_of 2 x)) (λ h. rw h (make _ (λ e. absurd (true≢false (sym (kept_4 x _ d) ∙ e))))) (λ h. rw h (make _ (λ e. absurd (true≢false (sym d ∙ e))))),
    λ d. by_test (has_object_rest x) (λ h. rw h (make _ (λ e. absurd (true≢false e)))) (λ h. rw h (make _ (λ e. h))),
  )
    where
      kept_4 : (x : Node) (f : Piece → Piece) → is 4 x ≡ true → is 4 (change 2 f x) ≡ true
      kept_4 (node at k fs) f e = e

-- ---- the law

kept_28 : {at : ℕ} {fs : Fields} → Settled (node at 28 fs)
kept_28 = Settled.of_other refl refl refl refl refl refl refl refl

module _ (c : Context) where
  abbrev Q : (T : Texts) → Node → Step → Type 0
  Q T n s = (p : ℕ) → Lies T p n → s.note.refusal ≡ 0 → Settled s.result

  declarations_settle : {T : Texts} (at : ℕ) (fs : Fields) → Q T (node at 4 fs) (step_declaration c (node at 4 fs))
  unfolding step_declaration
  declarations_settle at fs p l =
      by_number (declaration_refusal c (node at 4 fs))
      (λ r e. rw (e, step_declaration) (λ z. absurd (omega arith)))
      (λ e. rw (e, step_declaration) (λ z. declaration_settled c p at fs l))

  assignments_settle : {T : Texts} (at : ℕ) (fs : Fields) → Q T (node at 27 fs) (step_assignment c (node at 27 fs))
  unfolding step_assignment step_top top_sequence nested_sequence node_at_of
  assignments_settle at fs p l =
      let n = node at 27 fs in
      by_test (has_array_rest_over_object_rest (target n))
      (λ a. rw (a, step_assignment) (λ z. absurd (omega arith)))
      (λ a. by_test (is_top (target n))
      (λ u. by_number (top_refusal n)
      (λ r k. rw (a, step_assignment) (rw u (rw (k, step_top) (λ z. absurd (omega arith)))))
      (λ k. rw (a, step_assignment) (rw u (rw (k, step_top) (λ z. kept_28)))))
      (λ u. by_test (has_object_rest (target n))
      (λ o. rw (a, step_assignment) (rw u (rw o (λ z. kept_28))))
      (λ o. rw (a, step_assignment) (rw u (rw o (λ z. Settled.of_assignment o))))))

  fors_settle : {T : Texts} (j : ℕ) (ts : List Field) → eqb j 20 ≡ false → ((p : ℕ) → 0 < form_at rewritten p j → form_at rewritten p j ≡ j) → fields_of j ≡ for_fields c ts
      → ((at : ℕ) (gs : Fields) → (is 4 (as_node (piece_in gs 1)) ≡ false → has_object_rest (as_node (piece_in gs 1)) ≡ false) → Settled (node at j gs))
      → (at : ℕ) (fs : Fields) → Q T (node at j fs) (step_for c (node at j fs))
  unfolding step_for
  fors_settle j ts e g u make at fs p l =
      let f = fields_at p j j (for_fields c ts) e (g p (may_stand l)) u l refl in
      let s = for_settled c at j f (make at) in
      by_test (is 4 (node_at_of 1 (node at j fs)))
      (λ d. rw (d, step_for) (λ z. s.0 d))
      (λ d. by_test (has_array_rest_over_object_rest (node_at_of 1 (node at j fs)))
      (λ a. rw (d, step_for) (rw a (λ z. absurd (omega arith))))
      (λ a. rw (d, step_for) (rw a (λ z. s.1 d))))

  pub settled : {T : Texts} (n : Node) (p : ℕ) → Lies T p n → (rewrite c n).note.refusal ≡ 0 → Settled (rewrite c n).result
  unfolding fields_of kinds
  settled {T = T} = by_rules c (Q T) (record {
    literals = λ at fs p l z. literal_settled at fs;
    declarations = declarations_settle;
    assignments = assignments_settle;
    functions = λ at fs p l z. function_settled c p at fs l;
    arrows = λ at fs p l z. arrow_settled c p at fs l;
    catches = λ at fs p l z. caught_settled c at (fields_at p 10 10 (may (Sort.child 7) ∷ must (Sort.child 5) ∷ []) refl (form_10 p (may_stand l)) refl l refl);
    for_ins = fors_settle 7 [] refl form_7 refl (λ at gs h. Settled.of_for_in h);
    for_ofs = fors_settle 8 (may (Sort.byte 0 1) ∷ []) refl form_8 refl (λ at gs h. Settled.of_for_of h);
    nowhere = λ at k fs e₁ e₂ e₃ e₄ e₅ e₆ e₇ e₈ p l z. Settled.of_other e₁ e₂ e₃ e₄ e₅ e₆ e₇ e₈;
  })
