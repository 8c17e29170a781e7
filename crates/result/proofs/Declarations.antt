-- Declarations: what is made of one lies where it lay.
-- Assumes nothing.
use mathlib.Core.Path.{◌≡◌, refl, sym, subst}
use mathlib.Core.Bool.{Bool, true, false, cond}
use mathlib.Core.List.{[], ◌∷◌}
use Prim.Native.Nat.{ℕ, zero, suc, ◌<◌}
use native.Mathlib.Omega.{arith}
use Rattle.tree.specs.Tree.{Node, Fields, Piece, Items, depth}
use Rattle.tree.specs.Tree.Node.{node}
use Rattle.tree.specs.Grammar.{Sort, Field, places, allowed, also, among, kind_of, form_in, form_at, fields_of, kinds}
use Rattle.tree.specs.Grammar.Stage.{rewritten}
use Rattle.lowering.specs.Parts.{kind, is, node_at_of, items_at_of, stands, stands_in, change, change_in, on_items, only, gather}
use Rattle.lowering.specs.Made.{Context, reference}
use Rattle.lowering.specs.Patterns.{shape, properties, items_of, has_rest_of, left_of, value, with_values, replaced, replaced_below, has_object_rest, objects_with_rest, objects_below}
use Rattle.lowering.specs.Patterns.Shape.{object_pattern}
use Rattle.lowering.specs.Rests.{has_no_properties, excluded_for}
use Rattle.lowering.specs.Declarations.{is_name_of, source, source_declarator, keys_before, pattern_declarator, rest_declarator, own, nested, nested_below, object_declarators, pattern_declarators, lower_declarator, is_lowered, declarators, lowered_in, declaration, declaration_excludes}
use Rattle.lowering.proofs.Cases.{by_test, by_shape, and_left, is_kind}
use Rattle.lowering.proofs.All.{AllItems, all_append, all_gather, all_cond}
use Rattle.lowering.proofs.Clauses.{objects_object, objects_array, objects_default, objects_leaf}
use Rattle.result.proofs.PlaceRows.{covers, at_places, no_kind, lone, form_4}
use Rattle.result.proofs.Valued.{declaration_shown}
use Rattle.result.proofs.Lies.{Texts, make_shown, shown_of, Lies, LieFields, LiePiece, LieItems, moved, changed, may_stand, list_at, node_at, stands_at, lies_append, lies_only, lies_gather, lies_if, all_of}
use Rattle.result.proofs.LyingPatterns.{pattern_at, fields_at}
use Rattle.result.proofs.Expressions.{takes_3, temporary_lies}
use Rattle.result.proofs.PatternsLie.{values_lies, object_whole, properties_of, items_of_lem, value_of_lem, left_whole, rest_of, replaced_lies}
use Rattle.result.proofs.KeysLie.{same_shape, declares_lies, bound, key_temporaries_lie, taken_lies, rest_value_lies, excluded_for_lies}

-- a name that binds is a pattern that binds
pub binding_of : {T : Texts} {n : Node} → Lies T 16 n → Lies T 15 n
unfolding covers allowed places also among form_in kind_of
binding_of {n = n} l = moved 15 (at_places no_kind rewritten rewritten 16 15 refl (kind n) refl (may_stand l)) l

module _ (c : Context) where
  source_lies : {T : Texts} (p init : Node) → Lies T 3 init → Lies T 3 (source c p init)
  unfolding source
  source_lies p init l = by_test (is_name_of init) (λ e. rw e l) (λ e. rw e (temporary_lies 3 takes_3 (omega arith) (omega arith)))

  source_declarator_lies : {T : Texts} (p init : Node) → Lies T 3 init → LieItems T 4 false (source_declarator c p init)
  unfolding source_declarator
  source_declarator_lies p init l =
      lies_if (is_name_of init) (λ e. LieItems.none) (λ e. lies_only (declares_lies c (bound c (omega arith) (omega arith)) l))

  -- ---- one object pattern, read from s

  module _ {T : Texts} (p : Node) (l : Lies T 15 p) (o : shape p ≡ object_pattern) (s : Node) (m : Lies T 3 s) where
    keys_before_lie : LieItems T 4 false (keys_before c p)
    unfolding keys_before
    keys_before_lie = lies_if (has_rest_of p) (λ e. key_temporaries_lie c false false p l o) (λ e. LieItems.none)

    pattern_declarator_lies : LieItems T 4 false (pattern_declarator c p s)
    unfolding pattern_declarator
    pattern_declarator_lies = lies_if (has_no_properties p) (λ e. LieItems.none) (λ e. lies_only (declares_lies c (taken_lies c false false p l o) m))

    rest_declarator_lies : LieItems T 4 false (rest_declarator c p s)
    unfolding rest_declarator
    rest_declarator_lies =
        lies_if (has_rest_of p)
        (λ e. lies_only (declares_lies c (binding_of (rest_of false false p l o e)) (rest_value_lies c false false p l o s m)))
        (λ e. LieItems.none)

    own_lie : LieItems T 4 false (own c p s)
    unfolding own
    own_lie = lies_append keys_before_lie (lies_append pattern_declarator_lies rest_declarator_lies)

  reference_read : {T : Texts} (p : Node) → Lies T 3 (reference c p)
  reference_read p = temporary_lies 3 takes_3 (omega arith) (omega arith)

  -- the objects inside it replaced
  pub inner_lies : {T : Texts} (d : ℕ) (w : Bool) (p : Node) → Lies T (pattern_at false w) p → shape p ≡ object_pattern → Lies T 15 (with_values (λ v. replaced c d v) p)
  inner_lies d w p l o =
      object_whole false w (with_values (λ v. replaced c d v) p)
      (values_lies false w (λ v. replaced c d v) (λ v m. replaced_lies c false d true v m) p l o) (same_shape _ p o)

  -- ---- what is found below a pattern

  nested_lie : {T : Texts} (d : ℕ) (w : Bool) (p : Node) → Lies T (pattern_at false w) p → LieItems T 4 false (nested c d p)
  unfolding nested
  nested_lie zero w p l = LieItems.none
  nested_lie (suc d) w p l =
      by_shape (shape p)
      (λ e. rw (e, nested)
      (lies_append
      (lies_if (has_rest_of p) (λ h. own_lie (with_values (λ v. replaced c d v) p) (inner_lies d w p l e) (same_shape _ p e) (reference c p) (reference_read p)) (λ h. LieItems.none))
      (lies_gather false (λ q. nested c d (value q)) (λ q m. nested_lie d true (value q) (value_of_lem false q m)) (properties_of false w p l e))))
      (λ e. rw (e, nested) (lies_gather false (λ x. nested c d x) (λ x m. nested_lie d true x m) (items_of_lem false w p l e)))
      (λ e. rw (e, nested) (nested_lie d false (left_of p) (left_whole false w p l e)))
      (λ e. rw (e, nested) LieItems.none)

  -- ---- a declarator

  module _ {T : Texts} (p : Node) (l : Lies T 15 p) (s : Node) (m : Lies T 3 s) where
    object_declarators_lie : shape p ≡ object_pattern → LieItems T 4 false (object_declarators c p s)
    unfolding object_declarators
    object_declarators_lie o =
        let q : Node = with_values (λ v. replaced_below c v) p in
        let k : Lies T 15 q = values_lies false false (λ v. replaced_below c v) (λ v m. replaced_lies c false (depth v) true v m) p l o in
        let e : shape q ≡ object_pattern = same_shape _ p o in
        lies_append (keys_before_lie q k e s m)
        (lies_append (pattern_declarator_lies q k e s m)
        (lies_append (lies_gather false (λ r. nested_below c (value r)) (λ r m. nested_lie (depth (value r)) true (value r) (value_of_lem false r m)) (properties_of false false p l o))
        (rest_declarator_lies q k e s m)))

    pattern_declarators_lie : LieItems T 4 false (pattern_declarators c p s)
    unfolding pattern_declarators
    pattern_declarators_lie =
        by_shape (shape p)
        (λ e. rw (e, pattern_declarators) (object_declarators_lie e))
        (λ e. rw (e, pattern_declarators) (lies_append (lies_only (declares_lies c (replaced_lies c false (depth p) false p l) m)) (nested_lie (depth p) false p l)))
        (λ e. rw (e, pattern_declarators) LieItems.none)
        (λ e. rw (e, pattern_declarators) LieItems.none)

  lower_declarator_lies : {T : Texts} (p init : Node) → Lies T 15 p → Lies T 3 init → LieItems T 4 false (lower_declarator c p init)
  unfolding lower_declarator
  lower_declarator_lies p init l m = lies_append (source_declarator_lies p init m) (pattern_declarators_lie p l (source c p init) (source_lies p init m))

  -- ---- 5 Declarator(id init?)

  pub declarator_fields : {T : Texts} {at k : ℕ} {fs : Fields} → Lies T 4 (node at k fs) → LieFields T 0 (Field.must (Sort.child 15) ∷ Field.may (Sort.child 3) ∷ []) fs
  unfolding form_at allowed places also among form_in kind_of fields_of kinds
  declarator_fields {k = k} l = fields_at 4 5 5 (Field.must (Sort.child 15) ∷ Field.may (Sort.child 3) ∷ []) refl refl refl l (lone 4 5 k refl (may_stand l))

  declarators_lie : {T : Texts} (d : Node) → Lies T 4 d → LieItems T 4 false (declarators c d)
  unfolding declarators is_lowered stands node_at_of
  declarators_lie (node at k fs) l =
      let f = declarator_fields l in
      lies_if (is_lowered (node at k fs))
      (λ e. lower_declarator_lies (node_at_of 0 (node at k fs)) (node_at_of 1 (node at k fs)) (node_at f 0 (stands_at f 0 refl)) (node_at f 1 (and_left (stands_in fs 1) (has_object_rest (node_at_of 0 (node at k fs))) e)))
      (λ e. lies_only l)

  -- ---- 4 Declaration(# kind= declarators*)

  declaration_piece : {T : Texts} (b d : ℕ) (x : Piece) → LiePiece T b (Sort.many 4) x d → LiePiece T b (Sort.many 4) (on_items (gather (declarators c)) x) d
  unfolding on_items
  declaration_piece b d x (LiePiece.many a) = LiePiece.many (lies_gather false (declarators c) declarators_lie a)

  pub declaration_lies : {T : Texts} (p : ℕ) (n : Node) → Lies T p n → is 4 n ≡ true → Lies T p (declaration c n)
  unfolding declaration change fields_of kinds
  declaration_lies {T = T} p (node at k fs) l e =
      let q : k ≡ 4 = is_kind 4 (node at k fs) e in
      let g : form_at rewritten p 4 ≡ 4 = form_4 p (subst (λ (j : ℕ). 0 < form_at rewritten p j) q (may_stand l)) in
      let f = fields_at p 4 4 (Field.must Sort.mark ∷ Field.must (Sort.byte 1 3) ∷ Field.must (Sort.many 4) ∷ []) refl g refl l q in
      subst (λ (j : ℕ). Lies T p (node at j (change_in fs 2 (on_items (gather (declarators c)))))) (sym q)
      (make_shown p 4 4 g (omega arith) refl (λ s v. declaration_shown c at fs s (shown_of (subst (λ (j : ℕ). Lies T p (node at j fs)) q l) refl s v)) (changed f 2 (on_items (gather (declarators c))) declaration_piece))

  -- ---- excluded keys

  objects_lie : {T : Texts} (d : ℕ) (w : Bool) (p : Node) → Lies T (pattern_at false w) p → AllItems (λ o. Lies T 15 o × (shape o ≡ object_pattern)) (objects_with_rest c d p)
  unfolding objects_with_rest
  objects_lie zero w p l = tt
  objects_lie {T = T} (suc d) w p l =
      by_shape (shape p)
      (λ e. rw (objects_object c d p e)
      (all_append (λ o. Lies T 15 o × (shape o ≡ object_pattern)) (gather (λ q. objects_with_rest c d (value q)) (properties p)) (cond (has_rest_of p) (only (with_values (λ v. replaced c d v) p)) Items.none)
      (all_gather (Lies T 17) (λ o. Lies T 15 o × (shape o ≡ object_pattern)) (λ q. objects_with_rest c d (value q)) (λ q m. objects_lie d true (value q) (value_of_lem false q m)) (properties p) (all_of (properties_of false w p l e)))
      (all_cond (λ o. Lies T 15 o × (shape o ≡ object_pattern)) (has_rest_of p) (only (with_values (λ v. replaced c d v) p)) Items.none ((inner_lies d w p l e, same_shape _ p e), tt) tt)))
      (λ e. rw (objects_array c d p e)
      (all_gather (Lies T 18) (λ o. Lies T 15 o × (shape o ≡ object_pattern)) (λ m. objects_with_rest c d m) (λ m k. objects_lie d true m k) (items_of p) (all_of (items_of_lem false w p l e))))
      (λ e. rw (objects_default c d p e) (objects_lie d false (left_of p) (left_whole false w p l e)))
      (λ e. rw (objects_leaf c d p e) tt)

  excluded_gather : {T : Texts} (is : Items) → AllItems (λ o. Lies T 15 o × (shape o ≡ object_pattern)) is → LieItems T 4 false (gather (excluded_for c) is)
  unfolding gather
  excluded_gather Items.none h = LieItems.none
  excluded_gather (Items.hole is) h = excluded_gather is h
  excluded_gather (Items.item n is) h = lies_append (excluded_for_lies c false false n h.0.0 h.0.1) (excluded_gather is h.1)

  lowered_objects : {T : Texts} (d : Node) → Lies T 4 d → AllItems (λ o. Lies T 15 o × (shape o ≡ object_pattern)) (lowered_in c d)
  unfolding lowered_in node_at_of
  lowered_objects {T = T} (node at k fs) l =
      let f = declarator_fields l in
      all_cond (λ o. Lies T 15 o × (shape o ≡ object_pattern)) (is_lowered (node at k fs)) (objects_below c (node_at_of 0 (node at k fs))) Items.none
      (objects_lie (depth (node_at_of 0 (node at k fs))) false (node_at_of 0 (node at k fs)) (node_at f 0 (stands_at f 0 refl))) tt

  pub declaration_excludes_lie : {T : Texts} (p : ℕ) (n : Node) → Lies T p n → is 4 n ≡ true → LieItems T 4 false (declaration_excludes c n)
  unfolding declaration_excludes items_at_of fields_of kinds
  declaration_excludes_lie p (node at k fs) l e =
      let q : k ≡ 4 = is_kind 4 (node at k fs) e in
      let g : form_at rewritten p 4 ≡ 4 = form_4 p (subst (λ (j : ℕ). 0 < form_at rewritten p j) q (may_stand l)) in
      let f = fields_at p 4 4 (Field.must Sort.mark ∷ Field.must (Sort.byte 1 3) ∷ Field.must (Sort.many 4) ∷ []) refl g refl l q in
      lies_gather false (λ d. gather (excluded_for c) (lowered_in c d)) (λ d m. excluded_gather (lowered_in c d) (lowered_objects d m)) (list_at f 2)
