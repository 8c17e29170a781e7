-- What the rules make of a pattern lies where the pattern lay.
-- Assumes nothing.
use mathlib.Core.Path.{◌≡◌}
use mathlib.Core.Bool.{Bool, true, false}
use Prim.Native.Nat.{ℕ, zero, suc}
use native.Mathlib.Omega.{arith}
use Rattle.tree.specs.Tree.{Node}
use Rattle.lowering.specs.Parts.{node_at_of, items_at_of, stands, stands_in, piece_in, change, change_in, on_node, on_items, without, drop_in}
use Rattle.lowering.specs.Made.{Context, reference}
use Rattle.lowering.specs.Patterns.{Shape, shape, properties, items_of, rest, has_rest_of, left_of, value, with_left, with_items, with_properties, with_values, replaced}
use Rattle.lowering.specs.Patterns.Shape.{object_pattern, array_pattern}
use Rattle.lowering.specs.Assignments.{nearest, parts_replaced}
use Rattle.lowering.proofs.Cases.{by_test, by_shape}
use Rattle.lowering.proofs.Clauses.{replaced_object, replaced_array, replaced_default, replaced_leaf, parts_object, parts_array, parts_default, parts_leaf, nearest_object, nearest_array, nearest_default, nearest_leaf}
use Rattle.result.proofs.Lies.{Texts, Lies, LieItems, lies_each, lies_gather, lies_only, lies_if}
use Rattle.result.proofs.LyingPatterns.{whole_at, value_at, property_at, leaf_at, pattern_at, temporary_form, ObjectView, PropertyView, ArrayView, DefaultView, object_view, array_view, property_view, default_view, no_default_whole, object_plain, object_rested, array_plain, array_rested, property_made, default_made}

module _ (t : Bool) where
  -- ---- parts changed

  value_lies : {T : Texts} (f : Node → Node) → ((v : Node) → Lies T (value_at t) v → Lies T (value_at t) (f v)) → (q : Node) → Lies T (property_at t) q → Lies T (property_at t) (change 1 (on_node f) q)
  unfolding change change_in on_node
  value_lies {T = T} f g q l = go (property_view t q l)
    where
      go : {q : Node} → PropertyView T (value_at t) q → Lies T (property_at t) (change 1 (on_node f) q)
      go (PropertyView.property a b c) = property_made t a (g _ b) c

  module _ (w : Bool) where
    pub properties_lies : {T : Texts} (f : Node → Node) → ((q : Node) → Lies T (property_at t) q → Lies T (property_at t) (f q)) → (p : Node) → Lies T (pattern_at t w) p → shape p ≡ object_pattern
        → Lies T (pattern_at t w) (with_properties f p)
    unfolding change change_in on_items
    properties_lies {T = T} f g p l e = go (object_view t w p l e)
      where
        go : {p : Node} → ObjectView T (property_at t) (leaf_at t) p → Lies T (pattern_at t w) (with_properties f p)
        go (ObjectView.plain a) = object_plain t w (lies_each f g a)
        go (ObjectView.rested a r) = object_rested t w (lies_each f g a) r

    pub values_lies : {T : Texts} (f : Node → Node) → ((v : Node) → Lies T (value_at t) v → Lies T (value_at t) (f v)) → (p : Node) → Lies T (pattern_at t w) p → shape p ≡ object_pattern
        → Lies T (pattern_at t w) (with_values f p)
    values_lies f g p l e = properties_lies (λ q. change 1 (on_node f) q) (λ q m. value_lies f g q m) p l e

    pub items_lies : {T : Texts} (f : Node → Node) → ((v : Node) → Lies T (value_at t) v → Lies T (value_at t) (f v)) → (p : Node) → Lies T (pattern_at t w) p → shape p ≡ array_pattern
        → Lies T (pattern_at t w) (with_items f p)
    unfolding change change_in on_items
    items_lies {T = T} f g p l e = go (array_view t w p l e)
      where
        go : {p : Node} → ArrayView T (value_at t) (whole_at t) p → Lies T (pattern_at t w) (with_items f p)
        go (ArrayView.plain a) = array_plain t w (lies_each f g a)
        go (ArrayView.rested a r u) = array_rested t w (lies_each f g a) r u

    -- an object is a whole pattern wherever it lies, and so it is without its rest
    pub object_whole : {T : Texts} (p : Node) → Lies T (pattern_at t w) p → shape p ≡ object_pattern → Lies T (whole_at t) p
    object_whole {T = T} p l e = go (object_view t w p l e)
      where
        go : {p : Node} → ObjectView T (property_at t) (leaf_at t) p → Lies T (whole_at t) p
        go (ObjectView.plain a) = object_plain t false a
        go (ObjectView.rested a r) = object_rested t false a r

    pub rest_dropped : {T : Texts} (p : Node) → Lies T (pattern_at t w) p → shape p ≡ object_pattern → Lies T (pattern_at t w) (without 1 p)
    unfolding without drop_in
    rest_dropped {T = T} p l e = go (object_view t w p l e)
      where
        go : {p : Node} → ObjectView T (property_at t) (leaf_at t) p → Lies T (pattern_at t w) (without 1 p)
        go (ObjectView.plain a) = object_plain t w a
        go (ObjectView.rested a r) = object_plain t w a

    -- the properties, and the rest if it stands
    pub properties_of : {T : Texts} (p : Node) → Lies T (pattern_at t w) p → shape p ≡ object_pattern → LieItems T (property_at t) false (properties p)
    unfolding items_at_of piece_in
    properties_of {T = T} p l e = go (object_view t w p l e)
      where
        go : {p : Node} → ObjectView T (property_at t) (leaf_at t) p → LieItems T (property_at t) false (properties p)
        go (ObjectView.plain a) = a
        go (ObjectView.rested a r) = a

    pub rest_of : {T : Texts} (p : Node) → Lies T (pattern_at t w) p → shape p ≡ object_pattern → has_rest_of p ≡ true → Lies T (leaf_at t) (rest p)
    unfolding stands stands_in node_at_of piece_in
    rest_of {T = T} p l e h = go (object_view t w p l e) h
      where
        go : {p : Node} → ObjectView T (property_at t) (leaf_at t) p → has_rest_of p ≡ true → Lies T (leaf_at t) (rest p)
        go (ObjectView.plain a) h = let z : ◌≡◌ {A = ℕ} 0 1 = cc in absurd (omega arith)
        go (ObjectView.rested a r) h = r

    pub items_of_lem : {T : Texts} (p : Node) → Lies T (pattern_at t w) p → shape p ≡ array_pattern → LieItems T (value_at t) true (items_of p)
    unfolding items_at_of piece_in
    items_of_lem {T = T} p l e = go (array_view t w p l e)
      where
        go : {p : Node} → ArrayView T (value_at t) (whole_at t) p → LieItems T (value_at t) true (items_of p)
        go (ArrayView.plain a) = a
        go (ArrayView.rested a r u) = a

  pub value_of_lem : {T : Texts} (q : Node) → Lies T (property_at t) q → Lies T (value_at t) (value q)
  unfolding node_at_of piece_in
  value_of_lem {T = T} q l = go (property_view t q l)
    where
      go : {q : Node} → PropertyView T (value_at t) q → Lies T (value_at t) (value q)
      go (PropertyView.property a b c) = b

  pub key_of_lem : {T : Texts} (q : Node) → Lies T (property_at t) q → Lies T 11 (node_at_of 0 q)
  unfolding node_at_of piece_in
  key_of_lem {T = T} q l = go (property_view t q l)
    where
      go : {q : Node} → PropertyView T (value_at t) q → Lies T 11 (node_at_of 0 q)
      go (PropertyView.property a b c) = a

  pub key_changed : {T : Texts} (f : Node → Node) → ((k : Node) → Lies T 11 k → Lies T 11 (f k)) → (q : Node) → Lies T (property_at t) q → Lies T (property_at t) (change 0 (on_node f) q)
  unfolding change change_in on_node
  key_changed {T = T} f g q l = go (property_view t q l)
    where
      go : {q : Node} → PropertyView T (value_at t) q → Lies T (property_at t) (change 0 (on_node f) q)
      go (PropertyView.property a b c) = property_made t (g _ a) b c

  pub left_changed : {T : Texts} (f : Node → Node) → ((v : Node) → Lies T (whole_at t) v → Lies T (whole_at t) (f v)) → (p : Node) → Lies T (value_at t) p → shape p ≡ Shape.default → Lies T (value_at t) (with_left f p)
  unfolding change change_in on_node
  left_changed {T = T} f g p l e = go (default_view t p l e)
    where
      go : {p : Node} → DefaultView T (whole_at t) p → Lies T (value_at t) (with_left f p)
      go (DefaultView.defaulted a b) = default_made t (g _ a) b

  pub left_of_lem : {T : Texts} (p : Node) → Lies T (value_at t) p → shape p ≡ Shape.default → Lies T (whole_at t) (left_of p)
  unfolding node_at_of piece_in
  left_of_lem {T = T} p l e = go (default_view t p l e)
    where
      go : {p : Node} → DefaultView T (whole_at t) p → Lies T (whole_at t) (left_of p)
      go (DefaultView.defaulted a b) = a

  -- a Default stands as a value only
  pub left_lies : {T : Texts} (w : Bool) (f : Node → Node) → ((v : Node) → Lies T (whole_at t) v → Lies T (whole_at t) (f v)) → (p : Node) → Lies T (pattern_at t w) p → shape p ≡ Shape.default → Lies T (pattern_at t w) (with_left f p)
  left_lies false f g p l e = absurd (no_default_whole t p l e)
  left_lies true f g p l e = left_changed f g p l e

  pub left_whole : {T : Texts} (w : Bool) (p : Node) → Lies T (pattern_at t w) p → shape p ≡ Shape.default → Lies T (whole_at t) (left_of p)
  left_whole false p l e = absurd (no_default_whole t p l e)
  left_whole true p l e = left_of_lem p l e

module _ (c : Context) (t : Bool) where
  pub reference_lies : {T : Texts} (w : Bool) (p : Node) → Lies T (pattern_at t w) (reference c p)
  reference_lies w p = Lies.named {stem = 1} (temporary_form t w) (omega arith) (omega arith)

  -- ---- objects with rest replaced

  pub replaced_lies : {T : Texts} (d : ℕ) (w : Bool) (p : Node) → Lies T (pattern_at t w) p → Lies T (pattern_at t w) (replaced c d p)
  unfolding replaced
  replaced_lies zero w p l = l
  replaced_lies (suc d) w p l =
      by_shape (shape p)
      (λ e. rw (replaced_object c d p e)
      (by_test (has_rest_of p) (λ h. rw h (reference_lies w p)) (λ h. rw h (values_lies t w (λ v. replaced c d v) (λ v m. replaced_lies d true v m) p l e))))
      (λ e. rw (replaced_array c d p e) (items_lies t w (λ v. replaced c d v) (λ v m. replaced_lies d true v m) p l e))
      (λ e. rw (replaced_default c d p e) (left_lies t w (λ v. replaced c d v) (λ v m. replaced_lies d false v m) p l e))
      (λ e. rw (replaced_leaf c d p e) l)

  pub parts_lie : {T : Texts} (d : ℕ) (w : Bool) (p : Node) → Lies T (pattern_at t w) p → Lies T (pattern_at t w) (parts_replaced c d p)
  unfolding parts_replaced
  parts_lie zero w p l = l
  parts_lie (suc d) w p l =
      by_shape (shape p)
      (λ e. rw (parts_object c d p e)
      (by_test (has_rest_of p) (λ h. rw h (reference_lies w p)) (λ h. rw h (values_lies t w (λ v. parts_replaced c d v) (λ v m. parts_lie d true v m) p l e))))
      (λ e. rw (parts_array c d p e) l)
      (λ e. rw (parts_default c d p e) (left_lies t w (λ v. parts_replaced c d v) (λ v m. parts_lie d false v m) p l e))
      (λ e. rw (parts_leaf c d p e) l)

module _ (t : Bool) where
  -- ---- the objects with rest that are found

  pub nearest_lie : {T : Texts} (arrays : Bool) (d : ℕ) (w : Bool) (p : Node) → Lies T (pattern_at t w) p → LieItems T (whole_at t) false (nearest arrays d p)
  unfolding nearest
  nearest_lie arrays zero w p l = LieItems.none
  nearest_lie arrays (suc d) w p l =
      by_shape (shape p)
      (λ e. rw (nearest_object arrays d p e)
      (lies_if (has_rest_of p) (λ h. lies_only (object_whole t w p l e))
      (λ h. lies_gather false (λ q. nearest arrays d (value q)) (λ q m. nearest_lie arrays d true (value q) (value_of_lem t q m)) (properties_of t w p l e))))
      (λ e. rw (nearest_array arrays d p e)
      (lies_if arrays (λ h. lies_gather false (λ m. nearest arrays d m) (λ x m. nearest_lie arrays d true x m) (items_of_lem t w p l e)) (λ h. LieItems.none)))
      (λ e. rw (nearest_default arrays d p e) (nearest_lie arrays d false (left_of p) (left_whole t w p l e)))
      (λ e. rw (nearest_leaf arrays d p e) LieItems.none)
