-- Targets seen through views: where nothing is left to be replaced or taken.
-- Assumes nothing.
use mathlib.Core.Path.{◌≡◌, refl, sym, ap, ap₂, ◌∙◌, fun_ext}
use mathlib.Core.Bool.{Bool, false, ◌||◌}
use Prim.Native.Nat.{ℕ, zero, suc, ◌+◌}
use native.Mathlib.Omega.{arith}
use Rattle.tree.specs.Tree.{Node, Piece, Items, depth}
use Rattle.tree.specs.Tree.Node.{node}
use Rattle.tree.specs.Tree.Fields.{done, absent, field}
use Rattle.tree.specs.Tree.Piece.{one, list, text, byte, mark, number}
use Rattle.lowering.specs.Parts.{nothing, is, piece_in, change_in, node_at_of, change, on_node, on_items, change_node, change_items, without, each, any}
use Rattle.lowering.specs.Made.{Context}
use Rattle.lowering.specs.Patterns.{shape, properties, items_of, rest, has_rest_of, left_of, value, with_left, with_items, with_values, with_properties, has_nested_object_rest, has_nested_array_rest, has_object_rest, has_array_rest_over_object_rest, replaced, replaced_below}
use Rattle.lowering.specs.Patterns.Shape.{object_pattern, array_pattern, default, leaf}
use Rattle.lowering.specs.Keys.{kept_key, taken}
use Rattle.lowering.proofs.Cases.{by_test, by_shape, or_left, or_right}
use Rattle.lowering.proofs.WeightKeys.{rest_changed}
use Rattle.lowering.proofs.Levels.{has_levels, array_levels, replaced_levels, reference_bare}
use Rattle.direct.proofs.ViewedPatterns.{value_twice}
use Rattle.direct.proofs.ObjectsByLevel.{value_changed}
use Rattle.direct.proofs.DeclarationsByPart.{properties_changed, rest_beside}
use Rattle.lowering.proofs.ItemLaws.{each_each, any_none}
use Rattle.lowering.proofs.ChangeLaws.{shape_changed, change_items_same, change_node_same, node_on, node_on_twice, items_without}
use Rattle.lowering.proofs.Clauses.{replaced_plain, replaced_top, replaced_array, replaced_default, replaced_leaf}
use Rattle.lowering.proofs.SoundKeys.{value_kept}

-- ---- lists and fields

pub any_each : (t : Node → Bool) (g : Node → Node) (is : Items) → any t (each g is) ≡ any (λ n. t (g n)) is
unfolding any each
any_each t g Items.none = refl
any_each t g (Items.hole is) = any_each t g is
any_each t g (Items.item n is) = ap (λ (b : Bool). t (g n) || b) (any_each t g is)

each_kept : (u : Node → Bool) (g : Node → Node) → ((n : Node) → u n ≡ false → g n ≡ n) → (is : Items) → any u is ≡ false → each g is ≡ is
unfolding any each
each_kept u g h Items.none e = refl
each_kept u g h (Items.hole is) e = ap Items.hole (each_kept u g h is e)
each_kept u g h (Items.item n is) e = ap₂ Items.item (h n (or_left (u n) (any u is) e)) (each_kept u g h is (or_right (u n) (any u is) e))

first_changed : (f : Node → Node) → f nothing ≡ nothing → (p : Node) → node_at_of 0 (change_node 0 f p) ≡ f (node_at_of 0 p)
unfolding node_at_of change change_in piece_in
first_changed f h (node at k done) = sym h
first_changed f h (node at k (absent fs)) = sym h
first_changed f h (node at k (field p fs)) = node_on f h p

pub left_twice : (f g : Node → Node) (p : Node) → with_left f (with_left g p) ≡ with_left (λ n. f (g n)) p
unfolding change change_in
left_twice f g (node at k done) = refl
left_twice f g (node at k (absent fs)) = refl
left_twice f g (node at k (field p fs)) = ap (λ (x : Piece). node at k (field x fs)) (node_on_twice f g p)

list_twice : (f g : Node → Node) (p : Piece) → on_items (each f) (on_items (each g) p) ≡ on_items (each (λ n. f (g n))) p
unfolding on_items
list_twice f g (one n) = refl
list_twice f g (list is) = ap list (each_each f g is)
list_twice f g (text bs) = refl
list_twice f g (byte b) = refl
list_twice f g (mark b) = refl
list_twice f g (number b) = refl

items_twice : (f g : Node → Node) (p : Node) → change_items 0 (each f) (change_items 0 (each g) p) ≡ change_items 0 (each (λ n. f (g n))) p
unfolding change change_in
items_twice f g (node at k done) = refl
items_twice f g (node at k (absent fs)) = refl
items_twice f g (node at k (field p fs)) = ap (λ (x : Piece). node at k (field x fs)) (list_twice f g p)

pub values_twice : (f g : Node → Node) (p : Node) → with_values f (with_values g p) ≡ with_values (λ v. f (g v)) p
values_twice f g p =
    items_twice (λ q. change_node 1 f q) (λ q. change_node 1 g q) p
    ∙ ap (λ (h : Node → Node). change_items 0 (each h) p) (fun_ext (λ q. value_twice f g q))

-- ---- clauses as equations

module _ (d : ℕ) (p : Node) where
  pub has_object : shape p ≡ object_pattern → has_nested_object_rest (suc d) p ≡ has_rest_of p || any (λ q. has_nested_object_rest d (value q)) (properties p)
  unfolding has_nested_object_rest
  has_object e = rw (e, has_nested_object_rest) refl

  pub has_array : shape p ≡ array_pattern → has_nested_object_rest (suc d) p ≡ any (λ x. has_nested_object_rest d x) (items_of p) || has_nested_object_rest d (rest p)
  unfolding has_nested_object_rest
  has_array e = rw (e, has_nested_object_rest) refl

  pub has_default : shape p ≡ default → has_nested_object_rest (suc d) p ≡ has_nested_object_rest d (left_of p)
  unfolding has_nested_object_rest
  has_default e = rw (e, has_nested_object_rest) refl

  pub has_leaf : shape p ≡ leaf → has_nested_object_rest (suc d) p ≡ false
  unfolding has_nested_object_rest
  has_leaf e = rw (e, has_nested_object_rest) refl

  pub over_object : shape p ≡ object_pattern → has_nested_array_rest (suc d) p ≡ any (λ q. has_nested_array_rest d (value q)) (properties p)
  unfolding has_nested_array_rest
  over_object e = rw (e, has_nested_array_rest) refl

  pub over_array : shape p ≡ array_pattern → has_nested_array_rest (suc d) p ≡ any (λ x. has_nested_array_rest d x) (items_of p) || has_nested_object_rest d (rest p)
  unfolding has_nested_array_rest
  over_array e = rw (e, has_nested_array_rest) refl

  pub over_default : shape p ≡ default → has_nested_array_rest (suc d) p ≡ has_nested_array_rest d (left_of p)
  unfolding has_nested_array_rest
  over_default e = rw (e, has_nested_array_rest) refl

module _ (κ : Context) where
  pub rep_nothing : (d : ℕ) → replaced κ d nothing ≡ nothing
  unfolding replaced shape
  rep_nothing zero = refl
  rep_nothing (suc d) = refl

  -- ---- no object rest below: nothing is replaced

  replaced_none : (d : ℕ) (p : Node) → has_nested_object_rest d p ≡ false → replaced κ d p ≡ p
  unfolding replaced
  replaced_none zero p h = refl
  replaced_none (suc d) p h =
      by_shape (shape p)
      (λ e.
      let z = sym (has_object d p e) ∙ h in
      let t : Node → Bool = λ q. has_nested_object_rest d (value q) in
      replaced_plain κ d p e (or_left (has_rest_of p) (any t (properties p)) z)
      ∙ change_items_same 0 (each (λ q. change_node 1 (λ v. replaced κ d v) q)) p
      (each_kept t (λ q. change_node 1 (λ v. replaced κ d v) q) (λ q y. change_node_same 1 (λ v. replaced κ d v) q (replaced_none d (value q) y)) (properties p) (or_right (has_rest_of p) (any t (properties p)) z)))
      (λ e.
      let z = sym (has_array d p e) ∙ h in
      let t : Node → Bool = λ x. has_nested_object_rest d x in
      replaced_array κ d p e
      ∙ change_items_same 0 (each (λ v. replaced κ d v)) p
      (each_kept t (λ v. replaced κ d v) (λ x y. replaced_none d x y) (items_of p) (or_left (any t (items_of p)) (has_nested_object_rest d (rest p)) z)))
      (λ e. replaced_default κ d p e ∙ change_node_same 0 (λ v. replaced κ d v) p (replaced_none d (left_of p) (sym (has_default d p e) ∙ h)))
      (λ e. replaced_leaf κ d p e)

  pub replaced_nothing : (p : Node) → has_object_rest p ≡ false → replaced_below κ p ≡ p
  replaced_nothing p h = replaced_none (depth p) p h

  -- ---- once objects are replaced no object rest is left, if none is below an array rest

  pub values_changed : (t : Node → Bool) (f : Node → Node) → f nothing ≡ nothing → (p : Node)
      → any (λ q. t (value q)) (properties (with_values f p)) ≡ any (λ q. t (f (value q))) (properties p)
  values_changed t f z p =
      ap (any (λ q. t (value q))) (properties_changed (λ q. change_node 1 f q) p)
      ∙ any_each (λ q. t (value q)) (λ q. change_node 1 f q) (properties p)
      ∙ ap (λ (g : Node → Bool). any g (properties p)) (fun_ext (λ q. ap t (value_changed f z q)))

  pub left_changed : (f : Node → Node) → f nothing ≡ nothing → (p : Node) → left_of (with_left f p) ≡ f (left_of p)
  left_changed f z p = first_changed f z p

  pub has_replaced : (d : ℕ) (p : Node) → has_nested_array_rest d p ≡ false → has_nested_object_rest d (replaced κ d p) ≡ false
  unfolding has_nested_object_rest
  has_replaced zero p h = refl
  has_replaced (suc d) p h =
      let f : Node → Node = λ v. replaced κ d v in
      let t : Node → Bool = λ v. has_nested_object_rest d v in
      by_shape (shape p)
      (λ e.
      by_test (has_rest_of p)
      (λ r. ap (has_nested_object_rest (suc d)) (replaced_top κ d p e r) ∙ reference_bare κ p (suc d))
      (λ r.
      let g : Piece → Piece = on_items (each (λ q. change_node 1 f q)) in
      ap (has_nested_object_rest (suc d)) (replaced_plain κ d p e r)
      ∙ has_object d (with_values f p) (shape_changed 0 g p ∙ e)
      ∙ ap₂ (λ (a b : Bool). a || b) (rest_changed 0 g p ∙ r)
      (values_changed t f (rep_nothing d) p
      ∙ any_none (λ q. has_nested_array_rest d (value q)) (λ q. t (f (value q))) (λ q y. has_replaced d (value q) y) (properties p) (sym (over_object d p e) ∙ h))))
      (λ e.
      let z = sym (over_array d p e) ∙ h in
      let u : Node → Bool = λ x. has_nested_array_rest d x in
      ap (has_nested_object_rest (suc d)) (replaced_array κ d p e)
      ∙ has_array d (with_items f p) (shape_changed 0 (on_items (each f)) p ∙ e)
      ∙ ap₂ (λ (a b : Bool). a || b)
      (ap (any t) (properties_changed f p) ∙ any_each t f (items_of p) ∙ any_none u (λ x. t (f x)) (λ x y. has_replaced d x y) (items_of p) (or_left (any u (items_of p)) (t (rest p)) z))
      (ap t (rest_beside (on_items (each f)) p) ∙ or_right (any u (items_of p)) (t (rest p)) z))
      (λ e.
      ap (has_nested_object_rest (suc d)) (replaced_default κ d p e)
      ∙ has_default d (with_left f p) (shape_changed 0 (on_node f) p ∙ e)
      ∙ ap t (left_changed f (rep_nothing d) p)
      ∙ has_replaced d (left_of p) (sym (over_default d p e) ∙ h))
      (λ e. ap (has_nested_object_rest (suc d)) (replaced_leaf κ d p e) ∙ has_leaf d p e)

  pub replaced_clear : (p : Node) → has_array_rest_over_object_rest p ≡ false → has_object_rest (replaced_below κ p) ≡ false
  replaced_clear p h =
      let x = replaced_below κ p in
      let b = depth p + depth x in
      sym (has_levels b x (omega arith))
      ∙ ap (has_nested_object_rest b) (sym (replaced_levels b p (omega arith) κ))
      ∙ has_replaced b p (array_levels b p (omega arith) ∙ h)

-- ---- the rest of an object taken

shape_left : (n : Node) → shape (without 1 n) ≡ shape n
unfolding shape without
shape_left (node at k fs) = refl

module _ (κ : Context) where
  pub shape_taken : (p : Node) → shape (taken κ p) ≡ shape p
  unfolding taken
  shape_taken p =
      by_test (has_rest_of p) (λ r. rw r (shape_left (with_properties (kept_key κ) p) ∙ shape_changed 0 (on_items (each (kept_key κ))) p)) (λ r. rw r refl)

  pub any_taken : (t : Node → Bool) (p : Node) → any (λ q. t (value q)) (properties (taken κ p)) ≡ any (λ q. t (value q)) (properties p)
  unfolding taken
  any_taken t p =
      by_test (has_rest_of p)
      (λ r. rw r
      (ap (any (λ q. t (value q))) (items_without (with_properties (kept_key κ) p) ∙ properties_changed (kept_key κ) p)
      ∙ any_each (λ q. t (value q)) (kept_key κ) (properties p)
      ∙ ap (λ (g : Node → Bool). any g (properties p)) (fun_ext (λ q. ap t (value_kept κ q)))))
      (λ r. rw r refl)
