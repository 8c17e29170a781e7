-- What the rules do to rests in patterns: none is left where they look.
-- Assumes nothing.
use mathlib.Core.Path.{◌≡◌, refl, ap, ◌∙◌}
use mathlib.Core.Bool.{Bool, true, false, ◌||◌, true≢false}
use Prim.Native.Nat.{ℕ, zero, suc, ◌≤◌}
use native.Mathlib.Omega.{arith}
use Rattle.tree.specs.Tree.{Node, Items, depth, depth_items}
use Rattle.tree.specs.Tree.Items.{none, hole, item}
use Rattle.lowering.specs.Parts.{is, node_at_of, items_at_of, stands, piece_in, stands_in, change, change_in, on_node, on_items, without, drop_in, each, gather, any, ◌+++◌}
use Rattle.lowering.specs.Made.{Context, reference}
use Rattle.lowering.specs.Patterns.{Shape, shape, properties, items_of, rest, has_rest_of, left_of, value, with_left, with_items, with_rest, with_values, has_nested_object_rest, has_object_rest, replaced}
use Rattle.lowering.specs.Patterns.Shape.{object_pattern}
use Rattle.lowering.specs.Keys.{kept_key, taken}
use Rattle.lowering.specs.Assignments.{nearest}
use Rattle.lowering.specs.Heads.{moved_out_of}
use Rattle.lowering.proofs.Cases.{by_test, by_shape, or_left, or_right}
use Rattle.lowering.proofs.All.{AllItems, none_passes, weaker_items}
use Rattle.lowering.proofs.Levels.{depth_pos, has_nothing, reference_clear, reference_bare}
use Rattle.lowering.proofs.Clauses.{replaced_object, replaced_array, replaced_default, replaced_leaf, nearest_object, nearest_array, nearest_default, nearest_leaf, has_leaf}
use Rattle.lowering.proofs.SoundKeys.{value_kept}
use Rattle.result.proofs.Lies.{Texts, Lies, LieItems}
use Rattle.result.proofs.LyingPatterns.{whole_at, value_at, property_at, leaf_at, pattern_at, ObjectView, PropertyView, ArrayView, DefaultView, object_view, array_view, property_view, default_view, no_default_whole, array_plain, array_rested}
use Rattle.result.proofs.Valued.{none_any}
use Rattle.result.proofs.PatternsLie.{left_lies, reference_lies}

-- ---- lists

gather_none : (f : Node → Items) (is : Items) → AllItems (λ n. f n ≡ none) is → gather f is ≡ none
unfolding gather ◌+++◌
gather_none f none h = refl
gather_none f (hole is) h = gather_none f is h
gather_none f (item n is) h = rw h.0 (gather_none f is h.1)

pub leaf_clear : (p : Node) → shape p ≡ Shape.leaf → (e : ℕ) → nearest true e p ≡ none
unfolding nearest
leaf_clear p s zero = refl
leaf_clear p s (suc e) = nearest_leaf true e p s

-- nothing is found where there is no object rest
pub bare_clear : (e : ℕ) (p : Node) → has_nested_object_rest e p ≡ false → nearest true e p ≡ none
unfolding nearest has_nested_object_rest
bare_clear zero p h = refl
bare_clear (suc e) p h =
    by_shape (shape p)
    (λ s.
    let k : (has_rest_of p || any (λ q. has_nested_object_rest e (value q)) (properties p)) ≡ false = rw (s, has_nested_object_rest) at h in
    let r : has_rest_of p ≡ false = or_left (has_rest_of p) (any (λ q. has_nested_object_rest e (value q)) (properties p)) k in
    nearest_object true e p s ∙ rw r
    (gather_none (λ q. nearest true e (value q)) (properties p)
    (weaker_items (λ q. has_nested_object_rest e (value q) ≡ false) (λ q. nearest true e (value q) ≡ none) (λ q z. bare_clear e (value q) z) (properties p)
    (none_passes (λ q. has_nested_object_rest e (value q)) (properties p) (or_right (has_rest_of p) (any (λ q. has_nested_object_rest e (value q)) (properties p)) k)))))
    (λ s.
    let k : (any (λ x. has_nested_object_rest e x) (items_of p) || has_nested_object_rest e (rest p)) ≡ false = rw (s, has_nested_object_rest) at h in
    nearest_array true e p s
    ∙ gather_none (λ m. nearest true e m) (items_of p)
    (weaker_items (λ x. has_nested_object_rest e x ≡ false) (λ x. nearest true e x ≡ none) (λ x z. bare_clear e x z) (items_of p)
    (none_passes (λ x. has_nested_object_rest e x) (items_of p) (or_left (any (λ x. has_nested_object_rest e x) (items_of p)) (has_nested_object_rest e (rest p)) k))))
    (λ s. nearest_default true e p s ∙ bare_clear e (left_of p) (rw (s, has_nested_object_rest) at h))
    (λ s. nearest_leaf true e p s)

-- ---- values replaced by f, which clears each of at most d levels

module _ {T : Texts} (t : Bool) (f : Node → Node) (d : ℕ) (g : (v : Node) → Lies T (value_at t) v → depth v ≤ d → (e : ℕ) → nearest true e (f v) ≡ none) where
  value_clear : (q : Node) → PropertyView T (value_at t) q → depth q ≤ d → (e : ℕ) → nearest true e (value (change 1 (on_node f) q)) ≡ none
  unfolding change change_in on_node node_at_of piece_in depth
  value_clear q (PropertyView.property {value = v} x y z) k e = g v y (omega arith) e

  values_clear : {h : Bool} {ps : Items} → LieItems T (property_at t) h ps → depth_items ps ≤ d → (e : ℕ) → AllItems (λ q. nearest true e (value q) ≡ none) (each (λ q. change 1 (on_node f) q) ps)
  unfolding each depth
  values_clear LieItems.none l e = tt
  values_clear (LieItems.hole a) l e = values_clear a l e
  values_clear (LieItems.item {n = q} {is = ps} x a) l e = (value_clear q (property_view t q x) (omega arith) e, values_clear a (omega arith) e)

  items_clear : {h : Bool} {is : Items} → LieItems T (value_at t) h is → depth_items is ≤ d → (e : ℕ) → AllItems (λ x. nearest true e x ≡ none) (each f is)
  unfolding each depth
  items_clear LieItems.none l e = tt
  items_clear (LieItems.hole a) l e = items_clear a l e
  items_clear (LieItems.item {n = x} y a) l e = (g x y (omega arith) e, items_clear a (omega arith) e)

  values_none : {p : Node} → ObjectView T (property_at t) (leaf_at t) p → has_rest_of p ≡ false → depth p ≤ suc d → (e : ℕ) → nearest true e (with_values f p) ≡ none
  unfolding nearest change change_in on_items stands stands_in items_at_of piece_in shape depth
  values_none (ObjectView.plain a) h k zero = refl
  values_none (ObjectView.plain {ps = ps} a) h k (suc e) = gather_none (λ q. nearest true e (value q)) (each (λ q. change 1 (on_node f) q) ps) (values_clear a (omega arith) e)
  values_none (ObjectView.rested a r) h k e = absurd (true≢false h)

  -- the pattern with its values replaced, and when its rest is taken
  object_clear : (w : Bool) (p : Node) → Lies T (pattern_at t w) p → shape p ≡ object_pattern → has_rest_of p ≡ false → depth p ≤ suc d → (e : ℕ) → nearest true e (with_values f p) ≡ none
  object_clear w p l o h k e = values_none (object_view t w p l o) h k e

  module _ (c : Context) where
    kept_clear : (e : ℕ) (is : Items) → AllItems (λ q. nearest true e (value q) ≡ none) is → AllItems (λ q. nearest true e (value q) ≡ none) (each (kept_key c) is)
    unfolding each
    kept_clear e none h = tt
    kept_clear e (hole is) h = kept_clear e is h
    kept_clear e (item q is) h = (ap (nearest true e) (value_kept c q) ∙ h.0, kept_clear e is h.1)

    taken_none : {p : Node} → ObjectView T (property_at t) (leaf_at t) p → depth p ≤ suc d → (e : ℕ) → nearest true e (taken c (with_values f p)) ≡ none
    unfolding nearest taken change change_in on_items stands stands_in items_at_of piece_in without drop_in shape depth
    taken_none (ObjectView.plain a) k zero = refl
    taken_none (ObjectView.plain {ps = ps} a) k (suc e) = gather_none (λ q. nearest true e (value q)) (each (λ q. change 1 (on_node f) q) ps) (values_clear a (omega arith) e)
    taken_none (ObjectView.rested a r) k zero = refl
    taken_none (ObjectView.rested {ps = ps} a r) k (suc e) =
        gather_none (λ q. nearest true e (value q)) (each (kept_key c) (each (λ q. change 1 (on_node f) q) ps)) (kept_clear e (each (λ q. change 1 (on_node f) q) ps) (values_clear a (omega arith) e))

    pub taken_clear : (w : Bool) (p : Node) → Lies T (pattern_at t w) p → shape p ≡ object_pattern → depth p ≤ suc d → (e : ℕ) → nearest true e (taken c (with_values f p)) ≡ none
    taken_clear w p l o k e = taken_none (object_view t w p l o) k e

  array_none : {p : Node} → ArrayView T (value_at t) (whole_at t) p → depth p ≤ suc d → (e : ℕ) → nearest true e (with_items f p) ≡ none
  unfolding nearest change change_in on_items items_at_of piece_in shape depth
  array_none (ArrayView.plain a) k zero = refl
  array_none (ArrayView.plain {is = is} a) k (suc e) = gather_none (λ m. nearest true e m) (each f is) (items_clear a (omega arith) e)
  array_none (ArrayView.rested a r u) k zero = refl
  array_none (ArrayView.rested {is = is} a r u) k (suc e) = gather_none (λ m. nearest true e m) (each f is) (items_clear a (omega arith) e)

default_none : {T : Texts} (t : Bool) (f : Node → Node) (d : ℕ) → ((v : Node) → Lies T (whole_at t) v → depth v ≤ d → (e : ℕ) → nearest true e (f v) ≡ none) → {p : Node} → DefaultView T (whole_at t) p → depth p ≤ suc d → (e : ℕ)
    → nearest true e (with_left f p) ≡ none
unfolding nearest change change_in on_node node_at_of piece_in shape depth
default_none t f d g (DefaultView.defaulted a b) k zero = refl
default_none t f d g (DefaultView.defaulted {left = v} a b) k (suc e) = g v a (omega arith) e

pub by_default : {T : Texts} (t w : Bool) (p : Node) → Lies T (pattern_at t w) p → shape p ≡ Shape.default → DefaultView T (whole_at t) p
by_default t false p l s = absurd (no_default_whole t p l s)
by_default t true p l s = default_view t p l s

-- ---- objects with rest replaced: none is left but below array rests

pub replaced_clear : {T : Texts} (c : Context) (t : Bool) (d : ℕ) (w : Bool) (p : Node) → Lies T (pattern_at t w) p → depth p ≤ d → (e : ℕ) → nearest true e (replaced c d p) ≡ none
replaced_clear c t zero w p l k e = absurd (let z = depth_pos p in omega arith)
replaced_clear c t (suc d) w p l k e =
    by_shape (shape p)
    (λ s. by_test (has_rest_of p)
    (λ h. ap (nearest true e) (replaced_object c d p s ∙ rw h refl) ∙ reference_clear c p e)
    (λ h. ap (nearest true e) (replaced_object c d p s ∙ rw h refl) ∙ object_clear t (λ v. replaced c d v) d (λ v m n i. replaced_clear c t d true v m n i) w p l s h k e))
    (λ s. ap (nearest true e) (replaced_array c d p s) ∙ array_none t (λ v. replaced c d v) d (λ v m n i. replaced_clear c t d true v m n i) (array_view t w p l s) k e)
    (λ s. ap (nearest true e) (replaced_default c d p s) ∙ default_none t (λ v. replaced c d v) d (λ v m n i. replaced_clear c t d false v m n i) (by_default t w p l s) k e)
    (λ s. ap (nearest true e) (replaced_leaf c d p s) ∙ leaf_clear p s e)

-- ---- patterns moved out: no object rest is left at all

module _ {T : Texts} (t : Bool) (f : Node → Node) (d : ℕ) (g : (w : Bool) (v : Node) → Lies T (pattern_at t w) v → depth v ≤ d → (e : ℕ) → has_nested_object_rest e (f v) ≡ false) where
  items_bare : {h : Bool} {is : Items} → LieItems T (value_at t) h is → depth_items is ≤ d → (e : ℕ) → AllItems (λ x. has_nested_object_rest e x ≡ false) (each f is)
  unfolding each depth
  items_bare LieItems.none l e = tt
  items_bare (LieItems.hole a) l e = items_bare a l e
  items_bare (LieItems.item {n = x} y a) l e = (g true x y (omega arith) e, items_bare a (omega arith) e)

  array_bare : {p : Node} → ArrayView T (value_at t) (whole_at t) p → depth p ≤ suc d → (e : ℕ) → has_nested_object_rest e (with_rest f (with_items f p)) ≡ false
  unfolding has_nested_object_rest change change_in on_items on_node items_at_of node_at_of piece_in shape depth
  array_bare (ArrayView.plain a) k zero = refl
  array_bare (ArrayView.plain {is = is} a) k (suc e) = rw (none_any (λ x. has_nested_object_rest e x) (each f is) (items_bare a (omega arith) e)) (has_nothing e)
  array_bare (ArrayView.rested a r u) k zero = refl
  array_bare (ArrayView.rested {is = is} {r = v} a r u) k (suc e) = rw (none_any (λ x. has_nested_object_rest e x) (each f is) (items_bare a (omega arith) e)) (g false v r (omega arith) e)

default_bare : {T : Texts} (c : Context) (t : Bool) (o : Node) {p : Node} → DefaultView T (whole_at t) p → (e : ℕ) → has_nested_object_rest e (with_left (λ l. reference c o) p) ≡ false
unfolding has_nested_object_rest change change_in on_node node_at_of piece_in shape
default_bare c t o (DefaultView.defaulted a b) zero = refl
default_bare c t o (DefaultView.defaulted a b) (suc e) = reference_bare c o e

pub moved_out_bare : {T : Texts} (c : Context) (t : Bool) (d : ℕ) (w : Bool) (p : Node) → Lies T (pattern_at t w) p → depth p ≤ d → (e : ℕ) → has_nested_object_rest e (moved_out_of c d p) ≡ false
unfolding moved_out_of
moved_out_bare c t zero w p l k e = absurd (let z = depth_pos p in omega arith)
moved_out_bare c t (suc d) w p l k e =
    by_shape (shape p)
    (λ s. rw (s, moved_out_of) (reference_bare c p e))
    (λ s. rw (s, moved_out_of) (array_bare t (λ v. moved_out_of c d v) d (λ w v m n i. moved_out_bare c t d w v m n i) (array_view t w p l s) k e))
    (λ s. rw (s, moved_out_of) (default_bare c t p (by_default t w p l s) e))
    (λ s. rw (s, moved_out_of) (has_leaf e p s))

-- what is left lies where the pattern lay
module _ {T : Texts} (t : Bool) (f : Node → Node) (d : ℕ) (g : (w : Bool) (v : Node) → Lies T (pattern_at t w) v → depth v ≤ d → Lies T (pattern_at t w) (f v))
    (h : (v : Node) → Lies T (whole_at t) v → depth v ≤ d → has_object_rest (f v) ≡ false) where
  items_changed : {o : Bool} {is : Items} → LieItems T (value_at t) o is → depth_items is ≤ d → LieItems T (value_at t) o (each f is)
  unfolding each depth
  items_changed LieItems.none l = LieItems.none
  items_changed (LieItems.hole a) l = LieItems.hole (items_changed a l)
  items_changed (LieItems.item {n = x} y a) l = LieItems.item (g true x y (omega arith)) (items_changed a (omega arith))

  array_changed : (w : Bool) {p : Node} → ArrayView T (value_at t) (whole_at t) p → depth p ≤ suc d → Lies T (pattern_at t w) (with_rest f (with_items f p))
  unfolding change change_in on_items on_node depth
  array_changed w (ArrayView.plain a) k = array_plain t w (items_changed a (omega arith))
  array_changed w (ArrayView.rested {r = v} a r u) k = array_rested t w (items_changed a (omega arith)) (g false v r (omega arith)) (λ b. h v r (omega arith))

pub moved_out_lies : {T : Texts} (c : Context) (t : Bool) (d : ℕ) (w : Bool) (p : Node) → Lies T (pattern_at t w) p → depth p ≤ d → Lies T (pattern_at t w) (moved_out_of c d p)
unfolding moved_out_of
moved_out_lies c t zero w p l k = l
moved_out_lies c t (suc d) w p l k =
    by_shape (shape p)
    (λ e. rw (e, moved_out_of) (reference_lies c t w p))
    (λ e. rw (e, moved_out_of) (array_changed t (λ v. moved_out_of c d v) d (λ w v m n. moved_out_lies c t d w v m n) (λ v m n. moved_out_bare c t d false v m n (depth (moved_out_of c d v))) w (array_view t w p l e) k))
    (λ e. rw (e, moved_out_of) (left_lies t w (λ v. reference c p) (λ v m. reference_lies c t false p) p l e))
    (λ e. rw (e, moved_out_of) l)
