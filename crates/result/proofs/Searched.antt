-- What the searches find: a rest that is reached from a pattern is found in it.
-- Assumes nothing.
use mathlib.Core.Path.{◌≡◌, refl, ap, ◌∙◌}
use mathlib.Core.Bool.{Bool, true, false, true≢false}
use Prim.Native.Nat.{ℕ, zero, suc, ◌<◌, ◌≤◌}
use native.Mathlib.Omega.{arith}
use Rattle.tree.specs.Tree.{Node, Fields, Piece, Items, depth, depth_fields, depth_piece}
use Rattle.lowering.specs.Parts.{is, is_empty, gather, any, ◌+++◌}
use Rattle.lowering.specs.Visits.{ItemAt, NodeIn, FieldAt, PartAt}
use Rattle.lowering.specs.Patterns.{Shape, shape, properties, items_of, rest, has_rest_of, left_of, value, has_nested_object_rest}
use Rattle.lowering.specs.Patterns.Shape.{object_pattern, array_pattern}
use Rattle.lowering.specs.Assignments.{nearest}
use Rattle.lowering.proofs.Cases.{by_test}
use Rattle.lowering.proofs.Levels.{depth_pos}
use Rattle.lowering.proofs.Clauses.{nearest_object, nearest_array, nearest_default}
use Rattle.lowering.proofs.PartsAt.{item_depth}
use Rattle.result.proofs.Standing.{or_then}

-- ---- parts have fewer levels

node_depth : {p : Piece} {j : ℕ} {x : Node} → NodeIn p j x → depth x ≤ depth_piece p
unfolding depth
node_depth NodeIn.one = omega arith
node_depth (NodeIn.list a) = item_depth a

field_depth : {fs : Fields} {i j : ℕ} {x : Node} → FieldAt fs i j x → depth x ≤ depth_fields fs
unfolding depth
field_depth (FieldAt.first a) = let l = node_depth a in omega arith
field_depth (FieldAt.behind a) = let l = field_depth a in omega arith
field_depth (FieldAt.behind_absent a) = field_depth a

pub part_depth : {n : Node} {i j : ℕ} {x : Node} → PartAt n i j x → depth x < depth n
unfolding depth
part_depth (PartAt.part a) = let l = field_depth a in omega arith

-- ---- lists

pub any_some : (f : Node → Bool) {is : Items} {j : ℕ} {x : Node} → ItemAt is j x → f x ≡ true → any f is ≡ true
unfolding any
any_some f ItemAt.first e = rw e refl
any_some f (ItemAt.behind {n = n} {is = is} a) e = or_then (f n) (any f is) (any_some f a e)
any_some f (ItemAt.behind_hole a) e = any_some f a e

some_append : (is js : Items) → is_empty is ≡ false → is_empty (is +++ js) ≡ false
unfolding is_empty ◌+++◌
some_append Items.none js h = absurd (true≢false h)
some_append (Items.hole is) js h = refl
some_append (Items.item n is) js h = refl

some_behind : (is js : Items) → is_empty js ≡ false → is_empty (is +++ js) ≡ false
unfolding is_empty ◌+++◌
some_behind Items.none js h = h
some_behind (Items.hole is) js h = refl
some_behind (Items.item n is) js h = refl

gather_some : (f : Node → Items) {is : Items} {j : ℕ} {x : Node} → ItemAt is j x → is_empty (f x) ≡ false → is_empty (gather f is) ≡ false
unfolding gather
gather_some f (ItemAt.first {x = x} {is = is}) e = some_append (f x) (gather f is) e
gather_some f (ItemAt.behind {n = n} {is = is} a) e = some_behind (f n) (gather f is) (gather_some f a e)
gather_some f (ItemAt.behind_hole a) e = gather_some f a e

-- ---- a rest is found in the pattern x, and by the search that leaves array rests out if none lies between

pub record Found (b : Bool) (x : Node) : Type 0 where
  pub has : (e : ℕ) → depth x ≤ e → has_nested_object_rest e x ≡ true
  pub near : b ≡ false → (e : ℕ) → depth x ≤ e → is_empty (nearest true e x) ≡ false

-- a level less
under : (P : ℕ → Type 0) (x : Node) → ((e : ℕ) → depth x ≤ suc e → P (suc e)) → (e : ℕ) → depth x ≤ e → P e
under P x f zero h = absurd (let z = depth_pos x in omega arith)
under P x f (suc e) h = f e h

pub found_here : (x : Node) → shape x ≡ object_pattern → has_rest_of x ≡ true → Found false x
unfolding has_nested_object_rest is_empty
found_here x s h =
    record {
      has = under (λ e. has_nested_object_rest e x ≡ true) x (λ e k. rw (s, has_nested_object_rest) (rw h refl));
      near = λ z. under (λ e. is_empty (nearest true e x) ≡ false) x (λ e k. ap is_empty (nearest_object true e x s) ∙ rw h refl);
    }

pub found_value_lem : {b : Bool} (x q : Node) {j : ℕ} → shape x ≡ object_pattern → ItemAt (properties x) j q → depth (value q) < depth x → Found b (value q) → Found b x
unfolding has_nested_object_rest is_empty
found_value_lem x q s i d f =
    record {
      has = under (λ e. has_nested_object_rest e x ≡ true) x (λ e k. rw (s, has_nested_object_rest)
          (or_then (has_rest_of x) (any (λ q. has_nested_object_rest e (value q)) (properties x)) (any_some (λ q. has_nested_object_rest e (value q)) i (f.has e (omega arith)))));
      near = λ z. under (λ e. is_empty (nearest true e x) ≡ false) x (λ e k. ap is_empty (nearest_object true e x s)
          ∙ by_test (has_rest_of x) (λ h. rw h refl) (λ h. rw h (gather_some (λ q. nearest true e (value q)) i (f.near z e (omega arith)))));
    }

pub found_item : {b : Bool} (x m : Node) {j : ℕ} → shape x ≡ array_pattern → ItemAt (items_of x) j m → depth m < depth x → Found b m → Found b x
unfolding has_nested_object_rest
found_item x m s i d f =
    record {
      has = under (λ e. has_nested_object_rest e x ≡ true) x (λ e k. rw (s, has_nested_object_rest)
          (rw (any_some (λ m. has_nested_object_rest e m) i (f.has e (omega arith))) refl));
      near = λ z. under (λ e. is_empty (nearest true e x) ≡ false) x (λ e k. ap is_empty (nearest_array true e x s) ∙ gather_some (λ m. nearest true e m) i (f.near z e (omega arith)));
    }

pub found_rest : {b : Bool} (x : Node) → shape x ≡ array_pattern → depth (rest x) < depth x → Found b (rest x) → Found true x
unfolding has_nested_object_rest
found_rest x s d f =
    record {
      has = under (λ e. has_nested_object_rest e x ≡ true) x (λ e k. rw (s, has_nested_object_rest)
          (or_then (any (λ m. has_nested_object_rest e m) (items_of x)) (has_nested_object_rest e (rest x)) (f.has e (omega arith))));
      near = λ z. absurd (true≢false z);
    }

pub found_left : {b : Bool} (x : Node) → shape x ≡ Shape.default → depth (left_of x) < depth x → Found b (left_of x) → Found b x
unfolding has_nested_object_rest
found_left x s d f =
    record {
      has = under (λ e. has_nested_object_rest e x ≡ true) x (λ e k. rw (s, has_nested_object_rest) (f.has e (omega arith)));
      near = λ z. under (λ e. is_empty (nearest true e x) ≡ false) x (λ e k. ap is_empty (nearest_default true e x s) ∙ f.near z e (omega arith));
    }
