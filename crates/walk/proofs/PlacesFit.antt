-- No more is handed out than the target has bytes.
-- Assumes nothing.
use mathlib.Core.Path.{ap, ◌∙◌, subst}
use mathlib.Core.Bool.{Bool, true, false, cond}
use Prim.Native.Nat.{ℕ, zero, suc, ◌≤◌}
use native.Mathlib.Omega.{arith}
use lib.ListN.{length}
use Rattle.tree.specs.Tree.{Node, Items, count, encode, depth}
use Rattle.tree.specs.Tree.Items.{none, hole, item}
use Rattle.lowering.specs.Parts.{nothing, only, gather}
use Rattle.lowering.specs.Patterns.{shape, properties, items_of, has_rest_of, left_of, value}
use Rattle.lowering.proofs.Cases.{by_shape}
use Rattle.lowering.proofs.ItemLaws.{items_none, count_append, count_none}
use Rattle.pattern.proofs.CountsFit.{size, Small, object_small, nearest_fit}
use Rattle.direct.specs.Views.{View}
use Rattle.direct.specs.Views.View.{replacing, taking}
use Rattle.direct.specs.Objects.{Reach, counts, enters, reached_at, reached}
use Rattle.direct.specs.Objects.Reach.{anywhere, in_arrays}
use Rattle.direct.specs.Handed.{places_in}
use Rattle.direct.proofs.NearestObjects.{reached_nothing, outermost_reached}

-- ---- no more below arrays than anywhere

gather_fewer : (f g : Node → Items) → ((n : Node) → count (f n) ≤ count (g n)) → (is : Items) → count (gather f is) ≤ count (gather g is)
unfolding gather count
gather_fewer f g h none = omega arith
gather_fewer f g h (hole is) = gather_fewer f g h is
gather_fewer f g h (item n is) =
    let a = h n in
    let b = gather_fewer f g h is in
    let c = count_append (f n) (gather f is) in
    let d = count_append (g n) (gather g is) in
    omega arith

some_if : (b : Bool) (is js : Items) → count is ≤ count js → count (cond b is none) ≤ count js
unfolding count
some_if true is js h = h
some_if false is js h = omega arith

own_if : (b c : Bool) (o : Node) (is js : Items) → count is ≤ count js → count (cond b (cond c (only o) none) is) ≤ count (cond b (only o) js)
own_if true c o is js h = some_if c (only o) (only o) (omega arith)
own_if false c o is js h = h

fewer : (r : Reach) (d : ℕ) (p : Node) → count (reached_at r d p) ≤ count (reached_at anywhere d p)
unfolding reached_at
fewer r zero p = omega arith
fewer r (suc d) p =
    by_shape (shape p)
    (λ s. rw (s, reached_at)
    (own_if (has_rest_of p) (counts r) p (gather (λ q. reached_at r d (value q)) (properties p)) (gather (λ q. reached_at anywhere d (value q)) (properties p))
    (gather_fewer (λ q. reached_at r d (value q)) (λ q. reached_at anywhere d (value q)) (λ q. fewer r d (value q)) (properties p))))
    (λ s. rw (s, reached_at) (some_if (enters r) (gather (λ x. reached_at anywhere d x) (items_of p)) (gather (λ x. reached_at anywhere d x) (items_of p)) (omega arith)))
    (λ s. rw (s, reached_at) (fewer r d (left_of p)))
    (λ s. rw (s, reached_at) (omega arith))

-- ---- in bytes

anywhere_small : Small (λ p. reached anywhere p)
anywhere_small = record {
  fits = λ p. subst (λ (is : Items). count is ≤ size p) (outermost_reached p) (nearest_fit true (depth p) p);
  bare = ap count (reached_nothing anywhere (depth nothing)) ∙ count_none;
}

pub places_small : (v : View) (n : Node) → places_in v n ≤ length (encode n)
unfolding places_in
places_small replacing n = anywhere_small.fits n
places_small taking n =
    let a = gather_fewer (λ q. reached in_arrays (value q)) (λ q. reached anywhere (value q)) (λ q. fewer in_arrays (depth (value q)) (value q)) (properties n) in
    let b : count (gather (λ q. reached anywhere (value q)) (properties n)) ≤ size n =
    subst (λ (is : Items). count is ≤ size n) (items_none (gather (λ q. reached anywhere (value q)) (properties n))) (object_small (λ p. reached anywhere p) anywhere_small n n false) in
    omega arith
