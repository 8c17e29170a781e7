-- Tests and counts over a pattern: one level at a time.
-- Assumes nothing.
use mathlib.Core.Path.{◌≡◌, refl, sym, ap, ap₂, ◌∙◌}
use mathlib.Core.Bool.{Bool, ◌||◌, or-false}
use Prim.Native.Nat.{ℕ, ◌+◌, ◌≤◌, max}
use native.Mathlib.Omega.{arith}
use Rattle.tree.specs.Tree.{Node, Fields, Items, count, depth, depth_fields, depth_items}
use Rattle.tree.specs.Tree.Node.{node}
use Rattle.tree.specs.Tree.Fields.{field}
use Rattle.tree.specs.Tree.Piece.{one, list}
use Rattle.lowering.specs.Parts.{nothing, is, piece_in, node_at_of, items_at_of, gather, any}
use Rattle.lowering.specs.Patterns.{shape, value, has_nested_array_rest, has_object_rest, has_array_rest_over_object_rest}
use Rattle.lowering.proofs.Levels.{node_in, has_levels, array_levels, has_nothing, array_nothing, any_agrees}
use Rattle.direct.specs.Views.{array_at, array_rest_at}
use Rattle.direct.specs.Counts.{sum_of}
use Rattle.lowering.proofs.ItemLaws.{count_append}

-- ---- whether an object rest is below

over_value : (d : ℕ) (q : Node) → depth q ≤ d → has_nested_array_rest d (value q) ≡ has_array_rest_over_object_rest (value q)
over_value d q l =
    node_in (λ m. has_nested_array_rest d m) (λ m. has_array_rest_over_object_rest m) d (λ m h. array_levels d m h) (array_nothing d ∙ sym (array_nothing (depth nothing))) 1 q (omega arith)

-- ---- whether one is below an array rest

pub over_object_at : (at : ℕ) (ps : Items) (fs : Fields) → has_array_rest_over_object_rest (node at 34 (field (list ps) fs)) ≡ any (λ q. has_array_rest_over_object_rest (value q)) ps
unfolding has_nested_array_rest shape depth items_at_of piece_in
over_object_at at ps fs =
    let d = max (depth_items ps) (depth_fields fs) in
    any_agrees (λ q. has_nested_array_rest d (value q)) (λ q. has_array_rest_over_object_rest (value q)) d (λ q l. over_value d q l) ps (omega arith)

pub over_array_at : (at : ℕ) (is : Items) → has_array_rest_over_object_rest (array_at at is) ≡ any (λ n. has_array_rest_over_object_rest n) is
unfolding has_nested_array_rest shape depth node_at_of items_at_of piece_in
over_array_at at is =
    let d = max (depth_items is) 0 in
    ap₂ (λ (x y : Bool). x || y) (any_agrees (λ n. has_nested_array_rest d n) (λ n. has_array_rest_over_object_rest n) d (λ m l. array_levels d m l) is (omega arith)) (has_nothing d)
    ∙ or-false (any (λ n. has_array_rest_over_object_rest n) is)

pub over_array_rest_at : (at : ℕ) (is : Items) (r : Node) → has_array_rest_over_object_rest (array_rest_at at is r) ≡ any (λ n. has_array_rest_over_object_rest n) is || has_object_rest r
unfolding has_nested_array_rest shape depth node_at_of items_at_of piece_in
over_array_rest_at at is r =
    let d = max (depth_items is) (max (depth r) 0) in
    ap₂ (λ (x y : Bool). x || y) (any_agrees (λ n. has_nested_array_rest d n) (λ n. has_array_rest_over_object_rest n) d (λ m l. array_levels d m l) is (omega arith)) (has_levels d r (omega arith))

pub over_default_at : (at : ℕ) (l : Node) (fs : Fields) → has_array_rest_over_object_rest (node at 37 (field (one l) fs)) ≡ has_array_rest_over_object_rest l
unfolding has_nested_array_rest shape depth node_at_of piece_in
over_default_at at l fs = array_levels (max (depth l) (depth_fields fs)) l (omega arith)

-- ---- sums and tests over lists

pub count_gather : (g : Node → Items) (is : Items) → count (gather g is) ≡ sum_of (λ n. count (g n)) is
unfolding gather sum_of count
count_gather g Items.none = refl
count_gather g (Items.hole is) = count_gather g is
count_gather g (Items.item n is) = count_append (g n) (gather g is) ∙ ap (λ (k : ℕ). count (g n) + k) (count_gather g is)
