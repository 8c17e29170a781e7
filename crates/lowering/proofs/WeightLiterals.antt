-- The literal rule: each part of what it leaves weighs less than the literal.
-- Assumes nothing.
use mathlib.Core.Path.{◌≡◌}
use mathlib.Core.Bool.{true}
use Prim.Native.Nat.{ℕ, ◌+◌, ◌≤◌, ◌<◌}
use native.Mathlib.Omega.{arith}
use Rattle.tree.specs.Tree.{Node, Items}
use Rattle.tree.specs.Tree.Node.{node}
use Rattle.tree.specs.Tree.Items.{none, hole, item}
use Rattle.lowering.specs.Parts.{is, node_at_of, items_at_of, only, any, piece_in, ◌+++◌}
use Rattle.lowering.specs.Made.{S}
use Rattle.lowering.specs.Literals.{Call, opened, closed, scan, literal}
use Rattle.lowering.specs.Literals.Call.{no_call, call}
use Rattle.lowering.specs.Weight.{is_head, extra, factor, weight, weight_items}
use Rattle.lowering.proofs.All.{Each, weaker_each}
use Rattle.lowering.proofs.Cases.{by_test}
use Rattle.lowering.proofs.Weights.{weight_pos, weight_append, items_light, parts_fall, weight_of, weight_whole, node_piece, items_piece, piece_light_in}

abbrev so_far : Call → ℕ
so_far no_call = 0
so_far (call c) = weight c

-- a spread pays for its call
spread_pays : (p : Node) → is 26 p ≡ true → weight (node_at_of 0 p) + 4 ≤ weight p
unfolding is node_at_of extra factor is_head
spread_pays (node at k fs) e =
    let a = node_piece (piece_in fs 0) in
    let b = piece_light_in fs 0 in
    let c = weight_of at k 26 fs e in
    omega arith

opened_light : (c : Call) (pending : Items) → weight_items (opened c pending) ≤ so_far c + weight_items pending + 2
unfolding opened weight extra factor is_head
opened_light no_call pending = omega arith
opened_light (call c) none = omega arith
opened_light (call c) (hole ps) = omega arith
opened_light (call c) (item p ps) = omega arith

next_light : (c : Call) (pending : Items) (a : Node) → weight (S (opened c pending +++ only a)) ≤ so_far c + weight_items pending + (weight a + 4)
unfolding weight extra factor is_head
next_light c pending a = let h = opened_light c pending in let e = weight_append (opened c pending) (only a) in omega arith

closed_falls : (b : ℕ) (c : Call) (pending : Items) → so_far c + weight_items pending < b → Each (λ m. weight m < b) (closed c pending)
unfolding closed opened weight extra factor is_head
closed_falls b no_call pending h = (items_light b pending (omega arith), tt)
closed_falls b (call c) none h = weaker_each (λ m. weight m < weight c) (λ m. weight m < b) (λ m l. omega arith) c (parts_fall c)
closed_falls b (call c) (hole ps) h = weaker_each (λ m. weight m < weight c) (λ m. weight m < b) (λ m l. omega arith) c (parts_fall c)
closed_falls b (call c) (item p ps) h =
    let w = weight_pos c in
    (omega arith, ((omega arith, (omega arith, (omega arith, tt))), tt))

scan_falls : (b : ℕ) (c : Call) (pending ps : Items) → so_far c + weight_items pending + weight_items ps < b → Each (λ m. weight m < b) (scan c pending ps)
unfolding scan weight
scan_falls b c pending none h = closed_falls b c pending (omega arith)
scan_falls b c pending (hole ps) h = scan_falls b c pending ps h
scan_falls b c pending (item p ps) h =
    by_test (is 26 p)
    (λ e.
    let l = next_light c pending (node_at_of 0 p) in
    let k = spread_pays p e in
    rw (e, Each) (scan_falls b (call (S (opened c pending +++ only (node_at_of 0 p)))) none ps (omega arith)))
    (λ e. let l = weight_append pending (only p) in rw (e, Each) (scan_falls b c (pending +++ only p) ps (omega arith)))

scan_start : (b : ℕ) (ps : Items) → weight_items ps < b → Each (λ m. weight m < b) (scan no_call none ps)
unfolding weight
scan_start b ps h = scan_falls b no_call none ps (omega arith)

pub literal_falls : (n : Node) → Each (λ m. weight m < weight n) (literal n)
unfolding literal items_at_of
literal_falls (node at k fs) =
    let n = node at k fs in
    let a = items_piece (piece_in fs 0) in
    let b = piece_light_in fs 0 in
    let c = weight_whole at k fs in
    by_test (any (λ p. is 26 p) (items_at_of 0 n))
    (λ e. rw (e, Each) (scan_start (weight n) (items_at_of 0 n) (omega arith)))
    (λ e. rw e (parts_fall n))
