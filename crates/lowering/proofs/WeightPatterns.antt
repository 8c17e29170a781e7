-- Weights of patterns whose objects are replaced, moved, or lose their rests.
-- Assumes nothing.
use mathlib.Core.Path.{◌≡◌, refl}
use mathlib.Core.Bool.{Bool, true, false, cond, ◌||◌, false≢true}
use mathlib.Core.List.{List}
use Prim.Native.Nat.{ℕ, zero, suc, ◌+◌, ◌≤◌, ◌<◌}
use native.Mathlib.Omega.{arith}
use Rattle.tree.specs.Tree.{Node, Piece, Items}
use Rattle.tree.specs.Tree.Node.{node}
use Rattle.tree.specs.Tree.Piece.{one, list, text, byte, mark, number}
use Rattle.tree.specs.Tree.Items.{none, hole, item}
use Rattle.lowering.specs.Parts.{nothing, position, piece_in, stands_in, on_node, on_items, change_node, change_items, as_node, as_items_of, node_at_of, items_at_of, is, only, each, gather, any, ◌+++◌}
use Rattle.lowering.specs.Made.{Context, temporary, reference}
use Rattle.lowering.specs.Patterns.{shape, properties, items_of, rest, has_rest_of, left_of, value, with_items, with_values, has_nested_object_rest, has_nested_array_rest, replaced}
use Rattle.lowering.specs.Heads.{moved_out_of, moved}
use Rattle.lowering.specs.Assignments.{is_top, nearest}
use Rattle.lowering.specs.Weight.{is_head, extra, factor, weight, weight_fields, weight_piece, weight_items}
use Rattle.lowering.proofs.All.{AllItems, weaker_items, all_cond, all_gather}
use Rattle.lowering.proofs.Cases.{by_test, by_shape, or_left, or_right, or_other, or_first, object_is, array_is, default_is}
use Rattle.lowering.proofs.Weights.{weight_pos, weight_of, weight_whole, weight_append, items_light, node_piece, items_piece, piece_light_in}
use Rattle.lowering.proofs.WeightChange.{each_light, gather_light, change_less, change_node_light, change_each_light, two_light}

cond_light : (b : Bool) (x y : Node) (w : ℕ) → weight x ≤ w → weight y ≤ w → weight (cond b x y) ≤ w
cond_light true x y w h k = h
cond_light false x y w h k = k

-- ---- temporaries, and parts

pub temporary_weight : (path : List ℕ) (stem p : ℕ) → weight (temporary path stem p) ≡ 1
unfolding weight extra factor is_head
temporary_weight path stem p = refl

pub node_in : (i : ℕ) (n : Node) → weight (node_at_of i n) ≤ weight n
unfolding node_at_of
node_in i (node at k fs) =
    let a = node_piece (piece_in fs i) in
    let b = piece_light_in fs i in
    let c = weight_whole at k fs in
    omega arith

pub items_in_lem : (i : ℕ) (n : Node) → weight_items (items_at_of i n) < weight n
unfolding items_at_of
items_in_lem i (node at k fs) =
    let a = items_piece (piece_in fs i) in
    let b = piece_light_in fs i in
    let c = weight_whole at k fs in
    omega arith

abbrev pub within : Node → ℕ
within (node at k fs) = weight_fields fs

pub object_weighs : (p : Node) → is 34 p ≡ true → within p + 5 ≤ weight p
unfolding is extra factor is_head
object_weighs (node at k fs) e = go (stands_in fs 1) refl
  where
    go : (b : Bool) → stands_in fs 1 ≡ b → weight_fields fs + 5 ≤ weight (node at k fs)
    go true h = let c = rw h at (weight_of at k 34 fs e) in omega arith
    go false h = let c = rw h at (weight_of at k 34 fs e) in omega arith

array_weighs : (p : Node) → is 36 p ≡ true → within p + 5 ≤ weight p
unfolding is extra factor is_head
array_weighs (node at k fs) e = let c = weight_of at k 36 fs e in omega arith

default_weighs : (p : Node) → is 37 p ≡ true → within p + 5 ≤ weight p
unfolding is extra factor is_head
default_weighs (node at k fs) e = let c = weight_of at k 37 fs e in omega arith

-- ---- moved out of a head

pub only_weight : (n : Node) → weight_items (only n) ≡ weight n
unfolding weight
only_weight n = omega arith

pub none_weight : weight_items none ≡ 0
unfolding weight
none_weight = refl

-- what is moved weighs no more than the pattern; of nothing, nothing is moved
moved_nothing : (d : ℕ) → weight_items (moved d nothing) ≡ 0
unfolding moved shape weight
moved_nothing zero = refl
moved_nothing (suc d) = refl

moved_piece : (d : ℕ) (light : (p : Node) → weight_items (moved d p) ≤ weight p) (p : Piece) → weight_items (moved d (as_node p)) ≤ weight_piece p
unfolding weight
moved_piece d light (one n) = light n
moved_piece d light (list is) = let h = moved_nothing d in omega arith
moved_piece d light (text bs) = let h = moved_nothing d in omega arith
moved_piece d light (byte b) = let h = moved_nothing d in omega arith
moved_piece d light (mark b) = let h = moved_nothing d in omega arith
moved_piece d light (number b) = let h = moved_nothing d in omega arith

moved_array : (d : ℕ) (light : (p : Node) → weight_items (moved d p) ≤ weight p) (p : Node) → weight_items (gather (λ e. moved d e) (items_at_of 0 p) +++ moved d (node_at_of 1 p)) ≤ weight p
unfolding items_at_of node_at_of
moved_array d light (node at k fs) =
    let a = gather_light (λ e. moved d e) light (as_items_of (piece_in fs 0)) in
    let b = moved_piece d light (piece_in fs 1) in
    let c = weight_append (gather (λ e. moved d e) (as_items_of (piece_in fs 0))) (moved d (as_node (piece_in fs 1))) in
    let e = items_piece (piece_in fs 0) in
    let f = two_light fs 0 1 (omega arith) in
    let g = weight_whole at k fs in
    omega arith

pub moved_light : (d : ℕ) (p : Node) → weight_items (moved d p) ≤ weight p
unfolding moved
moved_light zero p = let z = none_weight in omega arith
moved_light (suc d) p =
    by_shape (shape p)
    (λ e. rw (e, moved) (let z = only_weight p in omega arith))
    (λ e. rw (e, moved) (moved_array d (moved_light d) p))
    (λ e. rw (e, moved) (let z = only_weight p in omega arith))
    (λ e. rw (e, moved) (let z = none_weight in omega arith))

-- ---- the objects with rest

abbrev pub AtMost : ℕ → Node → Type 0
AtMost b q = weight q ≤ b

pub parts_within : (i : ℕ) (p : Node) → AllItems (λ q. weight q ≤ within p) (items_at_of i p)
unfolding items_at_of
parts_within i (node at k fs) =
    let a = items_piece (piece_in fs i) in
    let b = piece_light_in fs i in
    weaker_items (λ q. weight q < suc (weight_fields fs)) (λ q. weight q ≤ weight_fields fs) (λ q h. omega arith)
    (as_items_of (piece_in fs i)) (items_light (suc (weight_fields fs)) (as_items_of (piece_in fs i)) (omega arith))

pub within_light : (p : Node) → within p < weight p
within_light (node at k fs) = weight_whole at k fs

left_within : (p : Node) → weight (left_of p) ≤ suc (within p)
unfolding node_at_of
left_within (node at k fs) = let a = node_piece (piece_in fs 0) in let b = piece_light_in fs 0 in omega arith

-- ---- a target with an object rest, and no array rest over one, is made lighter

node_less : (f : Node → Node) (p : Piece) → weight (f (as_node p)) < weight (as_node p) → weight_piece (on_node f p) < weight_piece p
unfolding on_node weight extra factor is_head
node_less f (one n) h = h
node_less f (list is) h = let w = weight_pos (f nothing) in absurd (omega arith)
node_less f (text bs) h = let w = weight_pos (f nothing) in absurd (omega arith)
node_less f (byte b) h = let w = weight_pos (f nothing) in absurd (omega arith)
node_less f (mark b) h = let w = weight_pos (f nothing) in absurd (omega arith)
node_less f (number b) h = let w = weight_pos (f nothing) in absurd (omega arith)

list_less : (f : Node → Node) (p : Piece) → weight_items (each f (as_items_of p)) < weight_items (as_items_of p) → weight_piece (on_items (each f) p) < weight_piece p
unfolding on_items each weight
list_less f (one n) h = absurd (omega arith)
list_less f (list is) h = h
list_less f (text bs) h = absurd (omega arith)
list_less f (byte b) h = absurd (omega arith)
list_less f (mark b) h = absurd (omega arith)
list_less f (number b) h = absurd (omega arith)

pub change_node_less_lem2 : (i : ℕ) (f : Node → Node) (n : Node) → weight (f (node_at_of i n)) < weight (node_at_of i n) → weight (change_node i f n) < weight n
unfolding node_at_of
change_node_less_lem2 i f (node at k fs) h = change_less i (on_node f) at k fs (node_less f (piece_in fs i) h)

change_each_less : (i : ℕ) (f : Node → Node) (n : Node) → weight_items (each f (items_at_of i n)) < weight_items (items_at_of i n) → weight (change_items i (each f) n) < weight n
unfolding items_at_of
change_each_less i f (node at k fs) h = change_less i (on_items (each f)) at k fs (list_less f (piece_in fs i) h)

module _ (f : Node → Node) (light : (n : Node) → weight (f n) ≤ weight n) (g h : Node → Bool) (less : (n : Node) → g n ≡ true → h n ≡ false → weight (f n) < weight n) where
  each_less : (is : Items) → any g is ≡ true → any h is ≡ false → weight_items (each f is) < weight_items is
  unfolding any each weight
  each_less none a b = absurd (false≢true a)
  each_less (hole is) a b = each_less is a b
  each_less (item n is) a b =
      by_test (g n)
      (λ e. let l = less n e (or_left (h n) (any h is) b) in let m = each_light f light is in omega arith)
      (λ e. let l = light n in let m = each_less is (or_other (g n) (any g is) e a) (or_right (h n) (any h is) b) in omega arith)

-- ---- the objects with rest nearest below a pattern

module _ (arrays : Bool) where
  values_light : (b d : ℕ) (light : (p : Node) → weight p ≤ b → AllItems (AtMost b) (nearest arrays d p)) (p : Node) → within p ≤ b
      → AllItems (AtMost b) (gather (λ q. nearest arrays d (value q)) (properties p))
  values_light b d light p h =
      all_gather (λ q. weight q ≤ within p) (AtMost b) (λ q. nearest arrays d (value q))
      (λ q l. let v = node_in 1 q in light (value q) (omega arith)) (properties p) (parts_within 0 p)

  items_of_light : (b d : ℕ) (light : (p : Node) → weight p ≤ b → AllItems (AtMost b) (nearest arrays d p)) (p : Node) → within p ≤ b
      → AllItems (AtMost b) (cond arrays (gather (λ e. nearest arrays d e) (items_of p)) none)
  items_of_light b d light p h =
      all_cond (AtMost b) arrays (gather (λ e. nearest arrays d e) (items_of p)) none
      (all_gather (λ q. weight q ≤ within p) (AtMost b) (λ e. nearest arrays d e) (λ q l. light q (omega arith)) (items_of p) (parts_within 0 p)) tt

  pub nearest_light : (b d : ℕ) (p : Node) → weight p ≤ b → AllItems (AtMost b) (nearest arrays d p)
  unfolding nearest
  nearest_light b zero p h = tt
  nearest_light b (suc d) p h =
      let w = within_light p in
      by_shape (shape p)
      (λ e. rw (e, nearest, AllItems)
      (all_cond (AtMost b) (has_rest_of p) (only p) (gather (λ q. nearest arrays d (value q)) (properties p)) (h, tt) (values_light b d (nearest_light b d) p (omega arith))))
      (λ e. rw (e, nearest, AllItems) (items_of_light b d (nearest_light b d) p (omega arith)))
      (λ e. rw (e, nearest, AllItems) (let l = node_in 0 p in nearest_light b d (left_of p) (omega arith)))
      (λ e. rw (e, nearest, AllItems) tt)

  -- those below the values of an object
  pub parts_light : (d : ℕ) (p : Node) → AllItems (AtMost (within p)) (gather (λ q. nearest arrays d (value q)) (properties p))
  parts_light d p = values_light (within p) d (nearest_light (within p) d) p (omega arith)

  -- of a target that is no object with rest, each of them weighs less by 4
  pub outermost_light : (d : ℕ) (p : Node) → is_top p ≡ false → AllItems (λ q. weight q + 4 ≤ weight p) (nearest arrays d p)
  unfolding nearest is_top
  outermost_light zero p h = tt
  outermost_light (suc d) p h =
      let b = suc (within p) in
      by_shape (shape p)
      (λ e.
      let o = object_is p e in
      let w = object_weighs p o in
      let r : has_rest_of p ≡ false = rw o at h in
      rw (e, nearest, r, AllItems)
      (weaker_items (AtMost b) (λ q. weight q + 4 ≤ weight p) (λ q l. omega arith)
      (gather (λ q. nearest arrays d (value q)) (properties p)) (values_light b d (nearest_light b d) p (omega arith))))
      (λ e.
      let w = array_weighs p (array_is p e) in
      rw (e, nearest, AllItems)
      (weaker_items (AtMost b) (λ q. weight q + 4 ≤ weight p) (λ q l. omega arith) (cond arrays (gather (λ x. nearest arrays d x) (items_of p)) none)
      (items_of_light b d (nearest_light b d) p (omega arith))))
      (λ e.
      let w = default_weighs p (default_is p e) in
      rw (e, nearest, AllItems)
      (weaker_items (AtMost b) (λ q. weight q + 4 ≤ weight p) (λ q l. omega arith) (nearest arrays d (left_of p))
      (nearest_light b d (left_of p) (left_within p))))
      (λ e. rw (e, nearest, AllItems) tt)

module _ (c : Context) where
  pub replaced_light : (d : ℕ) (p : Node) → weight (replaced c d p) ≤ weight p
  unfolding replaced
  replaced_light zero p = omega arith
  replaced_light (suc d) p =
      by_shape (shape p)
      (λ e. rw (e, replaced)
      (let t = temporary_weight c.path 1 (position p) in
      let w = weight_pos p in
      cond_light (has_rest_of p) (reference c p) (with_values (λ v. replaced c d v) p) (weight p) (omega arith)
      (change_each_light 0 (λ q. change_node 1 (λ v. replaced c d v) q) (change_node_light 1 (λ v. replaced c d v) (replaced_light d)) p)))
      (λ e. rw (e, replaced) (change_each_light 0 (λ v. replaced c d v) (replaced_light d) p))
      (λ e. rw (e, replaced) (change_node_light 0 (λ v. replaced c d v) (replaced_light d) p))
      (λ e. rw (e, replaced) (omega arith))

  pub moved_out_light : (d : ℕ) (p : Node) → weight (moved_out_of c d p) ≤ weight p
  unfolding moved_out_of
  moved_out_light zero p = omega arith
  moved_out_light (suc d) p =
      by_shape (shape p)
      (λ e. rw (e, moved_out_of) (let t = temporary_weight c.path 1 (position p) in let w = weight_pos p in omega arith))
      (λ e. rw (e, moved_out_of)
      (let a = change_each_light 0 (λ v. moved_out_of c d v) (moved_out_light d) p in
      let b = change_node_light 1 (λ v. moved_out_of c d v) (moved_out_light d) (with_items (λ v. moved_out_of c d v) p) in
      omega arith))
      (λ e. rw (e, moved_out_of)
      (change_node_light 0 (λ l. reference c p) (λ l. let t = temporary_weight c.path 1 (position p) in let w = weight_pos l in omega arith) p))
      (λ e. rw (e, moved_out_of) (omega arith))

  pub replaced_less : (d : ℕ) (p : Node) → has_nested_object_rest d p ≡ true → has_nested_array_rest d p ≡ false → weight (replaced c d p) < weight p
  unfolding replaced has_nested_object_rest has_nested_array_rest
  replaced_less zero p h k = absurd (false≢true h)
  replaced_less (suc d) p h k =
      let f : Node → Node = λ v. replaced c d v in
      by_shape (shape p)
      (λ e.
      let h' : has_rest_of p || any (λ q. has_nested_object_rest d (value q)) (properties p) ≡ true = rw (e, has_nested_object_rest) at h in
      let k' : any (λ q. has_nested_array_rest d (value q)) (properties p) ≡ false = rw (e, has_nested_array_rest) at k in
      let w = object_weighs p (object_is p e) in
      let t = temporary_weight c.path 1 (position p) in
      by_test (has_rest_of p)
      (λ r. rw (e, replaced, r) (omega arith))
      (λ r. rw (e, replaced, r)
      (change_each_less 0 (λ q. change_node 1 f q) p
      (each_less (λ q. change_node 1 f q) (change_node_light 1 f (replaced_light d)) (λ q. has_nested_object_rest d (value q)) (λ q. has_nested_array_rest d (value q))
      (λ q a b. change_node_less_lem2 1 f q (replaced_less d (value q) a b))
      (properties p) (or_other (has_rest_of p) (any (λ q. has_nested_object_rest d (value q)) (properties p)) r h') k'))))
      (λ e.
      let h' : any (λ x. has_nested_object_rest d x) (items_of p) || has_nested_object_rest d (rest p) ≡ true = rw (e, has_nested_object_rest) at h in
      let k' : any (λ x. has_nested_array_rest d x) (items_of p) || has_nested_object_rest d (rest p) ≡ false = rw (e, has_nested_array_rest) at k in
      let r : has_nested_object_rest d (rest p) ≡ false = or_right (any (λ x. has_nested_array_rest d x) (items_of p)) (has_nested_object_rest d (rest p)) k' in
      rw (e, replaced)
      (change_each_less 0 f p
      (each_less f (replaced_light d) (λ x. has_nested_object_rest d x) (λ x. has_nested_array_rest d x) (λ q a b. replaced_less d q a b) (items_of p)
      (or_first (any (λ x. has_nested_object_rest d x) (items_of p)) (has_nested_object_rest d (rest p)) r h')
      (or_left (any (λ x. has_nested_array_rest d x) (items_of p)) (has_nested_object_rest d (rest p)) k'))))
      (λ e.
      rw (e, replaced)
      (change_node_less_lem2 0 f p (replaced_less d (left_of p) (rw (e, has_nested_object_rest) at h) (rw (e, has_nested_array_rest) at k))))
      (λ e. let h' : false ≡ true = rw (e, has_nested_object_rest) at h in absurd (false≢true h'))
