-- The heads: each part of what they leave weighs less than the node.
-- Assumes nothing.
use mathlib.Core.Path.{◌≡◌, refl, sym, subst}
use mathlib.Core.Bool.{true, cond, ◌&&◌}
use Prim.Native.Nat.{ℕ, zero, suc, ◌+◌, ◌*◌, ◌≤◌, ◌<◌}
use native.Mathlib.Omega.{arith}
use Rattle.tree.specs.Tree.{Node, Fields, Piece, Items, depth}
use Rattle.tree.specs.Tree.Node.{node}
use Rattle.tree.specs.Tree.Fields.{done, absent, field}
use Rattle.tree.specs.Tree.Piece.{one, list, text, byte, mark, number}
use Rattle.tree.specs.Tree.Items.{none, hole, item}
use Rattle.lowering.specs.Parts.{piece_in, change_in, change, on_node, on_items, change_items, as_node, as_items_of, node_at_of, items_at_of, stands, is, kind, only, each, gather, any}
use Rattle.lowering.specs.Made.{Context, reference, let_of, var_of, assigning, block}
use Rattle.lowering.specs.Patterns.{shape, has_object_rest}
use Rattle.lowering.specs.Heads.{moved_out_of, moved_pattern, in_front, is_moved, left_behind, moved_from, in_body, as_function_body, as_block, function, arrow, catch, declaring_head, assigning_head}
use Rattle.lowering.specs.Weight.{is_head, extra, factor, weight, weight_fields, weight_piece, weight_items}
use Rattle.lowering.proofs.All.{AllPiece, AllFields, Each, other_changed, all_changed}
use Rattle.lowering.proofs.Cases.{by_test, by_shape, function_body_is, block_is}
use Rattle.lowering.proofs.Weights.{weight_pos, weight_of, items_light, piece_light, fields_light, parts_fall, node_piece, items_piece}
use Rattle.lowering.proofs.WeightChange.{each_light, list_light, gather_light, change_node_light, change_each_light, two_light}
use Rattle.lowering.proofs.WeightPatterns.{none_weight, only_weight, node_in, items_in_lem, moved_out_light, moved_light}

-- ---- what is moved, and bodies

moved_from_light : (q : Node) → weight_items (moved_from q) ≤ weight q
unfolding moved_from
moved_from_light q =
    by_test (is_moved q)
    (λ e. rw e (let m = moved_light (depth (node_at_of 0 q)) (node_at_of 0 q) in let n = node_in 0 q in omega arith))
    (λ e. rw e (let z = none_weight in omega arith))

-- pieces that grow by at most so much
module _ (f : Items → Items) (b : ℕ) (light : (is : Items) → weight_items (f is) ≤ weight_items is + b) where
  piece_grows : (p : Piece) → weight_piece (on_items f p) ≤ weight_piece p + b
  unfolding on_items weight
  piece_grows (one n) = omega arith
  piece_grows (list is) = light is
  piece_grows (text bs) = omega arith
  piece_grows (byte x) = omega arith
  piece_grows (mark x) = omega arith
  piece_grows (number x) = omega arith

  fields_grow : (fs : Fields) (i : ℕ) → weight_fields (change_in fs i (on_items f)) ≤ weight_fields fs + b
  unfolding change_in weight
  fields_grow done i = omega arith
  fields_grow (absent fs) zero = omega arith
  fields_grow (absent fs) (suc i) = fields_grow fs i
  fields_grow (field p fs) zero = let h = piece_grows p in omega arith
  fields_grow (field p fs) (suc i) = let h = fields_grow fs i in omega arith

  -- a body is 2 or 16: no extra, and the factor 1
  body_grows : (i j : ℕ) (n : Node) → ((fs : Fields) → extra j fs ≡ 0) → factor j ≡ 1 → is j n ≡ true → weight (change_items i f n) ≤ weight n + b
  unfolding change is
  body_grows i j (node at k fs) x y e =
      let a = weight_of at k j (change_in fs i (on_items f)) e in
      let c = weight_of at k j fs e in
      let p = x fs in
      let q = x (change_in fs i (on_items f)) in
      let g = fields_grow fs i in
      let a' : weight (node at k (change_in fs i (on_items f))) ≡ suc (0 + 1 * weight_fields (change_in fs i (on_items f))) = rw (q, y) at a in
      let c' : weight (node at k fs) ≡ suc (0 + 1 * weight_fields fs) = rw (p, y) at c in
      omega arith

-- ---- bodies

function_body_weight : (b : Node) → weight (as_function_body b) ≤ weight b + 2
unfolding as_function_body weight extra factor is_head
function_body_weight b = by_test (is 16 b) (λ e. rw e (omega arith)) (λ e. rw e (omega arith))

block_weight : (is : Items) → weight (block is) ≡ suc (weight_items is)
unfolding weight extra factor is_head
block_weight is = omega arith

as_block_weight : (b : Node) → weight (as_block b) ≤ weight b + 1
unfolding as_block
as_block_weight b =
    by_test (is 2 b) (λ e. rw e (omega arith))
    (λ e. rw e
    (let w = block_weight (cond (is 13 b) none (only b)) in
    by_test (is 13 b)
    (λ f. let n = none_weight in rw f (let v : weight (block none) ≡ suc (weight_items none) = block_weight none in omega arith))
    (λ f. let o = only_weight b in rw f (let v : weight (block (only b)) ≡ suc (weight_items (only b)) = block_weight (only b) in omega arith))))

-- ---- nodes with a head

head_weight : (at k : ℕ) (fs : Fields) → is_head k ≡ true → weight (node at k fs) ≡ 11 + 10 * weight_fields fs
unfolding weight extra factor
head_weight at k fs e = rw e (omega arith)

node_falls : (w c : ℕ) (f : Node → Node) → ((b : Node) → weight (f b) ≤ weight b + c) → (p : Piece) → weight_piece p + c < w → AllPiece (λ m. weight m < w) (on_node f p)
unfolding on_node weight
node_falls w c f light (one n) h = let l = light n in omega arith
node_falls w c f light (list is) h = items_light w is (omega arith)
node_falls w c f light (text bs) h = tt
node_falls w c f light (byte b) h = tt
node_falls w c f light (mark b) h = tt
node_falls w c f light (number b) h = tt

items_fall : (w : ℕ) (f : Items → Items) → ((is : Items) → weight_items (f is) ≤ weight_items is) → (p : Piece) → weight_piece p < w → AllPiece (λ m. weight m < w) (on_items f p)
items_fall w f light p h = let l = list_light f light p in piece_light w (on_items f p) (omega arith)

-- two fields changed
two_fall : (w : ℕ) (fs : Fields) (i j : ℕ) (f g : Piece → Piece) → (i ≡ j → ⊥) → weight_fields fs < w
    → AllPiece (λ m. weight m < w) (f (piece_in fs i)) → AllPiece (λ m. weight m < w) (g (piece_in fs j))
    → AllFields (λ m. weight m < w) (change_in (change_in fs i f) j g)
two_fall w fs i j f g d l a b =
    all_changed (λ m. weight m < w) (change_in fs i f) j g (all_changed (λ m. weight m < w) fs i f (fields_light w fs l) a)
    (subst (λ (p : Piece). AllPiece (λ m. weight m < w) (g p)) (sym (other_changed fs i f j d)) b)

abbrev Falling : Node → Node → Type 0
Falling n m = weight m < weight n

item_grows : (s : Node) (is : Items) → weight_items (item s is) ≤ weight_items is + weight s
unfolding weight
item_grows s is = omega arith

in_block_first : (s b : Node) → weight (change_items 1 (item s) (as_block b)) ≤ weight b + (1 + weight s)
unfolding extra factor is_head
in_block_first s b =
    let g = body_grows (item s) (weight s) (item_grows s) 1 2 (as_block b) (λ fs. refl) refl (block_is b) in
    let w = as_block_weight b in
    omega arith

moved_pattern_light : (p : Node) → weight (moved_pattern p) ≤ weight p
unfolding moved_pattern
moved_pattern_light p =
    by_shape (shape p)
    (λ e. rw (e, moved_pattern) (omega arith))
    (λ e. rw (e, moved_pattern) (omega arith))
    (λ e. rw (e, moved_pattern) (node_in 0 p))
    (λ e. rw (e, moved_pattern) (omega arith))

module _ (c : Context) where
  let_weight : (p q : Node) → weight (let_of q (reference c p)) ≡ 7 + 2 * weight q
  unfolding weight extra factor is_head
  let_weight p q = omega arith

  in_front_weight : (ps body : Items) → weight_items (in_front c ps body) ≤ weight_items body + 9 * weight_items ps
  unfolding in_front weight
  in_front_weight none body = omega arith
  in_front_weight (hole ps) body = in_front_weight ps body
  in_front_weight (item p ps) body =
      let h = in_front_weight ps (item (let_of (moved_pattern p) (reference c p)) body) in
      let l = let_weight p (moved_pattern p) in
      let v = moved_pattern_light p in
      let w = weight_pos p in
      omega arith

  left_behind_light : (q : Node) → weight (left_behind c q) ≤ weight q
  unfolding left_behind
  left_behind_light q =
      by_test (is_moved q)
      (λ e. rw e (change_node_light 0 (λ p. moved_out_of c (depth p) p) (λ p. moved_out_light c (depth p) p) q))
      (λ e. rw e (omega arith))

  in_function_body : (ps : Items) (b : Node) → weight (in_body c ps (as_function_body b)) ≤ weight b + (2 + 9 * weight_items ps)
  unfolding in_body extra factor is_head
  in_function_body ps b =
      let g = body_grows (in_front c ps) (9 * weight_items ps) (in_front_weight ps) 1 16 (as_function_body b) (λ fs. refl) refl (function_body_is b) in
      let w = function_body_weight b in
      omega arith

  in_block : (ps : Items) (b : Node) → weight (in_body c ps (as_block b)) ≤ weight b + (1 + 9 * weight_items ps)
  unfolding in_body extra factor is_head
  in_block ps b =
      let g = body_grows (in_front c ps) (9 * weight_items ps) (in_front_weight ps) 1 2 (as_block b) (λ fs. refl) refl (block_is b) in
      let w = as_block_weight b in
      omega arith

  pub function_falls : (n : Node) → is_head (kind n) ≡ true → Each (Falling n) (function c n)
  unfolding function change items_at_of
  function_falls (node at k fs) e =
      let n = node at k fs in
      let w = head_weight at k fs e in
      let ps = as_items_of (piece_in fs 3) in
      let a = items_piece (piece_in fs 3) in
      let m = gather_light moved_from moved_from_light ps in
      let t = two_light fs 3 5 (omega arith) in
      by_test (stands 5 n && any is_moved (as_items_of (piece_in fs 3)))
      (λ s. rw (s, Each)
      (two_fall (weight n) fs 3 5 (on_items (each (left_behind c))) (on_node (λ b. in_body c (gather moved_from ps) (as_function_body b))) (omega arith) (omega arith)
      (items_fall (weight n) (each (left_behind c)) (each_light (left_behind c) left_behind_light) (piece_in fs 3) (omega arith))
      (node_falls (weight n) (2 + 9 * weight_items (gather moved_from ps)) (λ b. in_body c (gather moved_from ps) (as_function_body b))
      (in_function_body (gather moved_from ps)) (piece_in fs 5) (omega arith))))
      (λ s. rw (s, Each) (parts_fall n))

  pub arrow_falls : (n : Node) → is_head (kind n) ≡ true → Each (Falling n) (arrow c n)
  unfolding arrow change items_at_of
  arrow_falls (node at k fs) e =
      let n = node at k fs in
      let w = head_weight at k fs e in
      let ps = as_items_of (piece_in fs 0) in
      let a = items_piece (piece_in fs 0) in
      let m = gather_light moved_from moved_from_light ps in
      let t = two_light fs 0 2 (omega arith) in
      by_test (any is_moved ps)
      (λ s. rw (s, Each)
      (two_fall (weight n) fs 0 2 (on_items (each (left_behind c))) (on_node (λ b. in_body c (gather moved_from ps) (as_function_body b))) (omega arith) (omega arith)
      (items_fall (weight n) (each (left_behind c)) (each_light (left_behind c) left_behind_light) (piece_in fs 0) (omega arith))
      (node_falls (weight n) (2 + 9 * weight_items (gather moved_from ps)) (λ b. in_body c (gather moved_from ps) (as_function_body b))
      (in_function_body (gather moved_from ps)) (piece_in fs 2) (omega arith))))
      (λ s. rw (s, Each) (parts_fall n))

  pub catch_falls : (n : Node) → is_head (kind n) ≡ true → Each (Falling n) (catch c n)
  unfolding catch change node_at_of
  catch_falls (node at k fs) e =
      let n = node at k fs in
      let w = head_weight at k fs e in
      let q = as_node (piece_in fs 0) in
      let a = node_piece (piece_in fs 0) in
      let m = moved_from_light q in
      let t = two_light fs 0 1 (omega arith) in
      by_test (is_moved q)
      (λ s. rw (s, Each)
      (two_fall (weight n) fs 0 1 (on_node (left_behind c)) (on_node (λ b. in_body c (moved_from q) (as_block b))) (omega arith) (omega arith)
      (node_falls (weight n) 0 (left_behind c) (λ b. let l = left_behind_light b in omega arith) (piece_in fs 0) (omega arith))
      (node_falls (weight n) (1 + 9 * weight_items (moved_from q)) (λ b. in_body c (moved_from q) (as_block b)) (in_block (moved_from q)) (piece_in fs 1) (omega arith))))
      (λ s. rw (s, Each) (parts_fall n))

  pub declaring_falls : (n : Node) → is_head (kind n) ≡ true → Each (Falling n) (declaring_head c n)
  unfolding declaring_head change node_at_of
  declaring_falls (node at k fs) e =
      let n = node at k fs in
      let w = head_weight at k fs e in
      let ds = items_at_of 2 (as_node (piece_in fs 1)) in
      let a = node_piece (piece_in fs 1) in
      let i = items_in_lem 2 (as_node (piece_in fs 1)) in
      let m = gather_light moved_from moved_from_light ds in
      let t = two_light fs 1 3 (omega arith) in
      by_test (any is_moved ds)
      (λ s. rw (s, Each)
      (two_fall (weight n) fs 1 3 (on_node (λ l. change_items 2 (each (left_behind c)) l)) (on_node (λ b. in_body c (gather moved_from ds) (as_block b))) (omega arith) (omega arith)
      (node_falls (weight n) 0 (λ l. change_items 2 (each (left_behind c)) l) (λ b. let l = change_each_light 2 (left_behind c) left_behind_light b in omega arith) (piece_in fs 1) (omega arith))
      (node_falls (weight n) (1 + 9 * weight_items (gather moved_from ds)) (λ b. in_body c (gather moved_from ds) (as_block b)) (in_block (gather moved_from ds)) (piece_in fs 3) (omega arith))))
      (λ s. rw (s, Each) (parts_fall n))

  var_weight : (p : Node) → weight (var_of (reference c p)) ≡ 7
  unfolding weight extra factor is_head
  var_weight p = omega arith

  assigning_weight : (p : Node) → weight (assigning p (reference c p)) ≡ 5 + weight p
  unfolding weight extra factor is_head
  assigning_weight p = omega arith

  pub assigning_falls : (n : Node) → is_head (kind n) ≡ true → Each (Falling n) (assigning_head c n)
  unfolding assigning_head change node_at_of
  assigning_falls (node at k fs) e =
      let n = node at k fs in
      let w = head_weight at k fs e in
      let p = as_node (piece_in fs 1) in
      let a = node_piece (piece_in fs 1) in
      let s = assigning_weight p in
      let t = two_light fs 1 3 (omega arith) in
      by_test (has_object_rest p)
      (λ h. rw (h, Each)
      (two_fall (weight n) fs 1 3 (on_node (λ l. var_of (reference c l))) (on_node (λ b. change_items 1 (item (assigning p (reference c p))) (as_block b))) (omega arith) (omega arith)
      (node_falls (weight n) 7 (λ l. var_of (reference c l)) (λ l. let v = var_weight l in omega arith) (piece_in fs 1) (omega arith))
      (node_falls (weight n) (1 + weight (assigning p (reference c p))) (λ b. change_items 1 (item (assigning p (reference c p))) (as_block b))
      (in_block_first (assigning p (reference c p))) (piece_in fs 3) (omega arith))))
      (λ h. rw (h, Each) (parts_fall n))
