-- Weights of keys, of patterns that lose their rest, and of the values of rests.
-- Assumes nothing.
use mathlib.Core.Path.{◌≡◌, refl, ◌∙◌}
use mathlib.Core.Bool.{Bool, true, false, cond, ◌||◌}
use mathlib.Core.List.{List}
use Prim.Native.Nat.{ℕ, zero, suc, ◌+◌, ◌*◌, ◌≤◌}
use native.Mathlib.Omega.{arith}
use lib.Dec.{eqb}
use Rattle.tree.specs.Tree.{Node, Fields, Piece, Items}
use Rattle.tree.specs.Tree.Node.{node}
use Rattle.tree.specs.Tree.Fields.{done, absent, field}
use Rattle.tree.specs.Tree.Items.{none, item}
use Rattle.lowering.specs.Parts.{position, piece_in, stands_in, change, drop_in, without, on_items, change_node, node_at_of, items_at_of, stands, is, only, each}
use Rattle.lowering.specs.Made.{Context, string, key_of, X, E, W, object, array, sequence}
use Rattle.lowering.specs.Patterns.{properties, rest, has_rest_of, key, with_properties, with_values}
use Rattle.lowering.specs.Keys.{key_sort, excluded_key, kept_key, excluded_keys, all_primitive, taken, entry_of, key_text}
use Rattle.lowering.specs.Rests.{has_no_properties, is_hoisted, mapped, keys_read, rest_value}
use Rattle.lowering.specs.Weight.{is_head, extra, factor, weight, weight_fields, weight_items}
use Rattle.lowering.proofs.Cases.{by_test, by_key, is_changed, by_entry}
use Rattle.lowering.proofs.Weights.{weight_pos, weight_of, node_piece, items_piece}
use Rattle.lowering.proofs.WeightChange.{gather_light, change_node_light, change_each_light, two_light, factor_monotone}
use Rattle.lowering.proofs.WeightPatterns.{temporary_weight, only_weight, none_weight, node_in, within}
use Rattle.lowering.proofs.ChangeLaws.{stands_changed, stands_dropped}

-- ---- keys

string_weight : (bs : List ℕ) → weight (string bs) ≡ 1
unfolding weight extra factor is_head
string_weight bs = refl

-- ---- a pattern whose rest is taken

fields_dropped : (fs : Fields) (i : ℕ) → weight_fields (drop_in fs i) ≤ weight_fields fs
unfolding drop_in weight
fields_dropped done i = omega arith
fields_dropped (absent fs) zero = omega arith
fields_dropped (absent fs) (suc i) = fields_dropped fs i
fields_dropped (field p fs) zero = omega arith
fields_dropped (field p fs) (suc i) = let h = fields_dropped fs i in omega arith

extra_dropped : (k : ℕ) (fs : Fields) → extra k (drop_in fs 1) ≤ extra k fs
unfolding extra
extra_dropped k fs = rw (stands_dropped fs 1) (go (is_head k) (eqb k 4) (eqb k 27) (eqb k 26) (eqb k 34) (eqb k 36 || eqb k 37) (stands_in fs 1))
  where
    go : (a b c d e f s : Bool) → cond a 10 (cond b 2 (cond c 2 (cond d 4 (cond e 4 (cond f 4 0))))) ≤ cond a 10 (cond b 2 (cond c 2 (cond d 4 (cond e (cond s 14 4) (cond f 4 0)))))
    go true b c d e f s = omega arith
    go false true c d e f s = omega arith
    go false false true d e f s = omega arith
    go false false false true e f s = omega arith
    go false false false false true f true = omega arith
    go false false false false true f false = omega arith
    go false false false false false true s = omega arith
    go false false false false false false s = omega arith

without_light : (n : Node) → weight (without 1 n) ≤ weight n
unfolding without weight
without_light (node at k fs) =
    let e = extra_dropped k fs in
    let m = factor_monotone k (weight_fields (drop_in fs 1)) (weight_fields fs) (fields_dropped fs 1) in
    omega arith

pub rest_changed : (i : ℕ) (f : Piece → Piece) (n : Node) → has_rest_of (change i f n) ≡ has_rest_of n
unfolding change stands
rest_changed i f (node at k fs) = stands_changed fs i f 1

pub values_rest : (f : Node → Node) (p : Node) → has_rest_of (with_values f p) ≡ has_rest_of p
values_rest f p = rest_changed 0 (on_items (each (λ q. change_node 1 f q))) p

-- an object with rest weighs 15 more than its parts
pub top_weight : (p : Node) → is 34 p ≡ true → has_rest_of p ≡ true → weight p ≡ 15 + within p
unfolding is stands extra factor is_head
top_weight (node at k fs) e r = let w = rw r at (weight_of at k 34 fs e) in omega arith

dropped_weight : (p : Node) → is 34 p ≡ true → weight (without 1 p) ≤ 5 + within p
unfolding is without extra factor is_head
dropped_weight (node at k fs) e =
    let w = rw (stands_dropped fs 1) at (weight_of at k 34 (drop_in fs 1) e) in
    let d = fields_dropped fs 1 in
    omega arith

-- ---- the value of a rest

X-weight : (s : Node) → weight (X (object none) (sequence (item (E s) (only s)))) ≡ 6 + 2 * weight s
unfolding weight extra factor is_head
X-weight s = omega arith

W-weight : (a b : Node) → weight (W a b) ≡ 2 + weight a + weight b
unfolding weight extra factor is_head
W-weight a b = omega arith

array_weight : (is : Items) → weight (array is) ≡ suc (weight_items is)
unfolding weight extra factor is_head
array_weight is = omega arith

mapped_weight : (n : Node) → weight (mapped n) ≡ 3 + weight n
unfolding mapped weight extra factor is_head
mapped_weight n = omega arith

rest_parts : (p : Node) → weight (rest p) + weight_items (properties p) ≤ suc (within p)
unfolding node_at_of items_at_of
rest_parts (node at k fs) =
    let a = node_piece (piece_in fs 1) in
    let b = items_piece (piece_in fs 0) in
    let c = two_light fs 0 1 (omega arith) in
    omega arith

module _ (c : Context) where
  pub excluded_key_light : (q : Node) → weight_items (excluded_key c q) ≤ weight q
  unfolding excluded_key
  excluded_key_light q =
      let w = weight_pos q in
      let n = node_in 0 q in
      by_entry (entry_of (key_sort (key q)))
      (λ e. rw (e, excluded_key) (let o = only_weight (string (key_text (key q))) in let s = string_weight (key_text (key q)) in omega arith))
      (λ e. rw (e, excluded_key) (let o = only_weight (key q) in omega arith))
      (λ e. rw (e, excluded_key) (let o = none_weight in omega arith))
      (λ e. rw (e, excluded_key) (let o = only_weight (key_of c q) in let s = temporary_weight c.path 4 (position q) in omega arith))

  pub kept_key_light : (q : Node) → weight (kept_key c q) ≤ weight q
  unfolding kept_key
  kept_key_light q =
      by_key (key_sort (key q))
      (λ e. rw (e, kept_key) (omega arith))
      (λ e. rw (e, kept_key) (omega arith))
      (λ e. rw (e, kept_key) (omega arith))
      (λ e. rw (e, kept_key) (omega arith))
      (λ e. rw (e, kept_key) (omega arith))
      (λ e. rw (e, kept_key)
      (change_node_light 0 (λ k. key_of c q) (λ k. let w = weight_pos k in let s = temporary_weight c.path 4 (position q) in omega arith) q))

  excluded_keys_light : (p : Node) → weight_items (excluded_keys c p) ≤ weight_items (properties p)
  unfolding excluded_keys
  excluded_keys_light p =
      gather_light (excluded_key c) excluded_key_light (properties p)

  pub taken_light : (p : Node) → weight (taken c p) ≤ weight p
  unfolding taken
  taken_light p =
      by_test (has_rest_of p)
      (λ e. rw e
      (let a = without_light (with_properties (kept_key c) p) in
      let b = change_each_light 0 (kept_key c) kept_key_light p in
      omega arith))
      (λ e. rw e (omega arith))

  pub taken_top : (p : Node) → is 34 p ≡ true → has_rest_of p ≡ true → weight (taken c p) + 10 ≤ weight p
  unfolding taken
  taken_top p e r =
      let q = with_properties (kept_key c) p in
      let f = on_items (each (kept_key c)) in
      let e' : is 34 q ≡ true = is_changed 0 f p 34 ∙ e in
      let r' : has_rest_of q ≡ true = rest_changed 0 f p ∙ r in
      let a = dropped_weight q e' in
      let b = top_weight q e' r' in
      let l = change_each_light 0 (kept_key c) kept_key_light p in
      rw r (omega arith)

  keys_read_light : (p : Node) → weight (keys_read c p) ≤ 4 + weight_items (properties p)
  unfolding keys_read
  keys_read_light p =
      let k = excluded_keys_light p in
      let a = array_weight (excluded_keys c p) in
      let m = mapped_weight (array (excluded_keys c p)) in
      let t = temporary_weight c.path 2 (position p) in
      by_test (is_hoisted c p)
      (λ e. rw e (omega arith))
      (λ e. rw e (by_test (all_primitive p) (λ f. rw f (omega arith)) (λ f. rw f (omega arith))))

  pub rest_pays : (p s : Node) → is 34 p ≡ true → has_rest_of p ≡ true → weight (rest p) + weight (rest_value c p s) + 8 ≤ weight p + 2 * weight s
  unfolding rest_value
  rest_pays p s e r =
      let w = top_weight p e r in
      let a = rest_parts p in
      let b = keys_read_light p in
      let x = X-weight s in
      let d = W-weight s (keys_read c p) in
      by_test (has_no_properties p) (λ h. rw h (omega arith)) (λ h. rw h (omega arith))
