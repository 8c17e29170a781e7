-- Assignments and declarations: each part of what they leave weighs less than the node.
-- Assumes nothing.
use mathlib.Core.Path.{◌≡◌, ◌∙◌}
use mathlib.Core.Bool.{true, false, cond}
use Prim.Native.Nat.{ℕ, zero, suc, ◌+◌, ◌*◌, ◌≤◌, ◌<◌}
use native.Mathlib.Omega.{arith}
use Rattle.tree.specs.Tree.{Node, Piece, Items, depth}
use Rattle.tree.specs.Tree.Node.{node}
use Rattle.tree.specs.Tree.Piece.{one, list, text, byte, mark, number}
use Rattle.tree.specs.Tree.Items.{none, item}
use Rattle.lowering.specs.Parts.{position, piece_in, change, on_items, change_node, node_at_of, is, only, each, gather, ◌+++◌}
use Rattle.lowering.specs.Made.{Context, reference, value_of, key_of, assign, declares}
use Rattle.lowering.specs.Patterns.{shape, properties, items_of, rest, has_rest_of, left_of, value, key, with_values, has_object_rest, has_array_rest_over_object_rest, replaced, replaced_below}
use Rattle.lowering.specs.Keys.{key_sort, key_temporary, key_temporaries, taken}
use Rattle.lowering.specs.Rests.{has_no_properties, rest_value}
use Rattle.lowering.specs.Assignments.{is_top, target, assigned, parts_of, parts_replaced, target_left, from_reference, top_sequence, outermost, nested_sequence}
use Rattle.lowering.specs.Declarations.{is_name_of, source, source_declarator, keys_before, pattern_declarator, rest_declarator, own, nested, nested_below, object_declarators, pattern_declarators, lower_declarator, is_lowered, declarators, declaration}
use Rattle.lowering.specs.Weight.{is_head, extra, factor, weight, weight_piece, weight_items}
use Rattle.lowering.proofs.All.{AllItems, AllPiece, Each, weaker_items, all_append, all_gather, all_each, all_changed}
use Rattle.lowering.proofs.Cases.{by_test, by_shape, object_is, by_key, is_changed, and_left, and_right}
use Rattle.lowering.proofs.Weights.{weight_pos, weight_of, weight_whole, items_light, parts_fall, node_piece, piece_light_in}
use Rattle.lowering.proofs.WeightChange.{change_node_light, change_each_light, two_light}
use Rattle.lowering.proofs.WeightPatterns.{temporary_weight, node_in, within, within_light, parts_within, replaced_light, parts_light, outermost_light, replaced_less, change_node_less_lem2}
use Rattle.lowering.proofs.WeightKeys.{taken_light, taken_top, rest_changed, top_weight, rest_pays}

abbrev Falling : Node → Node → Type 0
Falling n m = weight m < weight n

abbrev Le : ℕ → Node → Type 0
Le b m = weight m ≤ b

-- ---- assignments

assign_weight : (a b : Node) → weight (assign a b) ≡ 3 + weight a + weight b
unfolding weight extra factor is_head
assign_weight a b = omega arith

assignment_weighs : (n : Node) → is 27 n ≡ true → 1 + weight (target n) + weight (assigned n) ≤ weight n
unfolding is node_at_of extra factor is_head
assignment_weighs (node at k fs) e =
    let w = weight_of at k 27 fs e in
    let a = node_piece (piece_in fs 1) in
    let b = node_piece (piece_in fs 2) in
    let c = two_light fs 1 2 (omega arith) in
    omega arith

-- ---- declarators

declares_weight : (a b : Node) → weight (declares a b) ≡ 1 + weight a + weight b
unfolding weight extra factor is_head
declares_weight a b = omega arith

declarator_weighs : (d : Node) → weight (node_at_of 0 d) + weight (node_at_of 1 d) ≤ weight d + 1
unfolding node_at_of
declarator_weighs (node at k fs) =
    let a = node_piece (piece_in fs 0) in
    let b = node_piece (piece_in fs 1) in
    let c = two_light fs 0 1 (omega arith) in
    let w = weight_whole at k fs in
    omega arith

-- ---- a Declaration

module _ (c : Context) where
  pub parts_replaced_light : (d : ℕ) (p : Node) → weight (parts_replaced c d p) ≤ weight p
  unfolding parts_replaced
  parts_replaced_light zero p = omega arith
  parts_replaced_light (suc d) p =
      let f : Node → Node = λ v. parts_replaced c d v in
      let t = temporary_weight c.path 1 (position p) in
      let u = weight_pos p in
      by_shape (shape p)
      (λ e. rw (e, parts_replaced)
      (by_test (has_rest_of p) (λ r. rw r (omega arith))
      (λ r. rw r (change_each_light 0 (λ q. change_node 1 f q) (change_node_light 1 f (parts_replaced_light d)) p))))
      (λ e. rw (e, parts_replaced) (omega arith))
      (λ e. rw (e, parts_replaced) (change_node_light 0 f (parts_replaced_light d) p))
      (λ e. rw (e, parts_replaced) (omega arith))

  left_light : (n : Node) → is 34 (target n) ≡ true → has_rest_of (target n) ≡ true → weight (target_left c n) + 10 ≤ weight (target n)
  left_light n e r =
      let p = target n in
      let f : Node → Node = λ v. parts_replaced c (depth p) v in
      let g : Piece → Piece = on_items (each (λ q. change_node 1 f q)) in
      let a = taken_top c (with_values f p) (is_changed 0 g p 34 ∙ e) (rest_changed 0 g p ∙ r) in
      let b = change_each_light 0 (λ q. change_node 1 f q) (change_node_light 1 f (parts_replaced_light (depth p))) p in
      omega arith

  -- an assignment to an object from its temporary
  from_light : (b : ℕ) (is : Items) → AllItems (Le b) is → AllItems (λ m. weight m < b + 5) (each (from_reference c) is)
  from_light b is =
      all_each (Le b) (λ m. weight m < b + 5) (from_reference c)
      (λ q l. let a = assign_weight q (reference c q) in let x = temporary_weight c.path 1 (position q) in omega arith) is

  pub top_falls : (n : Node) → is 27 n ≡ true → is_top (target n) ≡ true → Each (Falling n) (top_sequence c n)
  unfolding top_sequence is_top
  top_falls n e h =
      let p = target n in
      let t = value_of c p in
      let o : is 34 p ≡ true = and_left (is 34 p) (has_rest_of p) h in
      let r : has_rest_of p ≡ true = and_right (is 34 p) (has_rest_of p) h in
      let w = assignment_weighs n e in
      let u = top_weight p o r in
      let v = weight_pos (assigned n) in
      let x = temporary_weight c.path 3 (position p) in
      let a = assign_weight t (assigned n) in
      let b = assign_weight (target_left c n) t in
      let l = left_light n o r in
      let y = rest_pays c p t o r in
      let z = assign_weight (rest p) (rest_value c p t) in
      let i = within_light p in (
        (
          omega arith,
          (
            omega arith,
            all_append (Falling n) (each (from_reference c) (parts_of p)) (item (assign (rest p) (rest_value c p t)) (cond c.statement none (only t)))
                (weaker_items (λ m. weight m < within p + 5) (Falling n) (λ m k. omega arith) (each (from_reference c) (parts_of p))
                (from_light (within p) (parts_of p) (parts_light false (depth p) p)))
                (omega arith, by_test c.statement (λ s. rw (s, AllItems) tt) (λ s. rw (s, AllItems) (omega arith, tt))),
          ),
        ),
        tt,
      )

  pub nested_falls : (n : Node) → is 27 n ≡ true → is_top (target n) ≡ false → has_object_rest (target n) ≡ true → has_array_rest_over_object_rest (target n) ≡ false
      → Each (Falling n) (nested_sequence c n)
  unfolding nested_sequence
  nested_falls n e f h k =
      let w = assignment_weighs n e in (
        (
          change_node_less_lem2 1 (λ p. replaced_below c p) n (replaced_less c (depth (target n)) (target n) h k),
          all_each (λ q. weight q + 4 ≤ weight (target n)) (Falling n) (from_reference c)
              (λ q l. let a = assign_weight q (reference c q) in let x = temporary_weight c.path 1 (position q) in omega arith)
              (outermost (target n)) (outermost_light true (depth (target n)) (target n) f),
        ),
        tt,
      )

  key_temporary_light : (b : ℕ) (q : Node) → 2 + weight q ≤ b → AllItems (Le b) (key_temporary c q)
  unfolding key_temporary
  key_temporary_light b q h =
      by_key (key_sort (key q))
      (λ e. rw (e, key_temporary, AllItems) tt)
      (λ e. rw (e, key_temporary, AllItems) tt)
      (λ e. rw (e, key_temporary, AllItems) tt)
      (λ e. rw (e, key_temporary, AllItems) tt)
      (λ e. rw (e, key_temporary, AllItems) tt)
      (λ e. rw (e, key_temporary, AllItems)
      (let d = declares_weight (key_of c q) (key q) in let t = temporary_weight c.path 4 (position q) in let n = node_in 0 q in (omega arith, tt)))

  keys_before_light : (b : ℕ) (p : Node) → 2 + weight p ≤ b → AllItems (Le b) (keys_before c p)
  unfolding keys_before key_temporaries
  keys_before_light b p h =
      let w = within_light p in
      by_test (has_rest_of p)
      (λ r. rw (r, AllItems)
      (all_gather (λ q. weight q ≤ within p) (Le b) (λ q. key_temporary c q)
      (λ q l. key_temporary_light b q (omega arith)) (properties p) (parts_within 0 p)))
      (λ r. rw (r, AllItems) tt)

  pattern_light : (b : ℕ) (p s : Node) → 1 + weight p + 2 * weight s ≤ b → AllItems (Le b) (pattern_declarator c p s)
  unfolding pattern_declarator
  pattern_light b p s h =
      by_test (has_no_properties p)
      (λ r. rw (r, AllItems) tt)
      (λ r. rw (r, AllItems) (let t = taken_light c p in let d = declares_weight (taken c p) s in (omega arith, tt)))

  rest_light : (b : ℕ) (p s : Node) → is 34 p ≡ true → 1 + weight p + 2 * weight s ≤ b → AllItems (Le b) (rest_declarator c p s)
  unfolding rest_declarator
  rest_light b p s e h =
      by_test (has_rest_of p)
      (λ r. rw (r, AllItems)
      (let y = rest_pays c p s e r in let d = declares_weight (rest p) (rest_value c p s) in (omega arith, tt)))
      (λ r. rw (r, AllItems) tt)

  own_light : (b : ℕ) (p s : Node) → is 34 p ≡ true → 1 + weight p + 2 * weight s ≤ b → AllItems (Le b) (own c p s)
  unfolding own
  own_light b p s e h =
      let w = weight_pos s in
      all_append (Le b) (keys_before c p) (pattern_declarator c p s +++ rest_declarator c p s) (keys_before_light b p (omega arith))
      (all_append (Le b) (pattern_declarator c p s) (rest_declarator c p s) (pattern_light b p s h) (rest_light b p s e h))

  nested_light : (b d : ℕ) (p : Node) → 3 + weight p ≤ b → AllItems (Le b) (nested c d p)
  unfolding nested
  nested_light b zero p h = tt
  nested_light b (suc d) p h =
      let w = within_light p in
      let f : Node → Node = λ v. replaced c d v in
      let g : Piece → Piece = on_items (each (λ q. change_node 1 f q)) in
      let t = temporary_weight c.path 1 (position p) in
      by_shape (shape p)
      (λ e. rw (e, nested, AllItems)
      (all_append (Le b) (cond (has_rest_of p) (own c (with_values f p) (reference c p)) none) (gather (λ q. nested c d (value q)) (properties p))
      (by_test (has_rest_of p)
      (λ r. rw (r, AllItems)
      (let l = change_each_light 0 (λ q. change_node 1 f q) (change_node_light 1 f (replaced_light c d)) p in
      own_light b (with_values f p) (reference c p) (is_changed 0 g p 34 ∙ object_is p e) (omega arith)))
      (λ r. rw (r, AllItems) tt))
      (all_gather (λ q. weight q ≤ within p) (Le b) (λ q. nested c d (value q))
      (λ q l. let v = node_in 1 q in nested_light b d (value q) (omega arith)) (properties p) (parts_within 0 p))))
      (λ e. rw (e, nested, AllItems)
      (all_gather (λ q. weight q ≤ within p) (Le b) (λ q. nested c d q) (λ q l. nested_light b d q (omega arith)) (items_of p) (parts_within 0 p)))
      (λ e. rw (e, nested, AllItems) (let l = node_in 0 p in nested_light b d (left_of p) (omega arith)))
      (λ e. rw (e, nested, AllItems) tt)

  object_light : (b : ℕ) (p s : Node) → is 34 p ≡ true → 1 + weight p + 2 * weight s ≤ b → AllItems (Le b) (object_declarators c p s)
  unfolding object_declarators
  object_light b p s e h =
      let u = weight_pos s in
      let w = within_light p in
      let f : Node → Node = λ v. replaced_below c v in
      let g : Piece → Piece = on_items (each (λ q. change_node 1 f q)) in
      let q = with_values f p in
      let l = change_each_light 0 (λ x. change_node 1 f x) (change_node_light 1 f (λ v. replaced_light c (depth v) v)) p in
      let ns = gather (λ r. nested_below c (value r)) (properties p) in
      all_append (Le b) (keys_before c q) (pattern_declarator c q s +++ ns +++ rest_declarator c q s) (keys_before_light b q (omega arith))
      (all_append (Le b) (pattern_declarator c q s) (ns +++ rest_declarator c q s) (pattern_light b q s (omega arith))
      (all_append (Le b) ns (rest_declarator c q s)
      (all_gather (λ x. weight x ≤ within p) (Le b) (λ x. nested_below c (value x))
      (λ x y. let v = node_in 1 x in nested_light b (depth (value x)) (value x) (omega arith)) (properties p) (parts_within 0 p))
      (rest_light b q s (is_changed 0 g p 34 ∙ e) (omega arith))))

  patterns_light : (b : ℕ) (p s : Node) → 1 + weight p + 2 * weight s ≤ b → AllItems (Le b) (pattern_declarators c p s)
  unfolding pattern_declarators
  patterns_light b p s h =
      let u = weight_pos s in
      by_shape (shape p)
      (λ e. rw (e, AllItems) (object_light b p s (object_is p e) h))
      (λ e. rw (e, AllItems)
      (let l = replaced_light c (depth p) p in
      let d = declares_weight (replaced_below c p) s in
      all_append (Le b) (only (declares (replaced_below c p) s)) (nested_below c p) (omega arith, tt) (nested_light b (depth p) p (omega arith))))
      (λ e. rw (e, AllItems) tt)
      (λ e. rw (e, AllItems) tt)

  source_light : (p init : Node) → weight (source c p init) ≤ weight init
  unfolding source
  source_light p init =
      let w = weight_pos init in
      let t = temporary_weight c.path 3 (position p) in
      by_test (is_name_of init) (λ e. rw e (omega arith)) (λ e. rw e (omega arith))

  lowered_light : (b : ℕ) (p init : Node) → 2 * weight p + 2 * weight init ≤ b → AllItems (Le b) (lower_declarator c p init)
  unfolding lower_declarator source_declarator
  lowered_light b p init h =
      let u = weight_pos p in
      let w = weight_pos init in
      let s = source_light p init in
      let t = temporary_weight c.path 3 (position p) in
      let d = declares_weight (value_of c p) init in
      all_append (Le b) (cond (is_name_of init) none (only (declares (value_of c p) init))) (pattern_declarators c p (source c p init))
      (by_test (is_name_of init) (λ e. rw (e, AllItems) tt) (λ e. rw (e, AllItems) (omega arith, tt)))
      (patterns_light b p (source c p init) (omega arith))

  declarators_light : (b : ℕ) (d : Node) → 2 * weight d + 2 ≤ b → AllItems (Le b) (declarators c d)
  unfolding declarators
  declarators_light b d h =
      let w = declarator_weighs d in
      by_test (is_lowered d)
      (λ e. rw (e, AllItems) (lowered_light b (node_at_of 0 d) (node_at_of 1 d) (omega arith)))
      (λ e. rw (e, AllItems) (omega arith, tt))

  declaration_piece : (w : ℕ) (p : Piece) → 3 + 2 * weight_piece p ≤ w → AllPiece (λ m. weight m < w) (on_items (gather (declarators c)) p)
  unfolding on_items weight
  declaration_piece w (one n) h = omega arith
  declaration_piece w (list is) h =
      all_gather (λ d. weight d < suc (weight_items is)) (λ m. weight m < w) (declarators c)
      (λ d l. weaker_items (Le (2 * weight d + 2)) (λ m. weight m < w) (λ m k. omega arith) (declarators c d) (declarators_light (2 * weight d + 2) d (omega arith)))
      is (items_light (suc (weight_items is)) is (omega arith))
  declaration_piece w (text bs) h = tt
  declaration_piece w (byte b) h = tt
  declaration_piece w (mark b) h = tt
  declaration_piece w (number b) h = tt

  pub declaration_falls : (n : Node) → is 4 n ≡ true → Each (Falling n) (declaration c n)
  unfolding declaration change is extra factor is_head
  declaration_falls (node at k fs) e =
      let w = weight_of at k 4 fs e in
      let b = piece_light_in fs 2 in
      all_changed (Falling (node at k fs)) fs 2 (on_items (gather (declarators c))) (parts_fall (node at k fs))
      (declaration_piece (weight (node at k fs)) (piece_in fs 2) (omega arith))
