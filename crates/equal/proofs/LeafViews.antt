-- The views of patterns, the keys and the rests keep what holds of Literals and StaticKeys, if it holds of the strings made of them.
-- Assumes nothing.
use mathlib.Core.Path.{◌≡◌, refl, ap, ◌∙◌}
use mathlib.Core.Bool.{Bool, true, false, cond, ◌||◌, ◌&&◌}
use mathlib.Core.List.{List}
use Prim.Native.Nat.{ℕ, zero, suc}
use native.Mathlib.Omega.{arith}
use lib.Dec.{eqb}
use borrow.Author.Tests.{eqb-true}
use Rattle.tree.specs.Tree.{Node, Items, count, depth}
use Rattle.tree.specs.Tree.Fields.{done, absent, field}
use Rattle.tree.specs.Tree.Piece.{one, list, text, byte}
use Rattle.tree.specs.Tree.Items.{none, item}
use Rattle.lowering.proofs.Clauses.{text_name, text_literal}
use Rattle.lowering.specs.Parts.{kind, is, items_at_of, text_at_of, stands, change_node, on_items, only, each, gather}
use Rattle.lowering.specs.Made.{Context, temporary, reference, excluded_of, key_of, helper, call, E, K, object, array, sequence, member, assign, string, declares, declared}
use Rattle.lowering.specs.Patterns.{shape, properties, items_of, rest, has_rest_of, left_of, key, value, with_items, with_properties, with_values, replaced, objects_with_rest}
use Rattle.lowering.specs.Keys.{key_sort, excluded_key, kept_key, key_temporary, all_primitive, excluded_keys, key_temporaries, taken, literal_text}
use Rattle.lowering.specs.Keys.Key.{name, literal, template, private, again, other}
use Rattle.lowering.specs.Rests.{has_no_properties, mapped, is_hoisted, keys_read, rest_value, excluded_for}
use Rattle.lowering.specs.Assignments.{target, nearest, parts_of, parts_replaced, target_left}
use Rattle.lowering.specs.Heads.{moved, moved_pattern, moved_out_of}
use Rattle.lowering.proofs.Cases.{by_test, by_shape, by_key, is_changed, is_literal}
use Rattle.equal.proofs.LeafParts

-- ---- keys by sort

name_is : (k : Node) → key_sort k ≡ name → is 38 k ≡ true
unfolding key_sort
name_is k e = go (is 38 k) (is 22 k) (is 23 k && eqb (count (items_at_of 0 k)) 1) (is 39 k) (is 20 k || (is 18 k && stands 1 k)) e
  where
    go : (a b c d f : Bool) → cond a name (cond b literal (cond c template (cond d private (cond f again other)))) ≡ name → a ≡ true
    go true b c d f e = refl
    go false true c d f e = let z : ◌≡◌ {A = ℕ} 0 1 = cc in absurd (omega arith)
    go false false true d f e = let z : ◌≡◌ {A = ℕ} 0 1 = cc in absurd (omega arith)
    go false false false true f e = let z : ◌≡◌ {A = ℕ} 0 1 = cc in absurd (omega arith)
    go false false false false true e = let z : ◌≡◌ {A = ℕ} 0 1 = cc in absurd (omega arith)
    go false false false false false e = let z : ◌≡◌ {A = ℕ} 0 1 = cc in absurd (omega arith)

-- a kind that is known
leaf_kind_lem : (n : Node) (j : ℕ) → is j n ≡ true → LeafParts.is_leaf_of (kind n) ≡ LeafParts.is_leaf_of j
unfolding is
leaf_kind_lem n j e = ap LeafParts.is_leaf_of (eqb-true (kind n) j e)

-- what holds of StaticKeys and Literals holds of the strings that are made of them
pub record Makes (Q : Node → Type 0) : Type 0 where
  pub named : (k : Node) → is 38 k ≡ true → Q k → Q (string (text_at_of 0 k))
  pub formed : (k : Node) → is 22 k ≡ true → Q k → Q (string (literal_text k))

module _ (Q : Node → Type 0) (makes : Makes Q) where
  abbrev pub Good : Node → Type 0
  Good n = LeafParts.Leaves Q n

  abbrev pub GoodItems : Items → Type 0
  GoodItems is = LeafParts.LeavesItems Q is

  -- ---- nodes that are made

  pub temporary_good : (path : List ℕ) (stem at : ℕ) → Good (temporary path stem at)
  temporary_good path stem at = LeafParts.alone Q (temporary path stem at) refl refl

  pub helper_good : (h : ℕ) → Good (helper h)
  helper_good h = LeafParts.other Q 0 21 (field (byte h) done) refl (tt, tt)

  pub call_good : (f : Node) (xs : Items) → Good f → GoodItems xs → Good (call f xs)
  call_good f xs g h = LeafParts.other Q 0 29 (field (one f) (field (list xs) done)) refl (g, (h, tt))

  pub object_good : (xs : Items) → GoodItems xs → Good (object xs)
  object_good xs h = LeafParts.other Q 0 24 (field (list xs) done) refl (h, tt)

  pub array_good : (xs : Items) → GoodItems xs → Good (array xs)
  array_good xs h = LeafParts.other Q 0 32 (field (list xs) done) refl (h, tt)

  pub sequence_good : (xs : Items) → GoodItems xs → Good (sequence xs)
  sequence_good xs h = LeafParts.other Q 0 28 (field (list xs) done) refl (h, tt)

  member_good : (a : Node) (bs : List ℕ) → Good a → Good (member a bs)
  member_good a bs h = LeafParts.other Q 0 30 (field (one a) (field (text bs) done)) refl (h, (tt, tt))

  pub assign_good : (a b : Node) → Good a → Good b → Good (assign a b)
  assign_good a b g h = LeafParts.other Q 0 27 (field (byte 1) (field (one a) (field (one b) done))) refl (tt, (g, (h, tt)))

  pub declares_good : (a b : Node) → Good a → Good b → Good (declares a b)
  declares_good a b g h = LeafParts.other Q 0 5 (field (one a) (field (one b) done)) refl (g, (h, tt))

  pub declared_good : (a : Node) → Good a → Good (declared a)
  declared_good a g = LeafParts.other Q 0 5 (field (one a) (absent done)) refl (g, tt)

  -- ---- keys

  module _ (c : Context) where
    excluded_key_good : (q : Node) → Good q → GoodItems (excluded_key c q)
    unfolding excluded_key
    excluded_key_good q h =
        let k = LeafParts.node_leaves Q 0 q h in
        by_key (key_sort (key q))
        (λ e.
        let i = name_is (key q) e in
        rw (e, excluded_key, text_name (key q) e) (LeafParts.string_leaves Q (text_at_of 0 (key q)) (makes.named (key q) i (LeafParts.own Q (key q) (leaf_kind_lem (key q) 38 i) k)), tt))
        (λ e.
        let i = is_literal (key q) e in
        rw (e, excluded_key, text_literal (key q) e) (LeafParts.string_leaves Q (literal_text (key q)) (makes.formed (key q) i (LeafParts.own Q (key q) (leaf_kind_lem (key q) 22 i) k)), tt))
        (λ e. rw (e, excluded_key) (k, tt))
        (λ e. rw (e, excluded_key) tt)
        (λ e. rw (e, excluded_key) (k, tt))
        (λ e. rw (e, excluded_key) (temporary_good c.path 4 _, tt))

    kept_key_good : (q : Node) → Good q → Good (kept_key c q)
    unfolding kept_key
    kept_key_good q h =
        by_key (key_sort (key q))
        (λ e. rw (e, kept_key) h)
        (λ e. rw (e, kept_key) h)
        (λ e. rw (e, kept_key) h)
        (λ e. rw (e, kept_key) h)
        (λ e. rw (e, kept_key) h)
        (λ e. rw (e, kept_key) (LeafParts.change_node_lem Q 0 (λ k. key_of c q) (λ k g. temporary_good c.path 4 _) q h))

    key_temporary_good : (q : Node) → Good q → GoodItems (key_temporary c q)
    unfolding key_temporary
    key_temporary_good q h =
        by_key (key_sort (key q))
        (λ e. rw (e, key_temporary) tt)
        (λ e. rw (e, key_temporary) tt)
        (λ e. rw (e, key_temporary) tt)
        (λ e. rw (e, key_temporary) tt)
        (λ e. rw (e, key_temporary) tt)
        (λ e. rw (e, key_temporary) (declares_good (key_of c q) (key q) (temporary_good c.path 4 _) (LeafParts.node_leaves Q 0 q h), tt))

    excluded_keys_good : (p : Node) → Good p → GoodItems (excluded_keys c p)
    unfolding excluded_keys
    excluded_keys_good p h = LeafParts.gather_leaves Q (excluded_key c) excluded_key_good (properties p) (LeafParts.items_leaves Q 0 p h)

    pub key_temporaries_good : (p : Node) → Good p → GoodItems (key_temporaries c p)
    unfolding key_temporaries
    key_temporaries_good p h = LeafParts.gather_leaves Q (key_temporary c) key_temporary_good (properties p) (LeafParts.items_leaves Q 0 p h)

    pub taken_good : (p : Node) → is 34 p ≡ true → Good p → Good (taken c p)
    unfolding taken
    taken_good p i h =
        by_test (has_rest_of p)
        (λ e. rw e
        (LeafParts.without_leaves Q 1 (with_properties (kept_key c) p) (leaf_kind_lem (with_properties (kept_key c) p) 34 (is_changed 0 (on_items (each (kept_key c))) p 34 ∙ i))
        (LeafParts.change_items_lem Q 0 (each (kept_key c)) (LeafParts.each_leaves Q (kept_key c) kept_key_good) p h)))
        (λ e. rw e h)

    -- ---- rests

    mapped_good : (n : Node) → Good n → Good (mapped n)
    unfolding mapped
    mapped_good n h = call_good (member n _) (only K) (member_good n _ h) (helper_good 5, tt)

    keys_read_good : (p : Node) → Good p → Good (keys_read c p)
    unfolding keys_read
    keys_read_good p h =
        let a = array_good (excluded_keys c p) (excluded_keys_good p h) in
        by_test (is_hoisted c p)
        (λ e. rw e (temporary_good c.path 2 _))
        (λ e. rw e (by_test (all_primitive p) (λ f. rw f a) (λ f. rw f (mapped_good (array (excluded_keys c p)) a))))

    pub rest_value_good : (p s : Node) → Good p → Good s → Good (rest_value c p s)
    unfolding rest_value
    rest_value_good p s h g =
        by_test (has_no_properties p)
        (λ e. rw e
        (call_good (helper 2) (item (object none) (only (sequence (item (E s) (only s))))) (helper_good 2)
        (object_good none tt, (sequence_good (item (E s) (only s)) (call_good (helper 3) (only s) (helper_good 3) (g, tt), (g, tt)), tt))))
        (λ e. rw e (call_good (helper 4) (item s (only (keys_read c p))) (helper_good 4) (g, (keys_read_good p h, tt))))

    pub excluded_for_good : (p : Node) → Good p → GoodItems (excluded_for c p)
    unfolding excluded_for
    excluded_for_good p h =
        by_test (is_hoisted c p)
        (λ e. rw e
        (declares_good (excluded_of c p) (array (excluded_keys c p)) (temporary_good c.path 2 _) (array_good (excluded_keys c p) (excluded_keys_good p h)), tt))
        (λ e. rw e tt)

    -- ---- patterns

    pub values_good : (f : Node → Node) → ((v : Node) → Good v → Good (f v)) → (p : Node) → Good p → Good (with_values f p)
    values_good f g p h =
        LeafParts.change_items_lem Q 0 (each (λ q. change_node 1 f q)) (LeafParts.each_leaves Q (λ q. change_node 1 f q) (λ q k. LeafParts.change_node_lem Q 1 f g q k)) p h

    pub items_good : (f : Node → Node) → ((v : Node) → Good v → Good (f v)) → (p : Node) → Good p → Good (with_items f p)
    items_good f g p h = LeafParts.change_items_lem Q 0 (each f) (LeafParts.each_leaves Q f g) p h

    pub reference_good : (p : Node) → Good (reference c p)
    reference_good p = temporary_good c.path 1 _

    pub replaced_good : (d : ℕ) (p : Node) → Good p → Good (replaced c d p)
    unfolding replaced
    replaced_good zero p h = h
    replaced_good (suc d) p h =
        let f : Node → Node = λ v. replaced c d v in
        by_shape (shape p)
        (λ e. rw (e, replaced)
        (by_test (has_rest_of p) (λ r. rw r (reference_good p)) (λ r. rw r (values_good f (replaced_good d) p h))))
        (λ e. rw (e, replaced) (items_good f (replaced_good d) p h))
        (λ e. rw (e, replaced) (LeafParts.change_node_lem Q 0 f (replaced_good d) p h))
        (λ e. rw (e, replaced) h)

    -- what is found in each property's value
    pub values_found : (f : Node → Items) → ((v : Node) → Good v → GoodItems (f v)) → (p : Node) → Good p → GoodItems (gather (λ q. f (value q)) (properties p))
    values_found f g p h = LeafParts.gather_leaves Q (λ q. f (value q)) (λ q k. g (value q) (LeafParts.node_leaves Q 1 q k)) (properties p) (LeafParts.items_leaves Q 0 p h)

    pub objects_good : (d : ℕ) (p : Node) → Good p → GoodItems (objects_with_rest c d p)
    unfolding objects_with_rest
    objects_good zero p h = tt
    objects_good (suc d) p h =
        let f : Node → Items = λ v. objects_with_rest c d v in
        by_shape (shape p)
        (λ e. rw (e, objects_with_rest)
        (LeafParts.append_leaves Q (gather (λ q. f (value q)) (properties p)) (cond (has_rest_of p) (only (with_values (λ v. replaced c d v) p)) none) (values_found f (objects_good d) p h)
        (by_test (has_rest_of p) (λ r. rw r (values_good (λ v. replaced c d v) (replaced_good d) p h, tt)) (λ r. rw r tt))))
        (λ e. rw (e, objects_with_rest) (LeafParts.gather_leaves Q f (objects_good d) (items_of p) (LeafParts.items_leaves Q 0 p h)))
        (λ e. rw (e, objects_with_rest) (objects_good d (left_of p) (LeafParts.node_leaves Q 0 p h)))
        (λ e. rw (e, objects_with_rest) tt)

    -- ---- targets

    pub parts_replaced_good : (d : ℕ) (p : Node) → Good p → Good (parts_replaced c d p)
    unfolding parts_replaced
    parts_replaced_good zero p h = h
    parts_replaced_good (suc d) p h =
        let f : Node → Node = λ v. parts_replaced c d v in
        by_shape (shape p)
        (λ e. rw (e, parts_replaced)
        (by_test (has_rest_of p) (λ r. rw r (reference_good p)) (λ r. rw r (values_good f (parts_replaced_good d) p h))))
        (λ e. rw (e, parts_replaced) h)
        (λ e. rw (e, parts_replaced) (LeafParts.change_node_lem Q 0 f (parts_replaced_good d) p h))
        (λ e. rw (e, parts_replaced) h)

    pub target_left_good : (n : Node) → is 34 (target n) ≡ true → Good (target n) → Good (target_left c n)
    target_left_good n e h =
        let p = target n in
        let f : Node → Node = λ v. parts_replaced c (depth p) v in
        taken_good (with_values f p) (is_changed 0 (on_items (each (λ q. change_node 1 f q))) p 34 ∙ e) (values_good f (parts_replaced_good (depth p)) p h)

    pub nearest_good : (arrays : Bool) (d : ℕ) (p : Node) → Good p → GoodItems (nearest arrays d p)
    unfolding nearest
    nearest_good arrays zero p h = tt
    nearest_good arrays (suc d) p h =
        let f : Node → Items = λ v. nearest arrays d v in
        by_shape (shape p)
        (λ e. rw (e, nearest) (by_test (has_rest_of p) (λ r. rw r (h, tt)) (λ r. rw r (values_found f (nearest_good arrays d) p h))))
        (λ e. rw (e, nearest) (some_good arrays (gather f (items_of p)) (LeafParts.gather_leaves Q f (nearest_good arrays d) (items_of p) (LeafParts.items_leaves Q 0 p h))))
        (λ e. rw (e, nearest) (nearest_good arrays d (left_of p) (LeafParts.node_leaves Q 0 p h)))
        (λ e. rw (e, nearest) tt)
      where
        some_good : (b : Bool) (is : Items) → GoodItems is → GoodItems (cond b is none)
        some_good true is g = g
        some_good false is g = tt

    -- the parts of a target that is an object with rest
    pub parts_good : (p : Node) → Good p → GoodItems (parts_of p)
    parts_good p h = values_found (λ v. nearest false (depth p) v) (nearest_good false (depth p)) p h

    -- ---- what is moved out of a head

    pub moved_good : (d : ℕ) (p : Node) → Good p → GoodItems (moved d p)
    unfolding moved
    moved_good zero p h = tt
    moved_good (suc d) p h =
        let f : Node → Items = λ v. moved d v in
        by_shape (shape p)
        (λ e. rw (e, moved) (h, tt))
        (λ e. rw (e, moved)
        (LeafParts.append_leaves Q (gather f (items_of p)) (f (rest p)) (LeafParts.gather_leaves Q f (moved_good d) (items_of p) (LeafParts.items_leaves Q 0 p h)) (moved_good d (rest p) (LeafParts.node_leaves Q 1 p h))))
        (λ e. rw (e, moved) (h, tt))
        (λ e. rw (e, moved) tt)

    pub moved_pattern_good : (p : Node) → Good p → Good (moved_pattern p)
    unfolding moved_pattern
    moved_pattern_good p h =
        by_shape (shape p)
        (λ e. rw (e, moved_pattern) h)
        (λ e. rw (e, moved_pattern) h)
        (λ e. rw (e, moved_pattern) (LeafParts.node_leaves Q 0 p h))
        (λ e. rw (e, moved_pattern) h)

    pub moved_out_good : (d : ℕ) (p : Node) → Good p → Good (moved_out_of c d p)
    unfolding moved_out_of
    moved_out_good zero p h = h
    moved_out_good (suc d) p h =
        let f : Node → Node = λ v. moved_out_of c d v in
        by_shape (shape p)
        (λ e. rw (e, moved_out_of) (reference_good p))
        (λ e. rw (e, moved_out_of) (LeafParts.change_node_lem Q 1 f (moved_out_good d) (with_items f p) (items_good f (moved_out_good d) p h)))
        (λ e. rw (e, moved_out_of) (LeafParts.change_node_lem Q 0 (λ l. reference c p) (λ l g. reference_good p) p h))
        (λ e. rw (e, moved_out_of) h)
