-- The views of patterns have at most as many sites as the patterns, and what is found below them no more than there is.
-- Assumes nothing.
use mathlib.Core.Path.{◌≡◌, refl, ap, ◌∙◌}
use mathlib.Core.Bool.{Bool, true, false, cond, false≢true}
use mathlib.Core.List.{List}
use Prim.Native.Nat.{ℕ, zero, suc, ◌+◌, ◌≤◌}
use native.Mathlib.Omega.{arith}
use Rattle.tree.specs.Tree.{Node, Fields, Piece, Items, depth}
use Rattle.tree.specs.Tree.Node.{node}
use Rattle.tree.specs.Tree.Items.{none}
use Rattle.lowering.specs.Parts.{nothing, position, is, piece_in, change_in, as_items_of, change, on_node, on_items, change_node, only, each, gather, ◌+++◌}
use Rattle.lowering.specs.Made.{Context, reference, key_of, string}
use Rattle.lowering.specs.Patterns.{shape, properties, items_of, rest, has_rest_of, left_of, key, value, with_items, with_properties, with_values, has_nested_object_rest, replaced, objects_with_rest}
use Rattle.lowering.specs.Keys.{key_sort, excluded_key, kept_key, excluded_keys, taken, entry_of, key_text}
use Rattle.lowering.specs.Assignments.{target, nearest, parts_replaced, target_left}
use Rattle.lowering.specs.Heads.{moved, moved_pattern, moved_out_of}
use Rattle.lowering.proofs.All.{AllItems, all_append, all_cond, all_gather, all_unit}
use Rattle.lowering.proofs.Clauses.{objects_object, objects_array, objects_default, objects_leaf, replaced_object, replaced_array, replaced_default, replaced_leaf}
use Rattle.lowering.proofs.Cases.{by_test, by_shape, object_is, array_is, default_is, by_key, is_changed, by_entry}
use Rattle.lowering.proofs.Sites.{is_name_kind, direct, direct_piece, own, other_fields, here, here_items, sites, sites_fields, sites_items, Light, node_in, items_in_lem, items_and_node, sites_append, here_append, gather_light, change_node_light, change_each_light, without_fewer, temporary_sites, items_sum, node_sum, object_whole, array_here, default_here, gather_here, Object}

-- a node put in place of field 0
put_direct : (fs : Fields) (t : Node) → direct (change_in fs 0 (on_node (λ l. t))) ≤ direct fs
unfolding change_in on_node direct direct_piece
put_direct Fields.done t = omega arith
put_direct (Fields.absent fs) t = omega arith
put_direct (Fields.field (Piece.one n) fs) t = omega arith
put_direct (Fields.field (Piece.list is) fs) t = omega arith
put_direct (Fields.field (Piece.text bs) fs) t = omega arith
put_direct (Fields.field (Piece.byte b) fs) t = omega arith
put_direct (Fields.field (Piece.mark b) fs) t = omega arith
put_direct (Fields.field (Piece.number b) fs) t = omega arith

put_sites : (x : ℕ) (fs : Fields) (t : Node) → sites x t ≡ 0 → sites_fields x (change_in fs 0 (on_node (λ l. t))) ≤ sites_fields x fs
unfolding change_in on_node sites
put_sites x Fields.done t z = omega arith
put_sites x (Fields.absent fs) t z = omega arith
put_sites x (Fields.field (Piece.one n) fs) t z = omega arith
put_sites x (Fields.field (Piece.list is) fs) t z = omega arith
put_sites x (Fields.field (Piece.text bs) fs) t z = omega arith
put_sites x (Fields.field (Piece.byte b) fs) t z = omega arith
put_sites x (Fields.field (Piece.mark b) fs) t z = omega arith
put_sites x (Fields.field (Piece.number b) fs) t z = omega arith

put_here : (x : ℕ) (fs : Fields) (t : Node) → here_items x (as_items_of (piece_in (change_in fs 0 (on_node (λ l. t))) 0)) ≤ here_items x (as_items_of (piece_in fs 0))
unfolding change_in on_node piece_in
put_here x Fields.done t = omega arith
put_here x (Fields.absent fs) t = omega arith
put_here x (Fields.field (Piece.one n) fs) t = omega arith
put_here x (Fields.field (Piece.list is) fs) t = omega arith
put_here x (Fields.field (Piece.text bs) fs) t = omega arith
put_here x (Fields.field (Piece.byte b) fs) t = omega arith
put_here x (Fields.field (Piece.mark b) fs) t = omega arith
put_here x (Fields.field (Piece.number b) fs) t = omega arith

module _ (x : ℕ) where
  pub none_sites : sites_items x none ≡ 0
  unfolding sites
  none_sites = refl

  pub only_sites : (n : Node) → sites_items x (only n) ≡ sites x n
  unfolding sites
  only_sites n = omega arith

  pub only_here : (n : Node) → here_items x (only n) ≡ here x (position n)
  unfolding here_items
  only_here n = omega arith

  pub none_here : here_items x none ≡ 0
  unfolding here_items
  none_here = refl

  cond_at_most : (b : Bool) (is js : Items) (m : ℕ) → sites_items x is ≤ m → sites_items x js ≤ m → sites_items x (cond b is js) ≤ m
  cond_at_most true is js m h k = h
  cond_at_most false is js m h k = k

  -- ---- a pattern with an object rest below it is no leaf

  pub object_here : (p : Node) → is 34 p ≡ true → here x (position p) ≤ sites x p
  object_here p e = let h = object_whole x p e in omega arith

  pub rest_here : (d : ℕ) (p : Node) → has_nested_object_rest d p ≡ true → here x (position p) ≤ sites x p
  unfolding has_nested_object_rest
  rest_here zero p h = absurd (false≢true h)
  rest_here (suc d) p h =
      by_shape (shape p)
      (λ e. object_here p (object_is p e))
      (λ e. array_here x p (array_is p e))
      (λ e. default_here x p (default_is p e))
      (λ e. let z : false ≡ true = rw (e, has_nested_object_rest) at h in absurd (false≢true z))

  -- ---- moved out of a head

  pub moved_sites : (d : ℕ) (p : Node) → sites_items x (moved d p) ≤ sites x p
  unfolding moved
  moved_sites zero p = let z = none_sites in omega arith
  moved_sites (suc d) p =
      let o = only_sites p in
      let z = none_sites in
      by_shape (shape p)
      (λ e. rw (e, moved) (omega arith))
      (λ e. rw (e, moved)
      (let a = gather_light x (λ m. moved d m) (moved_sites d) (items_of p) in
      let b = moved_sites d (rest p) in
      let w = sites_append x (gather (λ m. moved d m) (items_of p)) (moved d (rest p)) in
      let t = items_and_node x 0 1 (omega arith) p in
      omega arith))
      (λ e. rw (e, moved) (omega arith))
      (λ e. rw (e, moved) (omega arith))

  pub moved_here : (d : ℕ) (p : Node) → here_items x (moved d p) ≤ sites x p
  unfolding moved
  moved_here zero p = let z = none_here in omega arith
  moved_here (suc d) p =
      let o = only_here p in
      let z = none_here in
      by_shape (shape p)
      (λ e. rw (e, moved) (let h = object_here p (object_is p e) in omega arith))
      (λ e. rw (e, moved)
      (let a = gather_here x (λ m. moved d m) (moved_here d) (items_of p) in
      let b = moved_here d (rest p) in
      let w = here_append x (gather (λ m. moved d m) (items_of p)) (moved d (rest p)) in
      let t = items_and_node x 0 1 (omega arith) p in
      omega arith))
      (λ e. rw (e, moved) (let h = default_here x p (default_is p e) in omega arith))
      (λ e. rw (e, moved) (omega arith))

  pub moved_pattern_sites : (p : Node) → sites x (moved_pattern p) ≤ sites x p
  unfolding moved_pattern
  moved_pattern_sites p =
      by_shape (shape p)
      (λ e. rw (e, moved_pattern) (omega arith))
      (λ e. rw (e, moved_pattern) (omega arith))
      (λ e. rw (e, moved_pattern) (node_in x 0 p))
      (λ e. rw (e, moved_pattern) (omega arith))

  -- ---- the objects with rest nearest below a pattern

  module _ (arrays : Bool) where
    pub nearest_sites : (d : ℕ) (p : Node) → sites_items x (nearest arrays d p) ≤ sites x p
    unfolding nearest
    nearest_sites zero p = let z = none_sites in omega arith
    nearest_sites (suc d) p =
        let z = none_sites in
        let o = only_sites p in
        let i = items_in_lem x 0 p in
        by_shape (shape p)
        (λ e. rw (e, nearest)
        (let a = gather_light x (λ q. nearest arrays d (value q)) (λ q. let r = nearest_sites d (value q) in let v = node_in x 1 q in omega arith) (properties p) in
        by_test (has_rest_of p) (λ r. rw r (omega arith)) (λ r. rw r (omega arith))))
        (λ e. rw (e, nearest)
        (let a = gather_light x (λ m. nearest arrays d m) (nearest_sites d) (items_of p) in
        cond_at_most arrays (gather (λ m. nearest arrays d m) (items_of p)) none (sites x p) (omega arith) (omega arith)))
        (λ e. rw (e, nearest) (let r = nearest_sites d (left_of p) in let v = node_in x 0 p in omega arith))
        (λ e. rw (e, nearest) (omega arith))

    -- those below the values of an object
    pub parts_sites : (d : ℕ) (p : Node) → sites_items x (gather (λ q. nearest arrays d (value q)) (properties p)) ≤ sites_items x (properties p)
    parts_sites d p =
        gather_light x (λ q. nearest arrays d (value q)) (λ q. let r = nearest_sites d (value q) in let v = node_in x 1 q in omega arith) (properties p)

    pub nearest_are : (d : ℕ) (p : Node) → AllItems (Object x) (nearest arrays d p)
    unfolding nearest
    nearest_are zero p = tt
    nearest_are (suc d) p =
        by_shape (shape p)
        (λ e. rw (e, nearest, AllItems)
        (all_cond (Object x) (has_rest_of p) (only p) (gather (λ q. nearest arrays d (value q)) (properties p)) (object_is p e, tt) (parts_are d p (nearest_are d))))
        (λ e. rw (e, nearest, AllItems)
        (all_cond (Object x) arrays (gather (λ m. nearest arrays d m) (items_of p)) none
        (all_gather (λ q. Unit {0}) (Object x) (λ m. nearest arrays d m) (λ q l. nearest_are d q) (items_of p) (all_unit (items_of p))) tt))
        (λ e. rw (e, nearest, AllItems) (nearest_are d (left_of p)))
        (λ e. rw (e, nearest, AllItems) tt)
      where
        parts_are : (d : ℕ) (p : Node) → ((m : Node) → AllItems (Object x) (nearest arrays d m)) → AllItems (Object x) (gather (λ q. nearest arrays d (value q)) (properties p))
        parts_are d p are = all_gather (λ q. Unit {0}) (Object x) (λ q. nearest arrays d (value q)) (λ q l. are (value q)) (properties p) (all_unit (properties p))

  string_sites : (bs : List ℕ) → sites x (string bs) ≡ 0
  unfolding sites own is_name_kind
  string_sites bs = refl

  -- a node without sites in place of field 0
  left_fewer : (p t : Node) → sites x t ≡ 0 → sites x (change_node 0 (λ l. t) p) ≤ sites x p
  unfolding change
  left_fewer (node at k fs) t z =
      other_fields x at k fs (change_in fs 0 (on_node (λ l. t))) (put_sites x fs t z) (put_direct fs t) (put_here x fs t)

  module _ (c : Context) where
    reference_light : (p : Node) → (sites x (reference c p) ≤ sites x p)
    reference_light p = let t = temporary_sites x c.path 1 (position p) in omega arith

    -- ---- replaced

    replaced_stays : (d : ℕ) (p : Node) → position (replaced c d p) ≡ position p
    unfolding replaced change
    replaced_stays zero p = refl
    replaced_stays (suc d) (node at k fs) =
        by_shape (shape (node at k fs))
        (λ e. rw (e, replaced) (by_test (has_rest_of (node at k fs)) (λ r. rw r refl) (λ r. rw r refl)))
        (λ e. rw (e, replaced) refl)
        (λ e. rw (e, replaced) refl)
        (λ e. rw (e, replaced) refl)

    replaced_fewer : (d : ℕ) (p : Node) → sites x (replaced c d p) ≤ sites x p
    unfolding replaced
    replaced_fewer zero p = omega arith
    replaced_fewer (suc d) p =
        let l : Light x (λ v. replaced c d v) = record { fewer = replaced_fewer d; stays = replaced_stays d } in
        by_shape (shape p)
        (λ e. rw (e, replaced)
        (by_test (has_rest_of p)
        (λ r. rw r (reference_light p))
        (λ r. rw r ((change_each_light x 0 (λ q. change_node 1 (λ v. replaced c d v) q) (change_node_light x 1 (λ v. replaced c d v) l)).fewer p))))
        (λ e. rw (e, replaced) ((change_each_light x 0 (λ v. replaced c d v) l).fewer p))
        (λ e. rw (e, replaced) ((change_node_light x 0 (λ v. replaced c d v) l).fewer p))
        (λ e. rw (e, replaced) (omega arith))

    pub replaced_light : (d : ℕ) → Light x (λ v. replaced c d v)
    replaced_light d = record { fewer = replaced_fewer d; stays = replaced_stays d }

    -- ---- the objects with rest: they and what is left of the pattern

    objects_nothing : (d : ℕ) → sites_items x (objects_with_rest c d nothing) ≡ 0
    unfolding objects_with_rest shape sites
    objects_nothing zero = refl
    objects_nothing (suc d) = refl

    pub objects_sum : (d : ℕ) (p : Node) → sites_items x (objects_with_rest c d p) + sites x (replaced c d p) ≤ sites x p
    unfolding objects_with_rest replaced
    objects_sum zero p = let z = none_sites in omega arith
    objects_sum (suc d) p =
        let f : Node → Node = λ v. replaced c d v in
        let h : Node → Items = λ v. objects_with_rest c d v in
        let z = none_sites in
        by_shape (shape p)
        (λ e.
        let inner = gather (λ q. h (value q)) (properties p) in
        let own = with_values f p in
        let a = items_sum x (λ q. h (value q)) (λ q. change_node 1 f q) (change_node_light x 1 f (replaced_light d))
        (λ q. node_sum x h f (replaced_light d) (objects_sum d) (objects_nothing d) 1 q) 0 p in
        let i = ap (sites_items x) (objects_object c d p e) in
        let j = ap (sites x) (replaced_object c d p e) in
        by_test (has_rest_of p)
        (λ r.
        let i' : sites_items x (objects_with_rest c (suc d) p) ≡ sites_items x (inner +++ only own) = rw r at i in
        let j' : sites x (replaced c (suc d) p) ≡ sites x (reference c p) = rw r at j in
        let w = sites_append x inner (only own) in
        let o = only_sites own in
        let t = temporary_sites x c.path 1 (position p) in
        omega arith)
        (λ r.
        let i' : sites_items x (objects_with_rest c (suc d) p) ≡ sites_items x (inner +++ none) = rw r at i in
        let j' : sites x (replaced c (suc d) p) ≡ sites x own = rw r at j in
        let w = sites_append x inner none in
        omega arith))
        (λ e.
        let a = items_sum x h f (replaced_light d) (objects_sum d) 0 p in
        let i = ap (sites_items x) (objects_array c d p e) in
        let j = ap (sites x) (replaced_array c d p e) in
        omega arith)
        (λ e.
        let a = node_sum x h f (replaced_light d) (objects_sum d) (objects_nothing d) 0 p in
        let i = ap (sites_items x) (objects_default c d p e) in
        let j = ap (sites x) (replaced_default c d p e) in
        omega arith)
        (λ e.
        let i = ap (sites_items x) (objects_leaf c d p e) in
        let j = ap (sites x) (replaced_leaf c d p e) in
        omega arith)

    pub objects_are : (d : ℕ) (p : Node) → AllItems (Object x) (objects_with_rest c d p)
    unfolding objects_with_rest
    objects_are zero p = tt
    objects_are (suc d) p =
        by_shape (shape p)
        (λ e. rw (e, objects_with_rest, AllItems)
        (all_append (Object x) (gather (λ q. objects_with_rest c d (value q)) (properties p)) (cond (has_rest_of p) (only (with_values (λ v. replaced c d v) p)) none)
        (all_gather (λ q. Unit {0}) (Object x) (λ q. objects_with_rest c d (value q)) (λ q l. objects_are d (value q)) (properties p) (all_unit (properties p)))
        (by_test (has_rest_of p)
        (λ r. rw (r, AllItems) (is_changed 0 (on_items (each (λ q. change_node 1 (λ v. replaced c d v) q))) p 34 ∙ object_is p e, tt))
        (λ r. rw (r, AllItems) tt))))
        (λ e. rw (e, objects_with_rest, AllItems)
        (all_gather (λ q. Unit {0}) (Object x) (λ m. objects_with_rest c d m) (λ q l. objects_are d q) (items_of p) (all_unit (items_of p))))
        (λ e. rw (e, objects_with_rest, AllItems) (objects_are d (left_of p)))
        (λ e. rw (e, objects_with_rest, AllItems) tt)

    -- ---- moved out

    moved_out_stays : (d : ℕ) (p : Node) → position (moved_out_of c d p) ≡ position p
    unfolding moved_out_of change
    moved_out_stays zero p = refl
    moved_out_stays (suc d) (node at k fs) =
        by_shape (shape (node at k fs))
        (λ e. rw (e, moved_out_of) refl)
        (λ e. rw (e, moved_out_of) refl)
        (λ e. rw (e, moved_out_of) refl)
        (λ e. rw (e, moved_out_of) refl)

    moved_out_fewer : (d : ℕ) (p : Node) → sites x (moved_out_of c d p) ≤ sites x p
    unfolding moved_out_of
    moved_out_fewer zero p = omega arith
    moved_out_fewer (suc d) p =
        let f : Node → Node = λ v. moved_out_of c d v in
        let l : Light x f = record { fewer = moved_out_fewer d; stays = moved_out_stays d } in
        by_shape (shape p)
        (λ e. rw (e, moved_out_of) (reference_light p))
        (λ e. rw (e, moved_out_of)
        (let a = (change_each_light x 0 f l).fewer p in let b = (change_node_light x 1 f l).fewer (with_items f p) in omega arith))
        (λ e. rw (e, moved_out_of) (left_fewer p (reference c p) (temporary_sites x c.path 1 (position p))))
        (λ e. rw (e, moved_out_of) (omega arith))

    pub moved_out_light : Light x (λ p. moved_out_of c (depth p) p)
    moved_out_light = record { fewer = λ p. moved_out_fewer (depth p) p; stays = λ p. moved_out_stays (depth p) p }

    -- ---- keys

    pub excluded_key_sites : (q : Node) → sites_items x (excluded_key c q) ≤ sites x q
    unfolding excluded_key
    excluded_key_sites q =
        let n = node_in x 0 q in
        let z = none_sites in
        let k = only_sites (key q) in
        by_entry (entry_of (key_sort (key q)))
        (λ e. rw (e, excluded_key) (let o = only_sites (string (key_text (key q))) in let s = string_sites (key_text (key q)) in omega arith))
        (λ e. rw (e, excluded_key) (omega arith))
        (λ e. rw (e, excluded_key) (omega arith))
        (λ e. rw (e, excluded_key) (let o = only_sites (key_of c q) in let s = temporary_sites x c.path 4 (position q) in omega arith))

    pub excluded_keys_sites : (p : Node) → sites_items x (excluded_keys c p) ≤ sites_items x (properties p)
    unfolding excluded_keys
    excluded_keys_sites p = gather_light x (excluded_key c) excluded_key_sites (properties p)

    kept_key_fewer : (q : Node) → sites x (kept_key c q) ≤ sites x q
    unfolding kept_key
    kept_key_fewer q =
        by_key (key_sort (key q))
        (λ e. rw (e, kept_key) (omega arith))
        (λ e. rw (e, kept_key) (omega arith))
        (λ e. rw (e, kept_key) (omega arith))
        (λ e. rw (e, kept_key) (omega arith))
        (λ e. rw (e, kept_key) (omega arith))
        (λ e. rw (e, kept_key) (left_fewer q (key_of c q) (temporary_sites x c.path 4 (position q))))

    kept_key_stays : (q : Node) → position (kept_key c q) ≡ position q
    unfolding kept_key change
    kept_key_stays (node at k fs) =
        by_key (key_sort (key (node at k fs)))
        (λ e. rw (e, kept_key) refl)
        (λ e. rw (e, kept_key) refl)
        (λ e. rw (e, kept_key) refl)
        (λ e. rw (e, kept_key) refl)
        (λ e. rw (e, kept_key) refl)
        (λ e. rw (e, kept_key) refl)

    kept_key_light : Light x (kept_key c)
    kept_key_light = record { fewer = kept_key_fewer; stays = kept_key_stays }

    pub taken_fewer : (p : Node) → sites x (taken c p) ≤ sites x p
    unfolding taken
    taken_fewer p =
        by_test (has_rest_of p)
        (λ e. rw e
        (let a = without_fewer x (with_properties (kept_key c) p) in let b = (change_each_light x 0 (kept_key c) kept_key_light).fewer p in omega arith))
        (λ e. rw e (omega arith))

    -- ---- a target without its rest, a temporary in place of each part

    parts_stays : (d : ℕ) (p : Node) → position (parts_replaced c d p) ≡ position p
    unfolding parts_replaced change
    parts_stays zero p = refl
    parts_stays (suc d) (node at k fs) =
        by_shape (shape (node at k fs))
        (λ e. rw (e, parts_replaced) (by_test (has_rest_of (node at k fs)) (λ r. rw r refl) (λ r. rw r refl)))
        (λ e. rw (e, parts_replaced) refl)
        (λ e. rw (e, parts_replaced) refl)
        (λ e. rw (e, parts_replaced) refl)

    parts_replaced_fewer : (d : ℕ) (p : Node) → sites x (parts_replaced c d p) ≤ sites x p
    unfolding parts_replaced
    parts_replaced_fewer zero p = omega arith
    parts_replaced_fewer (suc d) p =
        let f : Node → Node = λ v. parts_replaced c d v in
        let l : Light x f = record { fewer = parts_replaced_fewer d; stays = parts_stays d } in
        by_shape (shape p)
        (λ e. rw (e, parts_replaced)
        (by_test (has_rest_of p)
        (λ r. rw r (reference_light p))
        (λ r. rw r ((change_each_light x 0 (λ q. change_node 1 f q) (change_node_light x 1 f l)).fewer p))))
        (λ e. rw (e, parts_replaced) (omega arith))
        (λ e. rw (e, parts_replaced) ((change_node_light x 0 f l).fewer p))
        (λ e. rw (e, parts_replaced) (omega arith))

    pub left_fewer_than : (n : Node) → sites x (target_left c n) ≤ sites x (target n)
    left_fewer_than n =
        let p = target n in
        let f : Node → Node = λ v. parts_replaced c (depth p) v in
        let l : Light x f = record { fewer = parts_replaced_fewer (depth p); stays = parts_stays (depth p) } in
        let a = taken_fewer (with_values f p) in
        let b = (change_each_light x 0 (λ q. change_node 1 f q) (change_node_light x 1 f l)).fewer p in
        omega arith
