-- Keys, rests, and the declarators of one object pattern: no temporary stands in them but those that are made with them.
-- Assumes nothing.
use mathlib.Core.Path.{◌≡◌, refl, ap, ◌∙◌, subst}
use mathlib.Core.Bool.{true, cond}
use mathlib.Core.List.{List}
use Prim.Native.Nat.{ℕ, zero, suc, ◌+◌, ◌*◌, ◌≤◌}
use native.Mathlib.Omega.{arith}
use lib.Dec.{eqb}
use borrow.Author.Tests.{eqb-true}
use Rattle.tree.specs.Tree.{Node, Fields, Piece, Items}
use Rattle.tree.specs.Tree.Node.{node}
use Rattle.tree.specs.Tree.Fields.{done, absent, field}
use Rattle.tree.specs.Tree.Items.{none, hole, item}
use Rattle.lowering.specs.Parts.{position, is, piece_in, change_in, drop_in, as_node, node_at_of, change, on_node, on_items, change_node, without, only, each, gather, ◌+++◌}
use Rattle.lowering.specs.Made.{Context, temporary, reference, key_of, excluded_of, S, X, E, W, object, array, sequence, assign, string, declares, declared, id_of, let_of, var_of, assigning, returning, block, function_body}
use Rattle.lowering.specs.Patterns.{shape, properties, items_of, rest, has_rest_of, left_of, key, value, with_properties, with_values, replaced, objects_with_rest}
use Rattle.lowering.specs.Keys.{key_sort, key_temporary, key_temporaries, excluded_key, excluded_keys, all_primitive, kept_key, taken, key_text}
use Rattle.lowering.specs.Rests.{has_no_properties, mapped, is_hoisted, keys_read, rest_value, excluded_for, rest_makes}
use Rattle.lowering.specs.Declarations.{keys_before, pattern_declarator, rest_declarator, own, nested}
use Rattle.lowering.specs.Collect.{Name}
use Rattle.lowering.proofs.All.{AllItems, all_append, all_gather, other_changed}
use Rattle.lowering.proofs.Cases.{by_test, by_shape, by_key, object_is, is_changed}
use Rattle.lowering.proofs.Clauses.{objects_object, objects_array, objects_default}
use Rattle.lowering.proofs.MadeAtSites.{times, times_append, only_times, none_times}
use Rattle.lowering.proofs.Occurs.{occurs, occurs_fields, occurs_items, node_in, items_in_lem, Free, each_item, occurs_append, only_occurs, none_occurs, temporary_occurs, items_more, node_more, put_more, gathered, refs, ref_times, replaced_more}
use Rattle.lowering.proofs.ItemLaws.{each_append, gather_append}
use Rattle.lowering.proofs.ChangeLaws.{position_changed}

-- ---- the keys of a pattern do not depend on its values

first_of : (g : Piece → Piece) (fs : Fields) → piece_in (change_in fs 1 g) 0 ≡ piece_in fs 0
unfolding change_in piece_in
first_of g done = refl
first_of g (absent fs) = refl
first_of g (field p fs) = refl

pub key_kept : (f : Node → Node) (q : Node) → key (change_node 1 f q) ≡ key q
unfolding node_at_of change
key_kept f (node at k fs) = ap as_node (first_of (on_node f) fs)

other_field : (q : Node) (f : Piece → Piece) → value (change 0 f q) ≡ value q
unfolding change node_at_of
other_field (node at k fs) f = ap as_node (other_changed fs 0 f 1 (λ z. omega arith))

pub value_kept : (c : Context) (q : Node) → value (kept_key c q) ≡ value q
unfolding kept_key
value_kept c q =
    by_key (key_sort (key q)) (λ e. rw (e, kept_key) refl) (λ e. rw (e, kept_key) refl) (λ e. rw (e, kept_key) refl) (λ e. rw (e, kept_key) refl) (λ e. rw (e, kept_key) refl)
    (λ e. rw (e, kept_key) (other_field q (on_node (λ k. key_of c q))))

module _ (a : Name) where
  -- ---- nodes that the rules make

  pub S-occurs : (xs : Items) → occurs a (S xs) ≡ occurs_items a xs
  unfolding occurs
  S-occurs xs = omega arith

  pub object_occurs : (ps : Items) → occurs a (object ps) ≡ occurs_items a ps
  unfolding occurs
  object_occurs ps = omega arith

  array_occurs : (xs : Items) → occurs a (array xs) ≡ occurs_items a xs
  unfolding occurs
  array_occurs xs = omega arith

  mapped_occurs : (n : Node) → occurs a (mapped n) ≡ occurs a n
  unfolding mapped occurs
  mapped_occurs n = omega arith

  X-occurs : (s : Node) → occurs a (X (object none) (sequence (item (E s) (only s)))) ≡ 2 * occurs a s
  unfolding occurs
  X-occurs s = omega arith

  W-occurs : (u v : Node) → occurs a (W u v) ≡ occurs a u + occurs a v
  unfolding occurs
  W-occurs u v = omega arith

  pub assign_occurs : (u v : Node) → occurs a (assign u v) ≡ occurs a u + occurs a v
  unfolding occurs
  assign_occurs u v = omega arith

  pub declares_occurs : (u v : Node) → occurs a (declares u v) ≡ occurs a u + occurs a v
  unfolding occurs
  declares_occurs u v = omega arith

  pub declared_occurs : (u : Node) → occurs a (declared u) ≡ occurs a u
  unfolding occurs
  declared_occurs u = omega arith

  pub let_occurs : (u v : Node) → occurs a (let_of u v) ≡ occurs a u + occurs a v
  unfolding occurs
  let_occurs u v = omega arith

  pub var_occurs : (u : Node) → occurs a (var_of u) ≡ occurs a u
  unfolding occurs
  var_occurs u = omega arith

  pub assigning_occurs : (u v : Node) → occurs a (assigning u v) ≡ occurs a u + occurs a v
  unfolding occurs
  assigning_occurs u v = omega arith

  pub block_occurs : (is : Items) → occurs a (block is) ≡ occurs_items a is
  unfolding occurs
  block_occurs is = omega arith

  pub returned_occurs : (b : Node) → occurs a (function_body (only (returning b))) ≡ occurs a b
  unfolding occurs
  returned_occurs b = omega arith

  string_occurs : (bs : List ℕ) → occurs a (string bs) ≡ 0
  unfolding occurs
  string_occurs bs = refl

  -- ---- lists

  pub all_free : (is : Items) → AllItems (Free a) is → occurs_items a is ≡ 0
  unfolding occurs
  all_free none h = refl
  all_free (hole is) h = all_free is h
  all_free (item n is) h = let u = all_free is h.1 in let v = h.0 in omega arith

  gather_more : (h m : Node → Items) → ((n : Node) → occurs_items a (h n) ≤ occurs a n + times a (m n)) → (is : Items)
      → occurs_items a (gather h is) ≤ occurs_items a is + times a (gather m is)
  unfolding gather occurs times
  gather_more h m more none = omega arith
  gather_more h m more (hole is) = gather_more h m more is
  gather_more h m more (item n is) =
      let u = gather_more h m more is in
      let v = more n in
      let w = occurs_append a (h n) (gather h is) in
      let t = times_append a (m n) (gather m is) in
      omega arith

  pub gather_zero : (h m : Node → Items) → ((n : Node) → occurs a n ≡ 0 → times a (m n) ≡ 0 → occurs_items a (h n) ≡ 0) → (is : Items)
      → occurs_items a is ≡ 0 → times a (gather m is) ≡ 0 → occurs_items a (gather h is) ≡ 0
  unfolding gather occurs times
  gather_zero h m zero_at none y z = refl
  gather_zero h m zero_at (hole is) y z = gather_zero h m zero_at is y z
  gather_zero h m zero_at (item n is) y z =
      let t = times_append a (m n) (gather m is) in
      let u = gather_zero h m zero_at is (omega arith) (omega arith) in
      let v = zero_at n (omega arith) (omega arith) in
      let w = occurs_append a (h n) (gather h is) in
      omega arith

  -- a pattern without its rest
  dropped_fields : (fs : Fields) (i : ℕ) → occurs_fields a (drop_in fs i) ≤ occurs_fields a fs
  unfolding drop_in occurs
  dropped_fields done i = omega arith
  dropped_fields (absent fs) zero = omega arith
  dropped_fields (absent fs) (suc i) = dropped_fields fs i
  dropped_fields (field p fs) zero = omega arith
  dropped_fields (field p fs) (suc i) = let h = dropped_fields fs i in omega arith

  pattern_occurs : (at k : ℕ) (fs : Fields) → eqb k 34 ≡ true → occurs a (node at k fs) ≡ occurs_fields a fs
  unfolding occurs
  pattern_occurs at k fs e = ap (λ (m : ℕ). occurs a (node at m fs)) (eqb-true k 34 e) ∙ omega arith

  without_less : (n : Node) → is 34 n ≡ true → occurs a (without 1 n) ≤ occurs a n
  unfolding without is
  without_less (node at k fs) e =
      let u = pattern_occurs at k (drop_in fs 1) e in let v = pattern_occurs at k fs e in let w = dropped_fields fs 1 in omega arith

  -- ---- keys

  module _ (c : Context) where
    abbrev made : Node → ℕ
    made q = times a (each id_of (key_temporary c q))

    excluded_key_more : (q : Node) → occurs_items a (excluded_key c q) ≤ occurs a q + made q
    unfolding excluded_key key_temporary each node_at_of piece_in
    excluded_key_more q =
        let n = node_in a 0 q in
        let z = none_occurs a in
        let k = only_occurs a (key q) in
        by_key (key_sort (key q))
        (λ e. rw (e, excluded_key) (let o = only_occurs a (string (key_text (key q))) in let s = string_occurs (key_text (key q)) in omega arith))
        (λ e. rw (e, excluded_key) (let o = only_occurs a (string (key_text (key q))) in let s = string_occurs (key_text (key q)) in omega arith))
        (λ e. rw (e, excluded_key) (omega arith))
        (λ e. rw (e, excluded_key) (omega arith))
        (λ e. rw (e, excluded_key) (omega arith))
        (λ e. rw (e, excluded_key, key_temporary)
        (let o = only_occurs a (key_of c q) in let t = only_times a (key_of c q) in let s = temporary_occurs a c.path 4 (position q) in omega arith))

    kept_key_more : (q : Node) → occurs a (kept_key c q) ≤ occurs a q + made q
    unfolding kept_key key_temporary each node_at_of piece_in
    kept_key_more q =
        by_key (key_sort (key q))
        (λ e. rw (e, kept_key) (omega arith))
        (λ e. rw (e, kept_key) (omega arith))
        (λ e. rw (e, kept_key) (omega arith))
        (λ e. rw (e, kept_key) (omega arith))
        (λ e. rw (e, kept_key) (omega arith))
        (λ e. rw (e, kept_key, key_temporary)
        (let u = put_more a c q (key_of c q) in let t = only_times a (key_of c q) in let s = temporary_occurs a c.path 4 (position q) in omega arith))

    pub key_free : (q : Node) → occurs a q ≡ 0 → made q ≡ 0 → AllItems (Free a) (key_temporary c q)
    unfolding key_temporary each node_at_of piece_in
    key_free q h m =
        by_key (key_sort (key q))
        (λ e. rw (e, key_temporary, AllItems) tt)
        (λ e. rw (e, key_temporary, AllItems) tt)
        (λ e. rw (e, key_temporary, AllItems) tt)
        (λ e. rw (e, key_temporary, AllItems) tt)
        (λ e. rw (e, key_temporary, AllItems) tt)
        (λ e. rw (e, key_temporary, AllItems)
        (let t = only_times a (key_of c q) in
        let s = temporary_occurs a c.path 4 (position q) in
        let d = declares_occurs (key_of c q) (key q) in
        let n = node_in a 0 q in
        let m' : times a (only (key_of c q)) ≡ 0 = rw (e, key_temporary) at m in
        (omega arith, tt)))

    -- ---- the keys of a pattern

    keys_gathered : (p : Node) → times a (gather (λ q. each id_of (key_temporary c q)) (properties p)) ≡ times a (each id_of (key_temporaries c p))
    unfolding key_temporaries
    keys_gathered p = gathered a id_of (key_temporary c) (properties p)

    excluded_keys_more : (p : Node) → occurs_items a (excluded_keys c p) ≤ occurs_items a (properties p) + times a (each id_of (key_temporaries c p))
    unfolding excluded_keys
    excluded_keys_more p =
        let g = keys_gathered p in
        let h = gather_more (excluded_key c) (λ q. each id_of (key_temporary c q)) excluded_key_more (properties p) in
        omega arith

    pub keys_free : (p : Node) → occurs a p ≡ 0 → times a (each id_of (key_temporaries c p)) ≡ 0 → occurs_items a (key_temporaries c p) ≡ 0
    unfolding key_temporaries
    keys_free p h z =
        let i = items_in_lem a 0 p in
        let g = gathered a id_of (key_temporary c) (properties p) in
        gather_zero (key_temporary c) (λ q. each id_of (key_temporary c q)) (λ q u v. all_free (key_temporary c q) (key_free q u v)) (properties p) (omega arith) (omega arith)

    pub taken_more : (p : Node) → is 34 p ≡ true → occurs a (taken c p) ≤ occurs a p + times a (each id_of (key_temporaries c p))
    unfolding taken
    taken_more p e =
        by_test (has_rest_of p)
        (λ r. rw r
        (let u = items_more a (kept_key c) (λ q. each id_of (key_temporary c q)) kept_key_more 0 p in
        let g = keys_gathered p in
        let w = without_less (with_properties (kept_key c) p) (is_changed 0 (on_items (each (kept_key c))) p 34 ∙ e) in
        omega arith))
        (λ r. rw r (omega arith))

    -- ---- the value of a rest

    pub rest_split : (p : Node) → times a (rest_makes c p) ≡ times a (each id_of (key_temporaries c p)) + times a (each id_of (excluded_for c p))
    unfolding rest_makes
    rest_split p = times_append a (each id_of (key_temporaries c p)) (each id_of (excluded_for c p))

    hoisted_free : (p : Node) → is_hoisted c p ≡ true → times a (each id_of (excluded_for c p)) ≡ 0 → occurs a (excluded_of c p) ≡ 0
    unfolding excluded_for each node_at_of piece_in
    hoisted_free p e z =
        let t = only_times a (excluded_of c p) in
        let s = temporary_occurs a c.path 2 (position p) in
        let z' : times a (only (excluded_of c p)) ≡ 0 = rw e at z in
        omega arith

    keys_read_free : (p : Node) → occurs a p ≡ 0 → times a (rest_makes c p) ≡ 0 → occurs a (keys_read c p) ≡ 0
    unfolding keys_read
    keys_read_free p h z =
        let s = rest_split p in
        let k = excluded_keys_more p in
        let i = items_in_lem a 0 p in
        let r = array_occurs (excluded_keys c p) in
        let m = mapped_occurs (array (excluded_keys c p)) in
        by_test (is_hoisted c p)
        (λ e. rw e (hoisted_free p e (omega arith)))
        (λ e. rw e (by_test (all_primitive p) (λ f. rw f (omega arith)) (λ f. rw f (omega arith))))

    pub rest_free : (p s : Node) → occurs a p ≡ 0 → occurs a s ≡ 0 → times a (rest_makes c p) ≡ 0 → occurs a (rest_value c p s) ≡ 0
    unfolding rest_value
    rest_free p s h k z =
        let b = keys_read_free p h z in
        let x = X-occurs s in
        let w = W-occurs s (keys_read c p) in
        by_test (has_no_properties p) (λ e. rw e (omega arith)) (λ e. rw e (omega arith))

    excluded_for_times : (p : Node) → times a (rest_makes c p) ≡ 0 → times a (each id_of (excluded_for c p)) ≡ 0
    excluded_for_times p z = let s = rest_split p in omega arith

    pub excluded_free : (p : Node) → occurs a p ≡ 0 → times a (rest_makes c p) ≡ 0 → occurs_items a (excluded_for c p) ≡ 0
    unfolding excluded_for
    excluded_free p h z =
        let s = rest_split p in
        let k = excluded_keys_more p in
        let i = items_in_lem a 0 p in
        let r = array_occurs (excluded_keys c p) in
        by_test (is_hoisted c p)
        (λ e. rw e
        (let o = only_occurs a (declares (excluded_of c p) (array (excluded_keys c p))) in
        let d = declares_occurs (excluded_of c p) (array (excluded_keys c p)) in
        let f = hoisted_free p e (excluded_for_times p z) in
        omega arith))
        (λ e. rw e (none_occurs a))

    -- ---- declarators of one object pattern, read from s

    pub keys_before_free : (p : Node) → occurs a p ≡ 0 → times a (rest_makes c p) ≡ 0 → occurs_items a (keys_before c p) ≡ 0
    unfolding keys_before
    keys_before_free p h z =
        let s = rest_split p in
        by_test (has_rest_of p) (λ r. rw r (keys_free p h (omega arith))) (λ r. rw r (none_occurs a))

    pub pattern_free : (p s : Node) → is 34 p ≡ true → occurs a p ≡ 0 → occurs a s ≡ 0 → times a (rest_makes c p) ≡ 0 → occurs_items a (pattern_declarator c p s) ≡ 0
    unfolding pattern_declarator
    pattern_free p s e h k z =
        let r = rest_split p in
        let t = taken_more p e in
        let o = only_occurs a (declares (taken c p) s) in
        let d = declares_occurs (taken c p) s in
        by_test (has_no_properties p) (λ q. rw q (none_occurs a)) (λ q. rw q (omega arith))

    pub rest_declarator_free : (p s : Node) → occurs a p ≡ 0 → occurs a s ≡ 0 → times a (rest_makes c p) ≡ 0 → occurs_items a (rest_declarator c p s) ≡ 0
    unfolding rest_declarator
    rest_declarator_free p s h k z =
        let n = node_in a 1 p in
        let v = rest_free p s h k z in
        let o = only_occurs a (declares (rest p) (rest_value c p s)) in
        let d = declares_occurs (rest p) (rest_value c p s) in
        by_test (has_rest_of p) (λ q. rw q (omega arith)) (λ q. rw q (none_occurs a))

    own_free : (p s : Node) → is 34 p ≡ true → occurs a p ≡ 0 → occurs a s ≡ 0 → times a (rest_makes c p) ≡ 0 → occurs_items a (own c p s) ≡ 0
    unfolding own
    own_free p s e h k z =
        let u = keys_before_free p h z in
        let v = pattern_free p s e h k z in
        let w = rest_declarator_free p s h k z in
        let x = occurs_append a (keys_before c p) (pattern_declarator c p s +++ rest_declarator c p s) in
        let y = occurs_append a (pattern_declarator c p s) (rest_declarator c p s) in
        omega arith

    -- ---- what is found below

    -- nothing is made for what a function gives
    unfoldable pub Unmade : Items → Type 0
    Unmade os = (times a (refs a c os) ≡ 0) × (times a (gather (rest_makes c) os) ≡ 0)

    pub unmade_split : (os ps : Items) → Unmade (os +++ ps) → Unmade os × Unmade ps
    unfolding Unmade
    unmade_split os ps u =
        let r = u.0 in
        let g = u.1 in
        let e = ap (times a) (each_append (λ p. reference c p) os ps) in
        let t = times_append a (refs a c os) (refs a c ps) in
        let f = ap (times a) (gather_append (rest_makes c) os ps) in
        let v = times_append a (gather (rest_makes c) os) (gather (rest_makes c) ps) in
        ((omega arith, omega arith), (omega arith, omega arith))

    -- the items of a list, and what a function gives for each of them
    pub unmade_each : (h : Node → Items) (is : Items) → occurs_items a is ≡ 0 → Unmade (gather h is) → AllItems (λ q. (occurs a q ≡ 0) × Unmade (h q)) is
    unfolding gather occurs
    unmade_each h none z u = tt
    unmade_each h (hole is) z u = unmade_each h is z u
    unmade_each h (item n is) z u =
        let s = unmade_split (h n) (gather h is) u in
        ((omega arith, s.0), unmade_each h is (omega arith) s.1)

    pub one_made : (o : Node) → times a (gather (rest_makes c) (only o)) ≡ 0 → times a (rest_makes c o) ≡ 0
    unfolding gather ◌+++◌
    one_made o z = let t = times_append a (rest_makes c o) none in let n = none_times a in omega arith

    -- an object with rest, those inside it replaced
    pub shell_free : (d : ℕ) (p : Node) → occurs a p ≡ 0 → Unmade (gather (λ q. objects_with_rest c d (value q)) (properties p)) → occurs a (with_values (λ v. replaced c d v) p) ≡ 0
    unfolding Unmade
    shell_free d p h u =
        let f : Node → Node = λ v. replaced c d v in
        let m : Node → Items = λ v. refs a c (objects_with_rest c d v) in
        let w = items_more a (λ q. change_node 1 f q) (λ q. m (value q)) (λ q. node_more a f m (replaced_more a c d) 1 q) 0 p in
        let g = gathered a (λ q. reference c q) (λ q. objects_with_rest c d (value q)) (properties p) in
        let r = u.0 in
        omega arith

    own_object : (d : ℕ) (p : Node) → is 34 p ≡ true → occurs a p ≡ 0 → Unmade (gather (λ q. objects_with_rest c d (value q)) (properties p))
        → Unmade (only (with_values (λ v. replaced c d v) p)) → AllItems (Free a) (own c (with_values (λ v. replaced c d v) p) (reference c p))
    unfolding Unmade
    own_object d p e h u v =
        let o = with_values (λ v. replaced c d v) p in
        let g : Piece → Piece = on_items (each (λ q. change_node 1 (λ v. replaced c d v) q)) in
        let f = shell_free d p h u in
        let t = ref_times a c o in
        let k = ap (λ (m : ℕ). occurs a (temporary c.path 1 m)) (position_changed 0 g p) in
        let r = v.0 in
        each_item a (own c o (reference c p))
        (own_free o (reference c p) (is_changed 0 g p 34 ∙ e) f (omega arith) (one_made o v.1))

    pub nested_free : (d : ℕ) (p : Node) → occurs a p ≡ 0 → Unmade (objects_with_rest c d p) → AllItems (Free a) (nested c d p)
    unfolding nested objects_with_rest
    nested_free zero p h u = tt
    nested_free (suc d) p h u =
        let i = items_in_lem a 0 p in
        let f : Node → Node = λ v. replaced c d v in
        by_shape (shape p)
        (λ e. rw (e, nested, AllItems)
        (let u' = subst Unmade (objects_object c d p e) u in
        let s = unmade_split (gather (λ q. objects_with_rest c d (value q)) (properties p)) (cond (has_rest_of p) (only (with_values f p)) none) u' in
        all_append (Free a) (cond (has_rest_of p) (own c (with_values f p) (reference c p)) none) (gather (λ q. nested c d (value q)) (properties p))
        (by_test (has_rest_of p)
        (λ r. rw (r, AllItems)
        (let v : Unmade (only (with_values f p)) = rw r at s.1 in
        own_object d p (object_is p e) h s.0 v))
        (λ r. rw (r, AllItems) tt))
        (all_gather (λ q. (occurs a q ≡ 0) × Unmade (objects_with_rest c d (value q))) (Free a) (λ q. nested c d (value q))
        (λ q g. let n = node_in a 1 q in let z = g.0 in nested_free d (value q) (omega arith) g.1) (properties p)
        (unmade_each (λ q. objects_with_rest c d (value q)) (properties p) (omega arith) s.0))))
        (λ e. rw (e, nested, AllItems)
        (all_gather (λ q. (occurs a q ≡ 0) × Unmade (objects_with_rest c d q)) (Free a) (λ q. nested c d q)
        (λ q g. nested_free d q g.0 g.1) (items_of p)
        (unmade_each (λ q. objects_with_rest c d q) (items_of p) (omega arith) (subst Unmade (objects_array c d p e) u))))
        (λ e. rw (e, nested, AllItems)
        (let n = node_in a 0 p in nested_free d (left_of p) (omega arith) (subst Unmade (objects_default c d p e) u)))
        (λ e. rw (e, nested, AllItems) tt)
