-- Declarations and assignments put no temporary into the tree, the entries or the excluded keys but those that they make; and so no
-- rewriting does.
-- Assumes nothing.
use mathlib.Core.Path.{◌≡◌, sym, refl, ap, ◌∙◌}
use mathlib.Core.Bool.{Bool, true, false, cond}
use Prim.Native.Nat.{ℕ, zero, suc, ◌+◌, ◌≤◌}
use native.Mathlib.Omega.{arith}
use Rattle.tree.specs.Tree.{Node, Piece, Items, depth}
use Rattle.tree.specs.Tree.Node.{node}
use Rattle.tree.specs.Tree.Items.{none, hole, item}
use Rattle.lowering.specs.Parts.{position, kind, is, piece_in, node_at_of, items_at_of, on_items, change_node, only, each, gather, ◌+++◌}
use Rattle.lowering.specs.Made.{Context, reference, value_of, sequence, assign, declares, declared, id_of}
use Rattle.lowering.specs.Patterns.{shape, properties, items_of, rest, has_rest_of, left_of, value, with_values, has_object_rest, has_array_rest_over_object_rest, objects_with_rest, replaced, replaced_below, objects_below}
use Rattle.lowering.specs.Patterns.Shape.{object_pattern, array_pattern, default, leaf}
use Rattle.lowering.specs.Keys.{key_temporaries, taken}
use Rattle.lowering.specs.Rests.{has_no_properties, rest_value, excluded_for, rest_makes}
use Rattle.lowering.specs.Declarations.{is_name_of, source, source_declarator, keys_before, pattern_declarator, rest_declarator, nested_below, object_declarators, pattern_declarators, lower_declarator, inner_objects, declarator_makes, is_lowered, declarators, lowered_in, declaration, declaration_makes, declaration_excludes, declaration_refusal}
use Rattle.lowering.specs.Assignments.{is_top, target, assigned, nearest, parts_of, parts_replaced, target_left, from_reference, outermost, top_sequence, top_entry, top_excludes, top_makes, top_refusal, nested_sequence, nested_entry, nested_makes}
use Rattle.lowering.specs.Heads.{function, function_makes, arrow, arrow_makes, catch, catch_makes, declaring_head, declaring_makes, assigning_head, assigning_makes}
use Rattle.lowering.specs.Walk.{Step, rewritten, rule_of, rewrite, step_declaration, step_top, step_assignment, step_for}
use Rattle.lowering.specs.Collect.{Name}
use Rattle.lowering.proofs.All.{AllItems, all_gather}
use Rattle.lowering.proofs.Cases.{by_number, by_test, by_shape, by_rule_lem, object_is, is_changed}
use Rattle.lowering.proofs.WeightKeys.{rest_changed}
use Rattle.lowering.proofs.Levels.{below_object}
use Rattle.lowering.proofs.Clauses.{parts_object, parts_array, parts_default, parts_leaf, nearest_object, nearest_array, nearest_default, replaced_object, replaced_array, replaced_default, replaced_leaf, inner_object, inner_array, top_34}
use Rattle.lowering.proofs.MadeAtSites.{times, times_append, only_times, entry_refs, entry_times}
use Rattle.lowering.proofs.Occurs.{occurs, occurs_items, node_in, items_in_lem, Free, each_item, occurs_append, only_occurs, none_occurs, nothing_occurs, temporary_occurs, items_more, node_more, gathered, refs, ref_times, objects_sum, replaced_more}
use Rattle.lowering.proofs.SoundKeys.{assign_occurs, declares_occurs, declared_occurs, all_free, gather_zero, keys_free, taken_more, rest_split, rest_free, excluded_free, keys_before_free, pattern_free, rest_declarator_free, Unmade, unmade_each, one_made, nested_free}
use Rattle.lowering.proofs.SoundRules.{keys_value, items_free_at, node_free_at, literal_free, function_free, arrow_free, catch_free, declaring_free, assigning_free}
use Rattle.lowering.proofs.ItemLaws.{gather_append}

module _ (a : Name) where
  sequence_occurs : (xs : Items) → occurs a (sequence xs) ≡ occurs_items a xs
  unfolding occurs
  sequence_occurs xs = omega arith

  item_occurs : (n : Node) (is : Items) → occurs_items a (item n is) ≡ occurs a n + occurs_items a is
  unfolding occurs
  item_occurs n is = omega arith

  last_free : (t : Node) (b : Bool) → Free a t → occurs_items a (cond b none (only t)) ≡ 0
  last_free t true f = none_occurs a
  last_free t false f = let o = only_occurs a t in omega arith

  module _ (c : Context) where
    -- ---- one declarator

    source_free : (p init : Node) → Free a init → times a (each id_of (source_declarator c p init)) ≡ 0 → Free a (source c p init)
    unfolding source source_declarator each node_at_of piece_in
    source_free p init f z =
        let t = only_times a (value_of c p) in
        let s = temporary_occurs a c.path 3 (position p) in
        by_test (is_name_of init)
        (λ e. rw e f)
        (λ e. let z' : times a (only (value_of c p)) ≡ 0 = rw e at z in rw e (omega arith))

    source_declarator_free : (p init : Node) → Free a init → times a (each id_of (source_declarator c p init)) ≡ 0 → occurs_items a (source_declarator c p init) ≡ 0
    unfolding source_declarator each node_at_of piece_in
    source_declarator_free p init f z =
        let t = only_times a (value_of c p) in
        let s = temporary_occurs a c.path 3 (position p) in
        let d = declares_occurs a (value_of c p) init in
        let o = only_occurs a (declares (value_of c p) init) in
        by_test (is_name_of init)
        (λ e. rw e (none_occurs a))
        (λ e. let z' : times a (only (value_of c p)) ≡ 0 = rw e at z in rw e (omega arith))

    -- an object pattern without rest, read from s
    kept_pattern : (p s : Node) → has_rest_of p ≡ false → Free a p → Free a s → occurs_items a (pattern_declarator c p s) ≡ 0
    unfolding pattern_declarator taken
    kept_pattern p s r f g =
        let o = only_occurs a (declares p s) in
        let d = declares_occurs a p s in
        by_test (has_no_properties p) (λ e. rw e (none_occurs a)) (λ e. rw (e, r) (omega arith))

    no_keys : (p : Node) → has_rest_of p ≡ false → occurs_items a (keys_before c p) ≡ 0
    unfolding keys_before
    no_keys p r = rw r (none_occurs a)

    no_rest : (p s : Node) → has_rest_of p ≡ false → occurs_items a (rest_declarator c p s) ≡ 0
    unfolding rest_declarator
    no_rest p s r = rw r (none_occurs a)

    -- what is found below the values of p
    found_free : (p : Node) → Free a p → Unmade a c (gather (λ q. objects_below c (value q)) (properties p)) → occurs_items a (gather (λ q. nested_below c (value q)) (properties p)) ≡ 0
    found_free p f u =
        let i = items_in_lem a 0 p in
        all_free a (gather (λ q. nested_below c (value q)) (properties p))
        (all_gather (λ q. (occurs a q ≡ 0) × Unmade a c (objects_below c (value q))) (Free a) (λ q. nested_below c (value q))
        (λ q g. let n = node_in a 1 q in let z = g.0 in nested_free a c (depth (value q)) (value q) (omega arith) g.1) (properties p)
        (unmade_each a c (λ q. objects_below c (value q)) (properties p) (omega arith) u))

    -- p with the objects below its values replaced
    values_free : (p : Node) → Free a p → Unmade a c (gather (λ q. objects_below c (value q)) (properties p)) → Free a (with_values (λ v. replaced_below c v) p)
    unfolding Unmade
    values_free p f u =
        let m : Node → Items = λ v. refs a c (objects_below c v) in
        let w = items_more a (λ q. change_node 1 (λ v. replaced_below c v) q) (λ q. m (value q))
        (λ q. node_more a (λ v. replaced_below c v) m (λ v. replaced_more a c (depth v) v) 1 q) 0 p in
        let g = gathered a (λ q. reference c q) (λ q. objects_below c (value q)) (properties p) in
        let r = u.0 in
        omega arith

    object_free : (p s : Node) → shape p ≡ object_pattern → Free a p → Free a s → Unmade a c (gather (λ q. objects_below c (value q)) (properties p))
        → (has_rest_of p ≡ true → times a (rest_makes c (with_values (λ v. replaced_below c v) p)) ≡ 0) → occurs_items a (object_declarators c p s) ≡ 0
    unfolding object_declarators
    object_free p s e f g u made =
        let q = with_values (λ v. replaced_below c v) p in
        let h : Piece → Piece = on_items (each (λ y. change_node 1 (λ v. replaced_below c v) y)) in
        let o : is 34 q ≡ true = is_changed 0 h p 34 ∙ object_is p e in
        let k : has_rest_of q ≡ has_rest_of p = rest_changed 0 h p in
        let w = values_free p f u in
        let ns = gather (λ r. nested_below c (value r)) (properties p) in
        let v = found_free p f u in
        let x = occurs_append a (keys_before c q) (pattern_declarator c q s +++ ns +++ rest_declarator c q s) in
        let y = occurs_append a (pattern_declarator c q s) (ns +++ rest_declarator c q s) in
        let z = occurs_append a ns (rest_declarator c q s) in
        by_test (has_rest_of p)
        (λ r.
        let m = made r in
        let i = keys_before_free a c q w m in
        let j = pattern_free a c q s o w g m in
        let l = rest_declarator_free a c q s w g m in
        omega arith)
        (λ r.
        let i = no_keys q (k ∙ r) in
        let j = kept_pattern q s (k ∙ r) w g in
        let l = no_rest q s (k ∙ r) in
        omega arith)

    -- what a declarator makes, in three parts
    makes_split : (p init : Node) → times a (declarator_makes c p init)
        ≡ times a (each id_of (source_declarator c p init)) + (times a (refs a c (inner_objects c p)) + times a (gather (rest_makes c) (objects_below c p)))
    unfolding declarator_makes
    makes_split p init =
        let v = each id_of (source_declarator c p init) in
        let i = each (λ o. reference c o) (inner_objects c p) in
        let g = gather (rest_makes c) (objects_below c p) in
        times_append a v (i +++ g) ∙ ap (λ (m : ℕ). times a v + m) (times_append a i g)

    -- for the objects below the values of an object pattern nothing is made, and nothing for itself
    object_unmade : (p init : Node) → shape p ≡ object_pattern → times a (declarator_makes c p init) ≡ 0
        → Unmade a c (gather (λ q. objects_below c (value q)) (properties p)) × (has_rest_of p ≡ true → times a (rest_makes c (with_values (λ v. replaced_below c v) p)) ≡ 0)
    unfolding Unmade
    object_unmade p init e z =
        let inner = gather (λ q. objects_below c (value q)) (properties p) in
        let own = with_values (λ v. replaced_below c v) p in
        let s = makes_split p init in
        let i = ap (λ (is : Items). times a (refs a c is)) (inner_object c p e) in
        let b = ap (λ (is : Items). times a (gather (rest_makes c) is)) (below_object c p e) in
        let g = ap (times a) (gather_append (rest_makes c) inner (cond (has_rest_of p) (only own) none)) in
        let t = times_append a (gather (rest_makes c) inner) (gather (rest_makes c) (cond (has_rest_of p) (only own) none)) in (
          (omega arith, omega arith),
          λ r. let y : times a (gather (rest_makes c) (cond (has_rest_of p) (only own) none)) ≡ 0 = omega arith in
              let y' : times a (gather (rest_makes c) (only own)) ≡ 0 = rw r at y in
              one_made a c own y',
        )

    array_free : (p init s : Node) → shape p ≡ array_pattern → Free a p → Free a s → times a (declarator_makes c p init) ≡ 0
        → occurs_items a (only (declares (replaced_below c p) s) +++ nested_below c p) ≡ 0
    unfolding Unmade
    array_free p init s e f g z =
        let m = makes_split p init in
        let i = ap (λ (is : Items). times a (refs a c is)) (inner_array c p e) in
        let r = replaced_more a c (depth p) p in
        let d = declares_occurs a (replaced_below c p) s in
        let o = only_occurs a (declares (replaced_below c p) s) in
        let v = all_free a (nested_below c p) (nested_free a c (depth p) p f (omega arith, omega arith)) in
        let w = occurs_append a (only (declares (replaced_below c p) s)) (nested_below c p) in
        omega arith

    patterns_free : (p init s : Node) → Free a p → Free a s → times a (declarator_makes c p init) ≡ 0 → occurs_items a (pattern_declarators c p s) ≡ 0
    unfolding pattern_declarators
    patterns_free p init s f g z =
        by_shape (shape p)
        (λ e. rw (e, pattern_declarators) (let u = object_unmade p init e z in object_free p s e f g u.0 u.1))
        (λ e. rw (e, pattern_declarators) (array_free p init s e f g z))
        (λ e. rw (e, pattern_declarators) (none_occurs a))
        (λ e. rw (e, pattern_declarators) (none_occurs a))

    lowered_free : (p init : Node) → Free a p → Free a init → times a (declarator_makes c p init) ≡ 0 → occurs_items a (lower_declarator c p init) ≡ 0
    unfolding lower_declarator
    lowered_free p init f g z =
        let s = makes_split p init in
        let u = source_declarator_free p init g (omega arith) in
        let v = patterns_free p init (source c p init) f (source_free p init g (omega arith)) z in
        let w = occurs_append a (source_declarator c p init) (pattern_declarators c p (source c p init)) in
        omega arith

    -- ---- the objects whose rest is taken

    below_free : (v : Node) → Free a v → Unmade a c (objects_below c v) → AllItems (Free a) (objects_below c v)
    unfolding Unmade
    below_free v f u = let s = objects_sum a c (depth v) v in let r = u.0 in each_item a (objects_below c v) (omega arith)

    -- those below the values
    inner_free : (p : Node) → Free a p → Unmade a c (gather (λ q. objects_below c (value q)) (properties p)) → occurs_items a (gather (λ q. objects_below c (value q)) (properties p)) ≡ 0
    inner_free p f u =
        let i = items_in_lem a 0 p in
        all_free a (gather (λ q. objects_below c (value q)) (properties p))
        (all_gather (λ q. (occurs a q ≡ 0) × Unmade a c (objects_below c (value q))) (Free a) (λ q. objects_below c (value q))
        (λ q g. let n = node_in a 1 q in let z = g.0 in below_free (value q) (omega arith) g.1) (properties p)
        (unmade_each a c (λ q. objects_below c (value q)) (properties p) (omega arith) u))

    objects_leaf : (p : Node) → shape p ≡ leaf → occurs_items a (objects_below c p) ≡ 0
    unfolding depth objects_with_rest
    objects_leaf (node at k fs) e = rw (e, objects_with_rest) (none_occurs a)

    inner_default : (p : Node) → shape p ≡ default → inner_objects c p ≡ objects_below c p
    unfolding inner_objects
    inner_default p e = rw (e, inner_objects)

    objects_free : (p init : Node) → Free a p → times a (declarator_makes c p init) ≡ 0 → occurs_items a (objects_below c p) ≡ 0
    objects_free p init f z =
        let s = makes_split p init in
        let o = objects_sum a c (depth p) p in
        by_shape (shape p)
        (λ e.
        let u = object_unmade p init e z in
        let inner = gather (λ q. objects_below c (value q)) (properties p) in
        let own = with_values (λ v. replaced_below c v) p in
        let w = values_free p f u.0 in
        let i = inner_free p f u.0 in
        let b = ap (occurs_items a) (below_object c p e) in
        let y = only_occurs a own in
        let n = none_occurs a in
        by_test (has_rest_of p)
        (λ r.
        let b' : occurs_items a (objects_below c p) ≡ occurs_items a (inner +++ only own) = rw r at b in
        let x = occurs_append a inner (only own) in
        omega arith)
        (λ r.
        let b' : occurs_items a (objects_below c p) ≡ occurs_items a (inner +++ none) = rw r at b in
        let x = occurs_append a inner none in
        omega arith))
        (λ e. let i = ap (λ (is : Items). times a (refs a c is)) (inner_array c p e) in omega arith)
        (λ e. let i = ap (λ (is : Items). times a (refs a c is)) (inner_default p e) in omega arith)
        (λ e. objects_leaf p e)

    -- ---- declarations

    excluded_all : (os : Items) → occurs_items a os ≡ 0 → times a (gather (rest_makes c) os) ≡ 0 → occurs_items a (gather (excluded_for c) os) ≡ 0
    excluded_all os y z = gather_zero a (excluded_for c) (rest_makes c) (λ o u v. excluded_free a c o u v) os y z

    abbrev makes_of : Node → Items
    makes_of d = cond (is_lowered d) (declarator_makes c (node_at_of 0 d) (node_at_of 1 d)) none

    declarators_free : (d : Node) → Free a d → times a (makes_of d) ≡ 0 → occurs_items a (declarators c d) ≡ 0
    unfolding declarators
    declarators_free d f z =
        let n = node_in a 0 d in
        let m = node_in a 1 d in
        by_test (is_lowered d)
        (λ e. let z' : times a (declarator_makes c (node_at_of 0 d) (node_at_of 1 d)) ≡ 0 = rw e at z in
        rw e (lowered_free (node_at_of 0 d) (node_at_of 1 d) (omega arith) (omega arith) z'))
        (λ e. rw e (let o = only_occurs a d in omega arith))

    excludes_free : (d : Node) → Free a d → times a (makes_of d) ≡ 0 → occurs_items a (gather (excluded_for c) (lowered_in c d)) ≡ 0
    unfolding lowered_in gather
    excludes_free d f z =
        let n = node_in a 0 d in
        by_test (is_lowered d)
        (λ e.
        let z' : times a (declarator_makes c (node_at_of 0 d) (node_at_of 1 d)) ≡ 0 = rw e at z in
        let s = makes_split (node_at_of 0 d) (node_at_of 1 d) in
        rw e (excluded_all (objects_below c (node_at_of 0 d)) (objects_free (node_at_of 0 d) (node_at_of 1 d) (omega arith) z') (omega arith)))
        (λ e. rw e (none_occurs a))

    declaration_free : (n : Node) → Free a n → times a (declaration_makes c n) ≡ 0 → Free a (declaration c n)
    unfolding declaration declaration_makes
    declaration_free n f z =
        let i = items_in_lem a 2 n in
        items_free_at a 2 (gather (declarators c)) n f (gather_zero a (declarators c) makes_of declarators_free (items_at_of 2 n) (omega arith) z)

    declaration_excludes_free : (n : Node) → Free a n → times a (declaration_makes c n) ≡ 0 → occurs_items a (declaration_excludes c n) ≡ 0
    unfolding declaration_excludes declaration_makes
    declaration_excludes_free n f z =
        let i = items_in_lem a 2 n in
        gather_zero a (λ d. gather (excluded_for c) (lowered_in c d)) makes_of excludes_free (items_at_of 2 n) (omega arith) z

    -- ---- assignments to an object with rest

    gather_free : (h : Node → Items) → ((n : Node) → Free a n → occurs_items a (h n) ≡ 0) → (is : Items) → occurs_items a is ≡ 0 → occurs_items a (gather h is) ≡ 0
    unfolding gather occurs
    gather_free h free none z = refl
    gather_free h free (hole is) z = gather_free h free is z
    gather_free h free (item n is) z =
        let u = gather_free h free is (omega arith) in
        let v = free n (omega arith) in
        let w = occurs_append a (h n) (gather h is) in
        omega arith

    cond_free : (b : Bool) (is js : Items) → occurs_items a is ≡ 0 → occurs_items a js ≡ 0 → occurs_items a (cond b is js) ≡ 0
    cond_free true is js u v = u
    cond_free false is js u v = v

    nearest_free : (arrays : Bool) (d : ℕ) (p : Node) → Free a p → occurs_items a (nearest arrays d p) ≡ 0
    unfolding nearest
    nearest_free arrays zero p f = none_occurs a
    nearest_free arrays (suc d) p f =
        let i = items_in_lem a 0 p in
        let o = only_occurs a p in
        let n = none_occurs a in
        by_shape (shape p)
        (λ e. rw (e, nearest)
        (let u = gather_free (λ q. nearest arrays d (value q)) (λ q g. let v = node_in a 1 q in nearest_free arrays d (value q) (omega arith)) (properties p) (omega arith) in
        by_test (has_rest_of p) (λ r. rw r (omega arith)) (λ r. rw r u)))
        (λ e. rw (e, nearest)
        (cond_free arrays (gather (λ m. nearest arrays d m) (items_of p)) none
        (gather_free (λ m. nearest arrays d m) (λ m g. nearest_free arrays d m g) (items_of p) (omega arith)) n))
        (λ e. rw (e, nearest) (let v = node_in a 0 p in nearest_free arrays d (left_of p) (omega arith)))
        (λ e. rw (e, nearest) n)

    parts_free : (p : Node) → Free a p → occurs_items a (parts_of p) ≡ 0
    parts_free p f =
        let i = items_in_lem a 0 p in
        gather_free (λ q. nearest false (depth p) (value q)) (λ q g. let v = node_in a 1 q in nearest_free false (depth p) (value q) (omega arith)) (properties p) (omega arith)

    -- ---- a pattern with objects replaced has more of a only if their temporaries are a

    abbrev nearest_refs : Bool → ℕ → Node → Items
    nearest_refs arrays d v = refs a c (nearest arrays d v)

    values_refs : (arrays : Bool) (d : ℕ) (p : Node) → times a (refs a c (gather (λ q. nearest arrays d (value q)) (properties p))) ≡ times a (gather (λ q. nearest_refs arrays d (value q)) (properties p))
    values_refs arrays d p = sym (gathered a (λ q. reference c q) (λ q. nearest arrays d (value q)) (properties p))

    parts_none : (p : Node) → occurs a (parts_replaced c 0 p) ≤ occurs a p
    unfolding parts_replaced
    parts_none p = omega arith

    parts_more : (d : ℕ) (p : Node) → occurs a (parts_replaced c d p) ≤ occurs a p + times a (nearest_refs false d p)
    parts_more zero p = let h = parts_none p in omega arith
    parts_more (suc d) p =
        let f : Node → Node = λ v. parts_replaced c d v in
        by_shape (shape p)
        (λ e.
        let o = ap (occurs a) (parts_object c d p e) in
        let m = ap (λ (is : Items). times a (refs a c is)) (nearest_object false d p e) in
        by_test (has_rest_of p)
        (λ r.
        let o' : occurs a (parts_replaced c (suc d) p) ≡ occurs a (reference c p) = rw r at o in
        let m' : times a (nearest_refs false (suc d) p) ≡ times a (refs a c (only p)) = rw r at m in
        let t = ref_times a c p in
        omega arith)
        (λ r.
        let o' : occurs a (parts_replaced c (suc d) p) ≡ occurs a (with_values f p) = rw r at o in
        let m' : times a (nearest_refs false (suc d) p) ≡ times a (refs a c (gather (λ q. nearest false d (value q)) (properties p))) = rw r at m in
        let g = values_refs false d p in
        let u = items_more a (λ q. change_node 1 f q) (λ q. nearest_refs false d (value q)) (λ q. node_more a f (λ v. nearest_refs false d v) (parts_more d) 1 q) 0 p in
        omega arith))
        (λ e. let o = ap (occurs a) (parts_array c d p e) in omega arith)
        (λ e.
        let o = ap (occurs a) (parts_default c d p e) in
        let m = ap (λ (is : Items). times a (refs a c is)) (nearest_default false d p e) in
        let u = node_more a f (λ v. nearest_refs false d v) (parts_more d) 0 p in
        omega arith)
        (λ e. let o = ap (occurs a) (parts_leaf c d p e) in omega arith)

    nearest_none : (p : Node) → occurs a (replaced c 0 p) ≤ occurs a p
    unfolding replaced
    nearest_none p = omega arith

    nearest_more : (d : ℕ) (p : Node) → occurs a (replaced c d p) ≤ occurs a p + times a (nearest_refs true d p)
    nearest_more zero p = let h = nearest_none p in omega arith
    nearest_more (suc d) p =
        let f : Node → Node = λ v. replaced c d v in
        by_shape (shape p)
        (λ e.
        let o = ap (occurs a) (replaced_object c d p e) in
        let m = ap (λ (is : Items). times a (refs a c is)) (nearest_object true d p e) in
        by_test (has_rest_of p)
        (λ r.
        let o' : occurs a (replaced c (suc d) p) ≡ occurs a (reference c p) = rw r at o in
        let m' : times a (nearest_refs true (suc d) p) ≡ times a (refs a c (only p)) = rw r at m in
        let t = ref_times a c p in
        omega arith)
        (λ r.
        let o' : occurs a (replaced c (suc d) p) ≡ occurs a (with_values f p) = rw r at o in
        let m' : times a (nearest_refs true (suc d) p) ≡ times a (refs a c (gather (λ q. nearest true d (value q)) (properties p))) = rw r at m in
        let g = values_refs true d p in
        let u = items_more a (λ q. change_node 1 f q) (λ q. nearest_refs true d (value q)) (λ q. node_more a f (λ v. nearest_refs true d v) (nearest_more d) 1 q) 0 p in
        omega arith))
        (λ e.
        let o = ap (occurs a) (replaced_array c d p e) in
        let m = ap (λ (is : Items). times a (refs a c is)) (nearest_array true d p e) in
        let g = gathered a (λ q. reference c q) (λ q. nearest true d q) (items_of p) in
        let u = items_more a f (λ q. nearest_refs true d q) (nearest_more d) 0 p in
        omega arith)
        (λ e.
        let o = ap (occurs a) (replaced_default c d p e) in
        let m = ap (λ (is : Items). times a (refs a c is)) (nearest_default true d p e) in
        let u = node_more a f (λ v. nearest_refs true d v) (nearest_more d) 0 p in
        omega arith)
        (λ e. let o = ap (occurs a) (replaced_leaf c d p e) in omega arith)

    -- ---- assignments from temporaries, and their declarators

    refs_assigned : (ps : Items) → occurs_items a ps ≡ 0 → times a (refs a c ps) ≡ 0 → occurs_items a (each (from_reference c) ps) ≡ 0
    unfolding each occurs times
    refs_assigned none y z = refl
    refs_assigned (hole ps) y z = refs_assigned ps y z
    refs_assigned (item p ps) y z =
        let u = refs_assigned ps (omega arith) (omega arith) in
        let t = temporary_occurs a c.path 1 (position p) in
        let w = assign_occurs a p (reference c p) in
        omega arith

    refs_declared : (ps : Items) → times a (refs a c ps) ≡ 0 → occurs_items a (each (λ p. declared (reference c p)) ps) ≡ 0
    unfolding each occurs times
    refs_declared none z = refl
    refs_declared (hole ps) z = refs_declared ps z
    refs_declared (item p ps) z =
        let u = refs_declared ps (omega arith) in
        let t = temporary_occurs a c.path 1 (position p) in
        let w = declared_occurs a (reference c p) in
        omega arith

    -- ---- an assignment to an object with rest

    top_split : (n : Node) → times a (top_makes c n)
        ≡ occurs a (value_of c (target n)) + (times a (refs a c (parts_of (target n))) + times a (rest_makes c (target n)))
    unfolding top_makes top_excludes
    top_split n =
        let p = target n in
        let s = times_append a (each id_of (top_entry c n)) (each id_of (excluded_for c p)) in
        let t = entry_times a c n in
        let r = rest_split a c p in
        let u = temporary_occurs a c.path 3 (position p) in
        omega arith

    -- what is left of the target
    left_more : (n : Node) → is 34 (target n) ≡ true
        → occurs a (target_left c n) ≤ occurs a (target n) + (times a (refs a c (parts_of (target n))) + times a (each id_of (key_temporaries c (target n))))
    left_more n e =
        let p = target n in
        let f : Node → Node = λ v. parts_replaced c (depth p) v in
        let h : Piece → Piece = on_items (each (λ y. change_node 1 f y)) in
        let u = items_more a (λ q. change_node 1 f q) (λ q. nearest_refs false (depth p) (value q)) (λ q. node_more a f (λ v. nearest_refs false (depth p) v) (parts_more (depth p)) 1 q) 0 p in
        let g = values_refs false (depth p) p in
        let k = ap (λ (is : Items). times a (each id_of is)) (keys_value c f p) in
        let t = taken_more a c (with_values f p) (is_changed 0 h p 34 ∙ e) in
        omega arith

    top_free : (n : Node) → is_top (target n) ≡ true → Free a n → times a (top_makes c n) ≡ 0 → Free a (top_sequence c n)
    unfolding top_sequence
    top_free n top f z =
        let p = target n in
        let t = value_of c p in
        let s = top_split n in
        let r = rest_split a c p in
        let i = node_in a 1 n in
        let j = node_in a 2 n in
        let w = left_more n (top_34 p top) in
        let y = parts_free p (omega arith) in
        let v = refs_assigned (parts_of p) y (omega arith) in
        let x = rest_free a c p t (omega arith) (omega arith) (omega arith) in
        let b = node_in a 1 p in
        let g = assign_occurs a (rest p) (rest_value c p t) in
        let d = assign_occurs a t (assigned n) in
        let e = assign_occurs a (target_left c n) t in
        let rs = each (from_reference c) (parts_of p) in
        let end = cond c.statement none (only t) in
        let last = item (assign (rest p) (rest_value c p t)) end in
        let k = occurs_append a rs last in
        let l = last_free t c.statement (omega arith) in
        let m = sequence_occurs (item (assign t (assigned n)) (item (assign (target_left c n) t) (rs +++ last))) in
        let o = item_occurs (assign t (assigned n)) (item (assign (target_left c n) t) (rs +++ last)) in
        let q = item_occurs (assign (target_left c n) t) (rs +++ last) in
        let h = item_occurs (assign (rest p) (rest_value c p t)) end in
        omega arith

    top_entry_free : (n : Node) → Free a n → times a (top_makes c n) ≡ 0 → occurs_items a (top_entry c n) ≡ 0
    unfolding top_entry
    top_entry_free n f z =
        let p = target n in
        let s = top_split n in
        let r = rest_split a c p in
        let i = node_in a 1 n in
        let ds = each (λ q. declared (reference c q)) (parts_of p) in
        let u = refs_declared (parts_of p) (omega arith) in
        let k = keys_free a c p (omega arith) (omega arith) in
        let d = declared_occurs a (value_of c p) in
        let w = occurs_append a ds (key_temporaries c p) in
        let o = item_occurs (declared (value_of c p)) (ds +++ key_temporaries c p) in
        omega arith

    top_excludes_free : (n : Node) → Free a n → times a (top_makes c n) ≡ 0 → occurs_items a (top_excludes c n) ≡ 0
    unfolding top_excludes
    top_excludes_free n f z =
        let s = top_split n in
        let i = node_in a 1 n in
        excluded_free a c (target n) (omega arith) (omega arith)

    -- ---- other assignments

    nested_times : (n : Node) → times a (nested_makes c n) ≡ times a (refs a c (outermost (target n)))
    unfolding nested_makes nested_entry
    nested_times n = ap (times a) (entry_refs a c (outermost (target n)))

    nested_sequence_free : (n : Node) → Free a n → times a (nested_makes c n) ≡ 0 → Free a (nested_sequence c n)
    unfolding nested_sequence
    nested_sequence_free n f z =
        let p = target n in
        let t = nested_times n in
        let i = node_in a 1 n in
        let s = nearest_more (depth p) p in
        let y = nearest_free true (depth p) p (omega arith) in
        let u = node_free_at a 1 (λ q. replaced_below c q) n f (omega arith) in
        let os = each (from_reference c) (outermost p) in
        let v = refs_assigned (outermost p) y (omega arith) in
        let m = sequence_occurs (item (change_node 1 (λ q. replaced_below c q) n) os) in
        let o = item_occurs (change_node 1 (λ q. replaced_below c q) n) os in
        omega arith

    nested_entry_free : (n : Node) → times a (nested_makes c n) ≡ 0 → occurs_items a (nested_entry c n) ≡ 0
    unfolding nested_entry
    nested_entry_free n z = let t = nested_times n in refs_declared (outermost (target n)) (omega arith)

    -- ---- one rewriting

    abbrev pub Sound : Step → Type 0
    Sound s = (Free a s.result) × (occurs_items a s.note.entry ≡ 0) × (occurs_items a s.note.excluded ≡ 0)

    abbrev IfUnmade : Step → Type 0
    IfUnmade s = times a s.note.made ≡ 0 → Sound s

    quiet : (made : Items) (r : Node) → (times a made ≡ 0 → Free a r) → IfUnmade (rewritten made r)
    quiet made r h z = (h z, none_occurs a, none_occurs a)

    declarations_sound : (n : Node) → Free a n → IfUnmade (step_declaration c n)
    unfolding step_declaration
    declarations_sound n f =
        by_number (declaration_refusal c n)
        (λ r e. rw (e, step_declaration) (λ z. (nothing_occurs a, none_occurs a, none_occurs a)))
        (λ e. rw (e, step_declaration) (λ z. (declaration_free n f z, none_occurs a, declaration_excludes_free n f z)))

    tops_sound : (n : Node) → is_top (target n) ≡ true → Free a n → IfUnmade (step_top c n)
    unfolding step_top
    tops_sound n top f =
        by_number (top_refusal n)
        (λ r e. rw (e, step_top) (λ z. (nothing_occurs a, none_occurs a, none_occurs a)))
        (λ e. rw (e, step_top) (λ z. (top_free n top f z, top_entry_free n f z, top_excludes_free n f z)))

    assignments_sound : (n : Node) → Free a n → IfUnmade (step_assignment c n)
    unfolding step_assignment
    assignments_sound n f =
        by_test (has_array_rest_over_object_rest (target n))
        (λ e. rw (e, step_assignment) (λ z. (nothing_occurs a, none_occurs a, none_occurs a)))
        (λ e. rw (e, step_assignment)
        (by_test (is_top (target n))
        (λ t. rw t (tops_sound n t f))
        (λ t. rw t
        (by_test (has_object_rest (target n))
        (λ r. rw r (λ z. (nested_sequence_free n f z, nested_entry_free n z, none_occurs a)))
        (λ r. rw r (λ z. (f, none_occurs a, none_occurs a)))))))

    fors_sound : (n : Node) → Free a n → IfUnmade (step_for c n)
    unfolding step_for
    fors_sound n f =
        by_test (is 4 (node_at_of 1 n))
        (λ d. rw (d, step_for) (quiet (declaring_makes c n) (declaring_head c n) (declaring_free a c n f)))
        (λ d. rw (d, step_for)
        (by_test (has_array_rest_over_object_rest (node_at_of 1 n))
        (λ e. rw e (λ z. (nothing_occurs a, none_occurs a, none_occurs a)))
        (λ e. rw e (quiet (assigning_makes c n) (assigning_head c n) (assigning_free a c n f)))))

    pub rewrite_sound : (n : Node) → Free a n → IfUnmade (rewrite c n)
    unfolding rewrite
    rewrite_sound n f =
        by_rule_lem (rule_of (kind n))
        (λ e. rw (e, rewrite) (λ z. (literal_free a n f, none_occurs a, none_occurs a)))
        (λ e. rw (e, rewrite) (declarations_sound n f))
        (λ e. rw (e, rewrite) (assignments_sound n f))
        (λ e. rw (e, rewrite) (quiet (function_makes c n) (function c n) (function_free a c n f)))
        (λ e. rw (e, rewrite) (quiet (arrow_makes c n) (arrow c n) (arrow_free a c n f)))
        (λ e. rw (e, rewrite) (quiet (catch_makes c n) (catch c n) (catch_free a c n f)))
        (λ e. rw (e, rewrite) (fors_sound n f))
        (λ e. rw (e, rewrite) (λ z. (f, none_occurs a, none_occurs a)))
