-- What one rewriting makes: no name comes more often than its position is a site of the node.
-- Assumes nothing.
use mathlib.Core.Path.{◌≡◌, refl, ap, ◌∙◌}
use mathlib.Core.Bool.{Bool, true, false, cond, ◌&&◌}
use mathlib.Core.List.{List}
use Prim.Native.Nat.{ℕ, ◌+◌, ◌≤◌}
use native.Mathlib.Omega.{arith}
use lib.Dec.{eqb}
use borrow.Author.Tests.{eqb-true}
use Rattle.tree.specs.Tree.{Node, Items, depth}
use Rattle.tree.specs.Tree.Items.{none, hole, item}
use Rattle.lowering.specs.Parts.{same_numbers, position, kind, is, node_at_of, items_at_of, stands, text_at_of, number_at, piece_in, only, each, gather, ◌+++◌}
use Rattle.lowering.specs.Made.{Context, temporary, reference, value_of, key_of, excluded_of, declared, id_of}
use Rattle.lowering.specs.Patterns.{shape, properties, key, value, has_object_rest, has_array_rest_over_object_rest, objects_below}
use Rattle.lowering.specs.Keys.{key_sort, key_temporary, key_temporaries}
use Rattle.lowering.specs.Rests.{is_hoisted, excluded_for, rest_makes}
use Rattle.lowering.specs.Declarations.{is_name_of, source_declarator, inner_objects, declarator_makes, is_lowered, declaration_makes, declaration_refusal}
use Rattle.lowering.specs.Assignments.{is_top, target, nearest, parts_of, top_refusal, top_entry, top_excludes, top_makes, outermost, nested_entry, nested_makes}
use Rattle.lowering.specs.Heads.{is_moved, moved_from, references, function_makes, arrow_makes, catch_makes, declaring_makes, assigning_makes}
use Rattle.lowering.specs.Walk.{rule_of, rewrite, step_declaration, step_top, step_assignment, step_for}
use Rattle.lowering.specs.Collect.{Name, name_of, same}
use Rattle.lowering.proofs.Cases.{by_number, by_test, by_shape, by_key, by_rule_lem}
use Rattle.lowering.proofs.Sites.{here, here_items, sites, sites_items, node_in, items_in_lem, shell, shells, gather_here, shells_in, here_in, object_whole}
use Rattle.lowering.proofs.SiteViews.{object_here, rest_here, moved_here, nearest_sites, nearest_are, objects_sum, objects_are}
use Rattle.lowering.proofs.ItemLaws.{each_append}
use Rattle.lowering.proofs.Clauses.{lowered_rest, top_34}

-- how often a is the name of one of them
unfoldable pub times : Name → Items → ℕ
times a none = 0
times a (hole is) = times a is
times a (item t is) = cond (same a (name_of t)) 1 0 + times a is

pub times_append : (a : Name) (is js : Items) → times a (is +++ js) ≡ times a is + times a js
unfolding times ◌+++◌
times_append a none js = omega arith
times_append a (hole is) js = times_append a is js
times_append a (item n is) js = let h = times_append a is js in omega arith

-- ---- a temporary by its name

module _ (a : Name) where
  abbrev once : Bool → ℕ
  once b = cond b 1 0

  pub name_of_lem : (path : List ℕ) (stem at : ℕ) → same a (name_of (temporary path stem at)) ≡ eqb a.place at && (eqb a.stem stem && same_numbers a.path path)
  unfolding same name_of text_at_of number_at piece_in
  name_of_lem path stem at = refl

  -- it counts at most where its position is the name's
  one_here : (path : List ℕ) (stem at : ℕ) → once (same a (name_of (temporary path stem at))) ≤ here a.place at
  unfolding here
  one_here path stem at = rw (name_of_lem path stem at) (go (eqb a.place at) (eqb a.stem stem && same_numbers a.path path))
    where
      go : (b d : Bool) → cond (b && d) 1 0 ≤ cond b 1 0
      go true true = omega arith
      go true false = omega arith
      go false d = omega arith

  -- with another stem it does not count
  other_stem : (path : List ℕ) (stem at : ℕ) → eqb a.stem stem ≡ false → once (same a (name_of (temporary path stem at))) ≡ 0
  other_stem path stem at e = rw (name_of_lem path stem at, e) (go (eqb a.place at))
    where
      go : (b : Bool) → once (b && false) ≡ 0
      go true = refl
      go false = refl

  pub only_times : (t : Node) → times a (only t) ≡ once (same a (name_of t))
  unfolding times
  only_times t = omega arith

  pub none_times : times a none ≡ 0
  unfolding times
  none_times = refl

  pub no_ids : times a (each id_of none) ≡ 0
  unfolding each times
  no_ids = refl

  none_here : here_items a.place none ≡ 0
  unfolding here_items
  none_here = refl

  -- a stem that is one is no other
  stem_not : (s r : ℕ) → a.stem ≡ s → eqb s r ≡ false → eqb a.stem r ≡ false
  stem_not s r e h = ap (λ (k : ℕ). eqb k r) e ∙ h

  moved_from_here : (q : Node) → here_items a.place (moved_from q) ≤ sites a.place q
  unfolding moved_from
  moved_from_here q =
      by_test (is_moved q)
      (λ e. rw e (let m = moved_here a.place (depth (node_at_of 0 q)) (node_at_of 0 q) in let n = node_in a.place 0 q in omega arith))
      (λ e. rw e (let z = none_here in omega arith))

  -- ---- lists of temporaries

  module _ (c : Context) where
    refs_here : (ps : Items) → times a (each (λ p. reference c p) ps) ≤ here_items a.place ps
    unfolding times each here_items
    refs_here none = omega arith
    refs_here (hole ps) = refs_here ps
    refs_here (item p ps) = let h = refs_here ps in let o = one_here c.path 1 (position p) in omega arith

    refs_none : eqb a.stem 1 ≡ false → (ps : Items) → times a (each (λ p. reference c p) ps) ≡ 0
    unfolding times each
    refs_none e none = refl
    refs_none e (hole ps) = refs_none e ps
    refs_none e (item p ps) = let h = refs_none e ps in let o = other_stem c.path 1 (position p) e in omega arith

    value_here : (p init : Node) → times a (each id_of (source_declarator c p init)) ≤ here a.place (position p)
    unfolding source_declarator each node_at_of piece_in
    value_here p init =
        by_test (is_name_of init)
        (λ e. rw e (let z = none_times in omega arith))
        (λ e. rw e (let o = only_times (value_of c p) in let h = one_here c.path 3 (position p) in omega arith))

    value_none : eqb a.stem 3 ≡ false → (p init : Node) → times a (each id_of (source_declarator c p init)) ≡ 0
    unfolding source_declarator each node_at_of piece_in
    value_none e p init =
        by_test (is_name_of init)
        (λ n. rw n none_times)
        (λ n. rw n (let o = only_times (value_of c p) in let h = other_stem c.path 3 (position p) e in omega arith))

    key_here : (q : Node) → times a (each id_of (key_temporary c q)) ≤ here a.place (position q)
    unfolding key_temporary each node_at_of piece_in
    key_here q =
        let z = none_times in
        by_key (key_sort (key q))
        (λ e. rw (e, key_temporary) (omega arith))
        (λ e. rw (e, key_temporary) (omega arith))
        (λ e. rw (e, key_temporary) (omega arith))
        (λ e. rw (e, key_temporary) (omega arith))
        (λ e. rw (e, key_temporary) (omega arith))
        (λ e. rw (e, key_temporary) (let o = only_times (key_of c q) in let h = one_here c.path 4 (position q) in omega arith))

    key_none : eqb a.stem 4 ≡ false → (q : Node) → times a (each id_of (key_temporary c q)) ≡ 0
    unfolding key_temporary each node_at_of piece_in
    key_none n q =
        by_key (key_sort (key q))
        (λ e. rw (e, key_temporary) none_times)
        (λ e. rw (e, key_temporary) none_times)
        (λ e. rw (e, key_temporary) none_times)
        (λ e. rw (e, key_temporary) none_times)
        (λ e. rw (e, key_temporary) none_times)
        (λ e. rw (e, key_temporary) (let o = only_times (key_of c q) in let h = other_stem c.path 4 (position q) n in omega arith))

    -- ids of what a function gives for each item
    ids_here : (f : Node → Items) → ((n : Node) → times a (each id_of (f n)) ≤ here a.place (position n)) → (is : Items) → times a (each id_of (gather f is)) ≤ here_items a.place is
    unfolding gather here_items
    ids_here f h none = let z = no_ids in omega arith
    ids_here f h (hole is) = ids_here f h is
    ids_here f h (item n is) =
        let k = h n in
        let r = ids_here f h is in
        let e = ap (times a) (each_append id_of (f n) (gather f is)) in
        let s = times_append a (each id_of (f n)) (each id_of (gather f is)) in
        omega arith

    ids_none : (f : Node → Items) → ((n : Node) → times a (each id_of (f n)) ≡ 0) → (is : Items) → times a (each id_of (gather f is)) ≡ 0
    unfolding gather
    ids_none f h none = no_ids
    ids_none f h (hole is) = ids_none f h is
    ids_none f h (item n is) =
        let k = h n in
        let r = ids_none f h is in
        let e = ap (times a) (each_append id_of (f n) (gather f is)) in
        let s = times_append a (each id_of (f n)) (each id_of (gather f is)) in
        omega arith

    keys_here : (p : Node) → times a (each id_of (key_temporaries c p)) ≤ here_items a.place (properties p)
    unfolding key_temporaries
    keys_here p = ids_here (key_temporary c) key_here (properties p)

    keys_none : eqb a.stem 4 ≡ false → (p : Node) → times a (each id_of (key_temporaries c p)) ≡ 0
    unfolding key_temporaries
    keys_none e p = ids_none (key_temporary c) (key_none e) (properties p)

    excluded_here : (p : Node) → times a (each id_of (excluded_for c p)) ≤ here a.place (position p)
    unfolding excluded_for each node_at_of piece_in
    excluded_here p =
        by_test (is_hoisted c p)
        (λ e. rw e (let o = only_times (excluded_of c p) in let h = one_here c.path 2 (position p) in omega arith))
        (λ e. rw e (let z = none_times in omega arith))

    excluded_none : eqb a.stem 2 ≡ false → (p : Node) → times a (each id_of (excluded_for c p)) ≡ 0
    unfolding excluded_for each node_at_of piece_in
    excluded_none n p =
        by_test (is_hoisted c p)
        (λ e. rw e (let o = only_times (excluded_of c p) in let h = other_stem c.path 2 (position p) n in omega arith))
        (λ e. rw e none_times)

    rest_here_once : (p : Node) → times a (rest_makes c p) ≤ shell a.place p
    unfolding rest_makes
    rest_here_once p =
        let k = keys_here p in
        let e = excluded_here p in
        let s = times_append a (each id_of (key_temporaries c p)) (each id_of (excluded_for c p)) in
        omega arith

    rest_none : eqb a.stem 2 ≡ false → eqb a.stem 4 ≡ false → (p : Node) → times a (rest_makes c p) ≡ 0
    unfolding rest_makes
    rest_none u v p =
        let k = keys_none v p in
        let e = excluded_none u p in
        let s = times_append a (each id_of (key_temporaries c p)) (each id_of (excluded_for c p)) in
        omega arith

    rests_once : (ps : Items) → times a (gather (rest_makes c) ps) ≤ shells a.place ps
    unfolding gather shells
    rests_once none = let z = none_times in omega arith
    rests_once (hole ps) = rests_once ps
    rests_once (item p ps) =
        let h = rests_once ps in let k = rest_here_once p in let s = times_append a (rest_makes c p) (gather (rest_makes c) ps) in omega arith

    rests_none : eqb a.stem 2 ≡ false → eqb a.stem 4 ≡ false → (ps : Items) → times a (gather (rest_makes c) ps) ≡ 0
    unfolding gather
    rests_none u v none = none_times
    rests_none u v (hole ps) = rests_none u v ps
    rests_none u v (item p ps) =
        let h = rests_none u v ps in let k = rest_none u v p in let s = times_append a (rest_makes c p) (gather (rest_makes c) ps) in omega arith

    -- ---- declarations

    objects_sites : (p : Node) → sites_items a.place (objects_below c p) ≤ sites a.place p
    objects_sites p = let h = objects_sum a.place c (depth p) p in omega arith

    objects_shells : (p : Node) → shells a.place (objects_below c p) ≤ sites a.place p
    objects_shells p =
        let h = shells_in a.place (objects_below c p) (objects_are a.place c (depth p) p) in let s = objects_sites p in omega arith

    objects_here : (p : Node) → here_items a.place (objects_below c p) ≤ sites a.place p
    objects_here p = let h = here_in a.place (objects_below c p) in let s = objects_shells p in omega arith

    inner_here : (p : Node) → here_items a.place (inner_objects c p) ≤ sites a.place p
    unfolding inner_objects
    inner_here p =
        let i = items_in_lem a.place 0 p in
        by_shape (shape p)
        (λ e. rw (e, inner_objects)
        (let g = gather_here a.place (λ q. objects_below c (value q)) (λ q. let h = objects_here (value q) in let v = node_in a.place 1 q in omega arith) (properties p) in
        omega arith))
        (λ e. rw (e, inner_objects) (objects_here p))
        (λ e. rw (e, inner_objects) (objects_here p))
        (λ e. rw (e, inner_objects) (let z = none_here in omega arith))

    declarator_once : (p init : Node) → has_object_rest p ≡ true → times a (declarator_makes c p init) ≤ sites a.place p
    unfolding declarator_makes
    declarator_once p init r =
        let v = each id_of (source_declarator c p init) in
        let i = each (λ o. reference c o) (inner_objects c p) in
        let g = gather (rest_makes c) (objects_below c p) in
        let s = times_append a v (i +++ g) in
        let t = times_append a i g in
        by_test (eqb a.stem 3)
        (λ e.
        let q : a.stem ≡ 3 = eqb-true a.stem 3 e in
        let w = value_here p init in
        let h = rest_here a.place (depth p) p r in
        let j = refs_none (stem_not 3 1 q refl) (inner_objects c p) in
        let k = rests_none (stem_not 3 2 q refl) (stem_not 3 4 q refl) (objects_below c p) in
        omega arith)
        (λ e.
        let w = value_none e p init in
        by_test (eqb a.stem 1)
        (λ f.
        let q : a.stem ≡ 1 = eqb-true a.stem 1 f in
        let j = refs_here (inner_objects c p) in
        let h = inner_here p in
        let k = rests_none (stem_not 1 2 q refl) (stem_not 1 4 q refl) (objects_below c p) in
        omega arith)
        (λ f.
        let j = refs_none f (inner_objects c p) in
        let k = rests_once (objects_below c p) in
        let h = objects_shells p in
        omega arith))

    gather_once : (f : Node → Items) → ((n : Node) → times a (f n) ≤ sites a.place n) → (is : Items) → times a (gather f is) ≤ sites_items a.place is
    unfolding gather sites
    gather_once f h none = let z = none_times in omega arith
    gather_once f h (hole is) = gather_once f h is
    gather_once f h (item n is) =
        let k = h n in let r = gather_once f h is in let s = times_append a (f n) (gather f is) in omega arith

    declaration_once : (n : Node) → times a (declaration_makes c n) ≤ sites a.place n
    unfolding declaration_makes
    declaration_once n =
        let i = items_in_lem a.place 2 n in
        let g = gather_once (λ d. cond (is_lowered d) (declarator_makes c (node_at_of 0 d) (node_at_of 1 d)) none)
        (λ d. by_test (is_lowered d)
        (λ e. rw e (let h = declarator_once (node_at_of 0 d) (node_at_of 1 d) (lowered_rest d e) in let v = node_in a.place 0 d in omega arith))
        (λ e. rw e (let z = none_times in omega arith)))
        (items_at_of 2 n) in
        omega arith

    -- ---- assignments

    pub entry_refs : (ps : Items) → each id_of (each (λ p. declared (reference c p)) ps) ≡ each (λ p. reference c p) ps
    unfolding each node_at_of piece_in
    entry_refs none = refl
    entry_refs (hole ps) = ap hole (entry_refs ps)
    entry_refs (item p ps) = ap (item (reference c p)) (entry_refs ps)

    nearest_here : (arrays : Bool) (d : ℕ) (p : Node) → here_items a.place (nearest arrays d p) ≤ sites a.place p
    nearest_here arrays d p =
        let h = here_in a.place (nearest arrays d p) in
        let i = shells_in a.place (nearest arrays d p) (nearest_are a.place arrays d p) in
        let j = nearest_sites a.place arrays d p in
        omega arith

    parts_here : (p : Node) → here_items a.place (parts_of p) ≤ sites a.place p
    parts_here p =
        let g = gather_here a.place (λ q. nearest false (depth p) (value q))
        (λ q. let h = nearest_here false (depth p) (value q) in let v = node_in a.place 1 q in omega arith) (properties p) in
        let i = items_in_lem a.place 0 p in
        omega arith

    pub entry_times : (n : Node) → times a (each id_of (top_entry c n))
        ≡ once (same a (name_of (value_of c (target n)))) + (times a (each (λ p. reference c p) (parts_of (target n))) + times a (each id_of (key_temporaries c (target n))))
    unfolding top_entry each times node_at_of piece_in
    entry_times n =
        let p = target n in
        let ds = each (λ q. declared (reference c q)) (parts_of p) in
        let s = ap (times a) (each_append id_of ds (key_temporaries c p)) in
        let t = times_append a (each id_of ds) (each id_of (key_temporaries c p)) in
        let r = ap (times a) (entry_refs (parts_of p)) in
        omega arith

    top_once : (n : Node) → is_top (target n) ≡ true → times a (top_makes c n) ≤ sites a.place n
    unfolding top_makes top_excludes
    top_once n h =
        let p = target n in
        let w = node_in a.place 1 n in
        let s = times_append a (each id_of (top_entry c n)) (each id_of (excluded_for c p)) in
        let t = entry_times n in
        by_test (eqb a.stem 3)
        (λ e.
        let q : a.stem ≡ 3 = eqb-true a.stem 3 e in
        let o = one_here c.path 3 (position p) in
        let i = object_here a.place p (top_34 p h) in
        let r = refs_none (stem_not 3 1 q refl) (parts_of p) in
        let k = keys_none (stem_not 3 4 q refl) p in
        let u = excluded_none (stem_not 3 2 q refl) p in
        omega arith)
        (λ e.
        let o = other_stem c.path 3 (position p) e in
        by_test (eqb a.stem 1)
        (λ f.
        let q : a.stem ≡ 1 = eqb-true a.stem 1 f in
        let r = refs_here (parts_of p) in
        let g = parts_here p in
        let k = keys_none (stem_not 1 4 q refl) p in
        let u = excluded_none (stem_not 1 2 q refl) p in
        omega arith)
        (λ f.
        let r = refs_none f (parts_of p) in
        let k = keys_here p in
        let u = excluded_here p in
        let i = object_whole a.place p (top_34 p h) in
        omega arith))

    nested_once : (n : Node) → times a (nested_makes c n) ≤ sites a.place n
    unfolding nested_makes nested_entry
    nested_once n =
        let p = target n in
        let e = ap (times a) (entry_refs (outermost p)) in
        let r = refs_here (outermost p) in
        let h = nearest_here true (depth p) p in
        let w = node_in a.place 1 n in
        omega arith

    -- ---- heads

    heads_once : (is : Items) → times a (references c (gather moved_from is)) ≤ sites_items a.place is
    heads_once is =
        let r = refs_here (gather moved_from is) in let g = gather_here a.place moved_from (λ q. moved_from_here q) is in omega arith

    assigning_once : (n : Node) → times a (assigning_makes c n) ≤ sites a.place n
    unfolding assigning_makes
    assigning_once n =
        let p = node_at_of 1 n in
        let w = node_in a.place 1 n in
        by_test (has_object_rest p)
        (λ e. rw e
        (let o = only_times (reference c p) in let h = one_here c.path 1 (position p) in let r = rest_here a.place (depth p) p e in omega arith))
        (λ e. rw e (let z = none_times in omega arith))

    function_once : (n : Node) → times a (function_makes c n) ≤ sites a.place n
    unfolding function_makes
    function_once n =
        let i = items_in_lem a.place 3 n in
        by_test (stands 5 n) (λ e. rw e (let h = heads_once (items_at_of 3 n) in omega arith)) (λ e. rw e (let z = none_times in omega arith))

    arrow_once : (n : Node) → times a (arrow_makes c n) ≤ sites a.place n
    unfolding arrow_makes
    arrow_once n = let i = items_in_lem a.place 0 n in let h = heads_once (items_at_of 0 n) in omega arith

    catch_once : (n : Node) → times a (catch_makes c n) ≤ sites a.place n
    unfolding catch_makes
    catch_once n =
        let r = refs_here (moved_from (node_at_of 0 n)) in let h = moved_from_here (node_at_of 0 n) in let w = node_in a.place 0 n in omega arith

    declaring_once : (n : Node) → times a (declaring_makes c n) ≤ sites a.place n
    unfolding declaring_makes
    declaring_once n =
        let h = heads_once (items_at_of 2 (node_at_of 1 n)) in let i = items_in_lem a.place 2 (node_at_of 1 n) in let w = node_in a.place 1 n in omega arith

    -- ---- one node

    declarations_make : (n : Node) → times a (step_declaration c n).note.made ≤ sites a.place n
    unfolding step_declaration
    declarations_make n =
        by_number (declaration_refusal c n) (λ r e. rw (e, step_declaration) (let z = none_times in omega arith)) (λ e. rw (e, step_declaration) (declaration_once n))

    tops_make : (n : Node) → is_top (target n) ≡ true → times a (step_top c n).note.made ≤ sites a.place n
    unfolding step_top
    tops_make n h = by_number (top_refusal n) (λ r e. rw (e, step_top) (let z = none_times in omega arith)) (λ e. rw (e, step_top) (top_once n h))

    assignments_make : (n : Node) → times a (step_assignment c n).note.made ≤ sites a.place n
    unfolding step_assignment
    assignments_make n =
        by_test (has_array_rest_over_object_rest (target n))
        (λ e. rw (e, step_assignment) (let z = none_times in omega arith))
        (λ e. rw (e, step_assignment)
        (by_test (is_top (target n))
        (λ t. rw t (tops_make n t))
        (λ t. rw t (by_test (has_object_rest (target n)) (λ r. rw r (nested_once n)) (λ r. rw r (let z = none_times in omega arith))))))

    fors_make : (n : Node) → times a (step_for c n).note.made ≤ sites a.place n
    unfolding step_for
    fors_make n =
        by_test (is 4 (node_at_of 1 n))
        (λ d. rw (d, step_for) (declaring_once n))
        (λ d. rw (d, step_for) (by_test (has_array_rest_over_object_rest (node_at_of 1 n)) (λ e. rw e (let z = none_times in omega arith)) (λ e. rw e (assigning_once n))))

    pub makes_once : (n : Node) → times a (rewrite c n).note.made ≤ sites a.place n
    unfolding rewrite
    makes_once n =
        let z = none_times in
        by_rule_lem (rule_of (kind n))
        (λ e. rw (e, rewrite) (omega arith))
        (λ e. rw (e, rewrite) (declarations_make n))
        (λ e. rw (e, rewrite) (assignments_make n))
        (λ e. rw (e, rewrite) (function_once n))
        (λ e. rw (e, rewrite) (arrow_once n))
        (λ e. rw (e, rewrite) (catch_once n))
        (λ e. rw (e, rewrite) (fors_make n))
        (λ e. rw (e, rewrite) (omega arith))
