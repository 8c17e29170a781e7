-- Each temporary that a rewriting makes has the path of that rewriting in its name, and the stem of what it is made for.
-- Assumes nothing.
use mathlib.Core.Path.{◌≡◌, refl, sym, subst}
use mathlib.Core.Bool.{Bool, true, false, cond, ◌&&◌}
use mathlib.Core.List.{List}
use Prim.Native.Nat.{ℕ}
use native.Mathlib.Omega.{arith}
use lib.Dec.{eqb}
use Rattle.tree.specs.Tree.{Node, Items}
use Rattle.tree.specs.Tree.Items.{none, hole, item}
use Rattle.lowering.specs.Parts.{same_numbers, position, kind, is, node_at_of, items_at_of, stands, piece_in, each, gather, ◌+++◌}
use Rattle.lowering.specs.Made.{Context, temporary, reference, id_of, declared}
use Rattle.lowering.specs.Patterns.{properties, key, has_object_rest, has_array_rest_over_object_rest, objects_below}
use Rattle.lowering.specs.Keys.{key_sort, key_temporary, key_temporaries}
use Rattle.lowering.specs.Rests.{is_hoisted, excluded_for, rest_makes}
use Rattle.lowering.specs.Declarations.{is_name_of, source_declarator, inner_objects, declarator_makes, is_lowered, declaration_makes, declaration_refusal}
use Rattle.lowering.specs.Assignments.{is_top, target, parts_of, top_refusal, top_entry, top_excludes, top_makes, outermost, nested_entry, nested_makes}
use Rattle.lowering.specs.Heads.{moved_from, function_makes, arrow_makes, catch_makes, declaring_makes, assigning_makes}
use Rattle.lowering.specs.Walk.{rule_of, rewrite, step_declaration, step_top, step_assignment, step_for}
use Rattle.lowering.specs.Collect.{Name, name_of, same}
use Rattle.lowering.proofs.All.{AllItems, all_append, all_gather, all_each, all_unit}
use Rattle.lowering.proofs.Cases.{by_number, by_test, by_key, by_rule_lem}
use Rattle.lowering.proofs.MadeAtSites.{times, name_of_lem, entry_refs}
use Rattle.lowering.proofs.ItemLaws.{each_append}

-- a temporary with the path, by what it is made for: in place of a pattern, excluded keys, a value, a key
pub data From (path : List ℕ) : Node → Type 0 where
  for_pattern : (p : Node) → From path (temporary path 1 (position p))
  for_excluded : (p : Node) → From path (temporary path 2 (position p))
  for_value : (p : Node) → From path (temporary path 3 (position p))
  for_key : (q : Node) → From path (temporary path 4 (position q))

module _ (c : Context) where
  abbrev Ours : Node → Type 0
  Ours t = From c.path t

  refs_from : (ps : Items) → AllItems Ours (each (λ p. reference c p) ps)
  refs_from ps = all_each (λ q. Unit {0}) Ours (λ p. reference c p) (λ p u. From.for_pattern p) ps (all_unit ps)

  value_from_lem : (p init : Node) → AllItems Ours (each id_of (source_declarator c p init))
  unfolding source_declarator each node_at_of piece_in
  value_from_lem p init = by_test (is_name_of init) (λ e. rw (e, AllItems) tt) (λ e. rw (e, AllItems) (From.for_value p, tt))

  key_from : (q : Node) → AllItems Ours (each id_of (key_temporary c q))
  unfolding key_temporary each node_at_of piece_in
  key_from q =
      by_key (key_sort (key q))
      (λ e. rw (e, key_temporary, each, AllItems) tt)
      (λ e. rw (e, key_temporary, each, AllItems) tt)
      (λ e. rw (e, key_temporary, each, AllItems) tt)
      (λ e. rw (e, key_temporary, each, AllItems) tt)
      (λ e. rw (e, key_temporary, each, AllItems) tt)
      (λ e. rw (e, key_temporary, each, AllItems) (From.for_key q, tt))

  ids_from : (f : Node → Items) → ((n : Node) → AllItems Ours (each id_of (f n))) → (is : Items) → AllItems Ours (each id_of (gather f is))
  unfolding gather each
  ids_from f h none = tt
  ids_from f h (hole is) = ids_from f h is
  ids_from f h (item n is) =
      subst (AllItems Ours) (sym (each_append id_of (f n) (gather f is))) (all_append Ours (each id_of (f n)) (each id_of (gather f is)) (h n) (ids_from f h is))

  keys_from : (p : Node) → AllItems Ours (each id_of (key_temporaries c p))
  unfolding key_temporaries
  keys_from p = ids_from (key_temporary c) key_from (properties p)

  excluded_from : (p : Node) → AllItems Ours (each id_of (excluded_for c p))
  unfolding excluded_for each node_at_of piece_in
  excluded_from p = by_test (is_hoisted c p) (λ e. rw (e, each, AllItems) (From.for_excluded p, tt)) (λ e. rw (e, each, AllItems) tt)

  rest_from : (p : Node) → AllItems Ours (rest_makes c p)
  unfolding rest_makes
  rest_from p = all_append Ours (each id_of (key_temporaries c p)) (each id_of (excluded_for c p)) (keys_from p) (excluded_from p)

  declarator_from : (p init : Node) → AllItems Ours (declarator_makes c p init)
  unfolding declarator_makes
  declarator_from p init =
      let v = each id_of (source_declarator c p init) in
      let i = each (λ o. reference c o) (inner_objects c p) in
      let g = gather (rest_makes c) (objects_below c p) in
      all_append Ours v (i +++ g) (value_from_lem p init)
      (all_append Ours i g (refs_from (inner_objects c p))
      (all_gather (λ q. Unit {0}) Ours (rest_makes c) (λ q u. rest_from q) (objects_below c p) (all_unit (objects_below c p))))

  declaration_from : (n : Node) → AllItems Ours (declaration_makes c n)
  unfolding declaration_makes
  declaration_from n =
      all_gather (λ q. Unit {0}) Ours (λ d. cond (is_lowered d) (declarator_makes c (node_at_of 0 d) (node_at_of 1 d)) none)
      (λ d u. by_test (is_lowered d) (λ e. rw (e, AllItems) (declarator_from (node_at_of 0 d) (node_at_of 1 d))) (λ e. rw (e, AllItems) tt))
      (items_at_of 2 n) (all_unit (items_at_of 2 n))

  declared_from : (ps : Items) → AllItems Ours (each id_of (each (λ q. declared (reference c q)) ps))
  declared_from ps = subst (AllItems Ours) (sym (entry_refs (record { path = c.path; stem = 0; place = 0 }) c ps)) (refs_from ps)

  entry_from : (n : Node) → AllItems Ours (each id_of (top_entry c n))
  unfolding top_entry each node_at_of piece_in
  entry_from n =
      let p = target n in
      let ds = each (λ q. declared (reference c q)) (parts_of p) in (
        From.for_value p,
        subst (AllItems Ours) (sym (each_append id_of ds (key_temporaries c p)))
            (all_append Ours (each id_of ds) (each id_of (key_temporaries c p)) (declared_from (parts_of p)) (keys_from p)),
      )

  top_from : (n : Node) → AllItems Ours (top_makes c n)
  unfolding top_makes top_excludes
  top_from n =
      all_append Ours (each id_of (top_entry c n)) (each id_of (excluded_for c (target n))) (entry_from n) (excluded_from (target n))

  nested_from : (n : Node) → AllItems Ours (nested_makes c n)
  unfolding nested_makes nested_entry
  nested_from n =
      declared_from (outermost (target n))

  function_from : (n : Node) → AllItems Ours (function_makes c n)
  unfolding function_makes
  function_from n = by_test (stands 5 n) (λ e. rw (e, AllItems) (refs_from (gather moved_from (items_at_of 3 n)))) (λ e. rw (e, AllItems) tt)

  assigning_from : (n : Node) → AllItems Ours (assigning_makes c n)
  unfolding assigning_makes
  assigning_from n = by_test (has_object_rest (node_at_of 1 n)) (λ e. rw (e, AllItems) (From.for_pattern (node_at_of 1 n), tt)) (λ e. rw (e, AllItems) tt)

  declarations_from : (n : Node) → AllItems Ours (step_declaration c n).note.made
  unfolding step_declaration
  declarations_from n = by_number (declaration_refusal c n) (λ r e. rw (e, step_declaration, AllItems) tt) (λ e. rw (e, step_declaration, AllItems) (declaration_from n))

  tops_from : (n : Node) → AllItems Ours (step_top c n).note.made
  unfolding step_top
  tops_from n = by_number (top_refusal n) (λ r e. rw (e, step_top, AllItems) tt) (λ e. rw (e, step_top, AllItems) (top_from n))

  assignments_from : (n : Node) → AllItems Ours (step_assignment c n).note.made
  unfolding step_assignment
  assignments_from n =
      by_test (has_array_rest_over_object_rest (target n))
      (λ e. rw (e, step_assignment, AllItems) tt)
      (λ e. rw (e, step_assignment, AllItems)
      (by_test (is_top (target n))
      (λ t. rw (t, AllItems) (tops_from n))
      (λ t. rw (t, AllItems) (by_test (has_object_rest (target n)) (λ r. rw (r, AllItems) (nested_from n)) (λ r. rw (r, AllItems) tt)))))

  fors_from : (n : Node) → AllItems Ours (step_for c n).note.made
  unfolding step_for declaring_makes
  fors_from n =
      by_test (is 4 (node_at_of 1 n))
      (λ d. rw (d, step_for, AllItems) (refs_from (gather moved_from (items_at_of 2 (node_at_of 1 n)))))
      (λ d. rw (d, step_for, AllItems) (by_test (has_array_rest_over_object_rest (node_at_of 1 n)) (λ e. rw (e, AllItems) tt) (λ e. rw (e, AllItems) (assigning_from n))))

  pub made_from : (n : Node) → AllItems Ours (rewrite c n).note.made
  unfolding rewrite arrow_makes catch_makes
  made_from n =
      by_rule_lem (rule_of (kind n))
      (λ e. rw (e, rewrite, AllItems) tt)
      (λ e. rw (e, rewrite, AllItems) (declarations_from n))
      (λ e. rw (e, rewrite, AllItems) (assignments_from n))
      (λ e. rw (e, rewrite, AllItems) (function_from n))
      (λ e. rw (e, rewrite, AllItems) (refs_from (gather moved_from (items_at_of 0 n))))
      (λ e. rw (e, rewrite, AllItems) (refs_from (moved_from (node_at_of 0 n))))
      (λ e. rw (e, rewrite, AllItems) (fors_from n))
      (λ e. rw (e, rewrite, AllItems) tt)

-- ---- so a name with another path is not made

module _ (a : Name) (path : List ℕ) (apart : same_numbers a.path path ≡ false) where
  other : (stem at : ℕ) → same a (name_of (temporary path stem at)) ≡ false
  other stem at = rw (name_of_lem a path stem at, apart) (go (eqb a.place at) (eqb a.stem stem))
    where
      go : (b d : Bool) → b && (d && false) ≡ false
      go true true = refl
      go true false = refl
      go false d = refl

  off : (t : Node) → From path t → same a (name_of t) ≡ false
  off t (From.for_pattern p) = other 1 (position p)
  off t (From.for_excluded p) = other 2 (position p)
  off t (From.for_value p) = other 3 (position p)
  off t (From.for_key q) = other 4 (position q)

  pub not_made : (ts : Items) → AllItems (From path) ts → times a ts ≡ 0
  unfolding times
  not_made none h = refl
  not_made (hole ts) h = not_made ts h
  not_made (item t ts) h = rw (off t h.0) (let k = not_made ts h.1 in omega arith)
