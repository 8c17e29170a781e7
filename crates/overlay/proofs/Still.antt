-- What holds no object literal or pattern is left as it stands by every rule.
-- Assumes nothing.
use mathlib.Core.Path.{◌≡◌, refl, sym, ap, ◌∙◌}
use mathlib.Core.Bool.{Bool, true, false, cond, ◌||◌}
use Prim.Native.Nat.{ℕ, zero, suc}
use lib.Dec.{eqb}
use Rattle.tree.specs.Tree.{Node, Items, depth}
use Rattle.tree.specs.Tree.Node.{node}
use Rattle.tree.specs.Tree.Items.{none, hole, item}
use Rattle.lowering.specs.Parts.{kind, is, node_at_of, items_at_of, stands, gather, any, ◌+++◌, or_else, first}
use Rattle.lowering.specs.Made.{Context}
use Rattle.lowering.specs.Patterns.{shape, items_of, rest, left_of, has_nested_object_rest, has_object_rest, has_nested_array_rest, has_array_rest_over_object_rest}
use Rattle.lowering.specs.Patterns.Shape.{object_pattern}
use Rattle.lowering.specs.Keys.{keys_refusal}
use Rattle.lowering.specs.Declarations.{is_lowered, declarators, lowered_in, declaration, declaration_refusal}
use Rattle.lowering.specs.Assignments.{target, is_top}
use Rattle.lowering.specs.Heads.{is_moved, function, arrow, catch, declaring_head, assigning_head}
use Rattle.lowering.specs.Walk.{Rule, rule_of, rewrite, step_declaration, step_assignment, step_for}
use Rattle.lowering.specs.Walk.Rule.{literals, declarations, assignments, functions, arrows, catches, fors, nowhere}
use Rattle.lowering.proofs.Cases.{by_shape, by_rule_lem, object_is, by_test, or_left, or_right, and_none, and_left, and_right}
use Rattle.overlay.specs.Plain.{free, free_items, is_object, is_foreign, is_new, has_hole}
use Rattle.overlay.proofs.LaidOn.{differ}
use Rattle.overlay.proofs.Free.{free_here, free_node, free_items_lem}
use Rattle.lowering.proofs.ChangeLaws.{change_items_same}

-- ---- no object rest below

abbrev Bare : Node → Type 0
Bare n = free is_object n ≡ true

abbrev BareItems : Items → Type 0
BareItems is = free_items is_object is ≡ true

bare_node : (i : ℕ) (n : Node) → Bare n → Bare (node_at_of i n)
unfolding is
bare_node i n b = free_node is_object refl i n b

bare_items_lem : (i : ℕ) (n : Node) → Bare n → BareItems (items_at_of i n)
bare_items_lem i n b = free_items_lem is_object i n b

not_pattern : (n : Node) → Bare n → is 34 n ≡ false
not_pattern n b = or_right (is 24 n) (is 34 n) (free_here is_object n b)

no_first : (f : Node → ℕ) → ((n : Node) → Bare n → f n ≡ 0) → (is : Items) → BareItems is → first f is ≡ 0
unfolding first or_else
no_first f h none b = refl
no_first f h (hole is) b = no_first f h is b
no_first f h (item n is) b = rw (h n (and_left (free is_object n) (free_items is_object is) b)) (no_first f h is (and_right (free is_object n) (free_items is_object is) b))

no_any : (f : Node → Bool) → ((n : Node) → Bare n → f n ≡ false) → (is : Items) → BareItems is → any f is ≡ false
unfolding any
no_any f h none b = refl
no_any f h (hole is) b = no_any f h is b
no_any f h (item n is) b = rw (h n (and_left (free is_object n) (free_items is_object is) b), no_any f h is (and_right (free is_object n) (free_items is_object is) b)) refl

-- the head of a pattern without object patterns
no_object : {A : Type 0} (p : Node) → Bare p → shape p ≡ object_pattern → A
no_object p b e = differ (sym (object_is p e) ∙ not_pattern p b)

rest_free : (d : ℕ) (p : Node) → Bare p → has_nested_object_rest d p ≡ false
unfolding has_nested_object_rest
rest_free zero p b = refl
rest_free (suc d) p b =
    by_shape (shape p)
    (λ e. no_object p b e)
    (λ e. rw (e, has_nested_object_rest) (rw (no_any (λ e. has_nested_object_rest d e) (λ n b. rest_free d n b) (items_of p) (bare_items_lem 0 p b)) (rest_free d (rest p) (bare_node 1 p b))))
    (λ e. rw (e, has_nested_object_rest) (rest_free d (left_of p) (bare_node 0 p b)))
    (λ e. rw (e, has_nested_object_rest) refl)

below_free : (d : ℕ) (p : Node) → Bare p → has_nested_array_rest d p ≡ false
unfolding has_nested_array_rest
below_free zero p b = refl
below_free (suc d) p b =
    by_shape (shape p)
    (λ e. no_object p b e)
    (λ e. rw (e, has_nested_array_rest) (rw (no_any (λ e. has_nested_array_rest d e) (λ n b. below_free d n b) (items_of p) (bare_items_lem 0 p b)) (rest_free d (rest p) (bare_node 1 p b))))
    (λ e. rw (e, has_nested_array_rest) (below_free d (left_of p) (bare_node 0 p b)))
    (λ e. rw (e, has_nested_array_rest) refl)

rest_none : (p : Node) → Bare p → has_object_rest p ≡ false
rest_none p b = rest_free (depth p) p b

array_none : (p : Node) → Bare p → has_array_rest_over_object_rest p ≡ false
array_none p b = below_free (depth p) p b

-- ---- declarators

not_lowered : (d : Node) → Bare d → is_lowered d ≡ false
unfolding is_lowered
not_lowered d b = and_none (stands 1 d) (has_object_rest (node_at_of 0 d)) (rest_none (node_at_of 0 d) (bare_node 0 d b))

module _ (c : Context) where
  all_kept : (is : Items) → BareItems is → has_hole is ≡ false → gather (declarators c) is ≡ is
  unfolding gather declarators ◌+++◌
  all_kept none b e = refl
  all_kept (hole is) b e = differ e
  all_kept (item d is) b e =
      rw (not_lowered d (and_left (free is_object d) (free_items is_object is) b))
      (ap (λ (x : Items). item d x) (all_kept is (and_right (free is_object d) (free_items is_object is) b) e))

  forms_kept : (n : Node) → Bare n → declaration_refusal c n ≡ 0
  unfolding declaration_refusal lowered_in first
  forms_kept n b = no_first (λ d. first (λ p. keys_refusal p) (lowered_in c d)) (λ d b. rw (not_lowered d b) refl) (items_at_of 2 n) (bare_items_lem 2 n b)

  declaration_still : (n : Node) → Bare n → has_hole (items_at_of 2 n) ≡ false → (step_declaration c n).result ≡ n
  unfolding step_declaration declaration
  declaration_still n b e = rw (forms_kept n b, step_declaration) (change_items_same 2 (gather (declarators c)) n (all_kept (items_at_of 2 n) (bare_items_lem 2 n b) e))

  -- ---- assignments

  assignment_still : (n : Node) → Bare n → (step_assignment c n).result ≡ n
  unfolding step_assignment is_top
  assignment_still n b =
      let t : Bare (target n) = bare_node 1 n b in
      rw (array_none (target n) t, step_assignment) (rw (not_pattern (target n) t) (rw (rest_none (target n) t) refl))

  -- ---- heads

  not_moved : (q : Node) → Bare q → is_moved q ≡ false
  unfolding is_moved
  not_moved q b = rest_none (node_at_of 0 q) (bare_node 0 q b)

  function_still : (n : Node) → Bare n → function c n ≡ n
  unfolding function
  function_still n b = rw (and_none (stands 5 n) (any is_moved (items_at_of 3 n)) (no_any is_moved not_moved (items_at_of 3 n) (bare_items_lem 3 n b))) refl

  arrow_still : (n : Node) → Bare n → arrow c n ≡ n
  unfolding arrow
  arrow_still n b = rw (no_any is_moved not_moved (items_at_of 0 n) (bare_items_lem 0 n b)) refl

  catch_still : (n : Node) → Bare n → catch c n ≡ n
  unfolding catch
  catch_still n b = rw (not_moved (node_at_of 0 n) (bare_node 0 n b)) refl

  for_still : (n : Node) → Bare n → (step_for c n).result ≡ n
  unfolding step_for declaring_head assigning_head
  for_still n b =
      let l : Bare (node_at_of 1 n) = bare_node 1 n b in
      by_test (is 4 (node_at_of 1 n))
      (λ e. rw (e, step_for) (rw (no_any is_moved not_moved (items_at_of 2 (node_at_of 1 n)) (bare_items_lem 2 (node_at_of 1 n) l)) refl))
      (λ e. rw (e, step_for) (rw (array_none (node_at_of 1 n) l) (rw (rest_none (node_at_of 1 n) l) refl)))

-- ---- every rule

-- what a rule says of the kind
abbrev Says : Rule → Bool → Bool → Type 0
Says literals l d = l ≡ true
Says declarations l d = d ≡ true
Says assignments l d = Unit {0}
Says functions l d = Unit {0}
Says arrows l d = Unit {0}
Says catches l d = Unit {0}
Says fors l d = Unit {0}
Says nowhere l d = Unit {0}

says : (k : ℕ) (r : Rule) → rule_of k ≡ r → Says r (eqb k 24) (eqb k 4)
unfolding rule_of
says k r e = rw e at (go (eqb k 24) (eqb k 4) (eqb k 27) (eqb k 14) (eqb k 17) (eqb k 10) (eqb k 7) (eqb k 8))
  where
    go : (l d a f r c i o : Bool)
        → Says (cond l literals (cond d declarations (cond a assignments (cond f functions (cond r arrows (cond c catches (cond (i || o) fors nowhere))))))) l d
    go true d a f r c i o = refl
    go false true a f r c i o = refl
    go false false true f r c i o = tt
    go false false false true r c i o = tt
    go false false false false true c i o = tt
    go false false false false false true i o = tt
    go false false false false false false true o = tt
    go false false false false false false false true = tt
    go false false false false false false false false = tt

whole_list : (n : Node) → is_foreign n ≡ false → is 4 n ≡ true → has_hole (items_at_of 2 n) ≡ false
unfolding is
whole_list (node at k fs) e d = rw d at (or_right (is_new fs) _ (or_right (eqb k 21) _ (or_right (eqb k 20) _ e)))

pub still : (c : Context) (n : Node) → free is_object n ≡ true → is_foreign n ≡ false → (rewrite c n).result ≡ n
unfolding rewrite is
still c n b f =
    by_rule_lem (rule_of (kind n))
    (λ e. differ (sym (says (kind n) literals e) ∙ or_left (is 24 n) (is 34 n) (free_here is_object n b)))
    (λ e. rw (e, rewrite) (declaration_still c n b (whole_list n f (says (kind n) declarations e))))
    (λ e. rw (e, rewrite) (assignment_still c n b))
    (λ e. rw (e, rewrite) (function_still c n b))
    (λ e. rw (e, rewrite) (arrow_still c n b))
    (λ e. rw (e, rewrite) (catch_still c n b))
    (λ e. rw (e, rewrite) (for_still c n b))
    (λ e. rw (e, rewrite) refl)
