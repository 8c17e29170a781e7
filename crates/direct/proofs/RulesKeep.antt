-- The nodes that the rules leave as they stand.
-- Assumes nothing.
use mathlib.Core.Path.{◌≡◌, refl, ap, ◌∙◌}
use mathlib.Core.Bool.{Bool, true, false, cond, ◌||◌, ◌&&◌}
use Prim.Native.Nat.{ℕ, zero, suc}
use borrow.Author.Tests.{eqb-true}
use Rattle.tree.specs.Tree.{Node, Items, depth, depth_fields}
use Rattle.tree.specs.Tree.Node.{node}
use Rattle.lowering.specs.Parts.{kind, is, node_at_of, items_at_of, stands, only, each, gather, any, ◌+++◌, first, or_else}
use Rattle.lowering.specs.Made.{Context}
use Rattle.lowering.specs.Patterns.{shape, properties, items_of, rest, has_rest_of, left_of, value, has_nested_object_rest, has_nested_array_rest, has_object_rest}
use Rattle.lowering.specs.Keys.{keys_refusal}
use Rattle.lowering.specs.Rests.{excluded_for}
use Rattle.lowering.specs.Literals.{literal}
use Rattle.lowering.specs.Declarations.{is_lowered, declarator_makes, declarators, lowered_in, declaration, declaration_makes, declaration_excludes, declaration_refusal}
use Rattle.lowering.specs.Assignments.{is_top, target}
use Rattle.lowering.specs.Heads.{is_moved, moved_from, function, function_makes, arrow, arrow_makes, catch, catch_makes, declaring_head, declaring_makes, assigning_head, assigning_makes}
use Rattle.lowering.specs.Walk.{unchanged, rule_of, rewrite, step_declaration, step_assignment, step_for}
use Rattle.lowering.specs.Walk.Rule.{literals, fors}
use Rattle.lowering.proofs.Cases.{by_test, by_shape, or_left, or_right, shape_34, rule_4, rule_27, rule_14, rule_17, rule_10, step_same, rewritten_same}
use Rattle.lowering.proofs.Accepted.{NoHoles}
use Rattle.lowering.proofs.ItemLaws.{gather_none as none_in, any_none, first_empty}
use Rattle.lowering.proofs.ChangeLaws.{change_items_same}

-- ---- rules by kind

pub rule_24 : (n : Node) → is 24 n ≡ true → rule_of (kind n) ≡ literals
unfolding is rule_of
rule_24 (node at k fs) e = rw (eqb-true k 24 e) refl

-- ---- searches that find nothing

gather_none : (f : Node → Bool) (g : Node → Items) → ((n : Node) → f n ≡ false → g n ≡ Items.none) → (is : Items) → any f is ≡ false → gather g is ≡ Items.none
unfolding any gather ◌+++◌
gather_none f g h Items.none e = refl
gather_none f g h (Items.hole ns) e = gather_none f g h ns e
gather_none f g h (Items.item n ns) e = rw (h n (or_left (f n) (any f ns) e)) (gather_none f g h ns (or_right (f n) (any f ns) e))

gather_kept : (f : Node → Bool) (g : Node → Items) → ((n : Node) → f n ≡ false → g n ≡ only n) → (is : Items) → NoHoles is → any f is ≡ false → gather g is ≡ is
unfolding any gather ◌+++◌ NoHoles
gather_kept f g h Items.none w e = refl
gather_kept f g h (Items.hole ns) w e = absurd w
gather_kept f g h (Items.item n ns) w e = rw (h n (or_left (f n) (any f ns) e)) (ap (Items.item n) (gather_kept f g h ns w (or_right (f n) (any f ns) e)))

-- no object rest below, so none below an array rest
pub over_none : (d : ℕ) (p : Node) → has_nested_object_rest d p ≡ false → has_nested_array_rest d p ≡ false
unfolding has_nested_object_rest has_nested_array_rest
over_none zero p h = refl
over_none (suc d) p h =
    by_shape (shape p)
    (λ e.
    let z : has_rest_of p || any (λ q. has_nested_object_rest d (value q)) (properties p) ≡ false = rw (e, has_nested_object_rest) at h in
    rw (e, has_nested_array_rest)
    (any_none (λ q. has_nested_object_rest d (value q)) (λ q. has_nested_array_rest d (value q)) (λ q. over_none d (value q)) (properties p)
    (or_right (has_rest_of p) (any (λ q. has_nested_object_rest d (value q)) (properties p)) z)))
    (λ e.
    let z : any (λ q. has_nested_object_rest d q) (items_of p) || has_nested_object_rest d (rest p) ≡ false = rw (e, has_nested_object_rest) at h in
    let a = any_none (λ q. has_nested_object_rest d q) (λ q. has_nested_array_rest d q) (λ q. over_none d q) (items_of p) (or_left (any (λ q. has_nested_object_rest d q) (items_of p)) (has_nested_object_rest d (rest p)) z) in
    rw (e, has_nested_array_rest, a) (or_right (any (λ q. has_nested_object_rest d q) (items_of p)) (has_nested_object_rest d (rest p)) z))
    (λ e.
    let z : has_nested_object_rest d (left_of p) ≡ false = rw (e, has_nested_object_rest) at h in
    rw (e, has_nested_array_rest) (over_none d (left_of p) z))
    (λ e. rw (e, has_nested_array_rest) refl)

rest_found : (d : ℕ) (p : Node) → is 34 p ≡ true → has_nested_object_rest (suc d) p ≡ false → has_rest_of p ≡ false
unfolding has_nested_object_rest
rest_found d p e h =
    let z : has_rest_of p || any (λ q. has_nested_object_rest d (value q)) (properties p) ≡ false = rw (shape_34 p e, has_nested_object_rest) at h in
    or_left (has_rest_of p) (any (λ q. has_nested_object_rest d (value q)) (properties p)) z

no_rest : (p : Node) → is 34 p ≡ true → has_object_rest p ≡ false → has_rest_of p ≡ false
unfolding depth
no_rest (node at k fs) e h = rest_found (depth_fields fs) (node at k fs) e h

pub top_none : (p : Node) → has_object_rest p ≡ false → is_top p ≡ false
unfolding is_top
top_none p h = by_test (is 34 p) (λ e. rw (e, no_rest p e h)) (λ e. rw e)

-- ---- steps

moved_none : (is : Items) → any is_moved is ≡ false → gather moved_from is ≡ Items.none
unfolding moved_from
moved_none ns h = gather_none is_moved moved_from (λ n e. rw e) ns h

literal_same : (n : Node) → any (λ p. is 26 p) (items_at_of 0 n) ≡ false → literal n ≡ n
unfolding literal
literal_same n h = rw h refl

module _ (c : Context) where
  first_none : (u : Node → Bool) (f : Node → ℕ) → ((n : Node) → u n ≡ false → f n ≡ 0) → (is : Items) → any u is ≡ false → first f is ≡ 0
  unfolding any first or_else
  first_none u f h Items.none e = refl
  first_none u f h (Items.hole is) e = first_none u f h is e
  first_none u f h (Items.item n is) e = rw (h n (or_left (u n) (any u is) e)) (first_none u f h is (or_right (u n) (any u is) e))

  kept_one : (d : Node) → is_lowered d ≡ false → declarators c d ≡ only d
  unfolding declarators
  kept_one d e = rw e refl

  lowered_in_lem : (d : Node) → is_lowered d ≡ false → lowered_in c d ≡ Items.none
  unfolding lowered_in
  lowered_in_lem d e = rw e refl

  refuses_none : (n : Node) → any is_lowered (items_at_of 2 n) ≡ false → declaration_refusal c n ≡ 0
  unfolding declaration_refusal
  refuses_none n h =
      first_none is_lowered (λ d. first (λ p. keys_refusal p) (lowered_in c d)) (λ d e. ap (first (λ p. keys_refusal p)) (lowered_in_lem d e) ∙ first_empty (λ p. keys_refusal p)) (items_at_of 2 n) h

  pub literal_kept : (n : Node) → is 24 n ≡ true → any (λ p. is 26 p) (items_at_of 0 n) ≡ false → rewrite c n ≡ unchanged n
  unfolding rewrite
  literal_kept n k h = rw (rule_24 n k, rewrite) (rewritten_same Items.none (literal n) n refl (literal_same n h))

  -- a declaration without holes, none of whose declarators is lowered
  pub declaration_kept : (n : Node) → is 4 n ≡ true → NoHoles (items_at_of 2 n) → any is_lowered (items_at_of 2 n) ≡ false → rewrite c n ≡ unchanged n
  unfolding rewrite step_declaration declaration declaration_makes declaration_excludes
  declaration_kept n k w h =
      rw (rule_4 n k, rewrite, refuses_none n h, step_declaration)
      (step_same (declaration_makes c n) (declaration_excludes c n) (declaration c n) n
      (gather_none is_lowered (λ d. cond (is_lowered d) (declarator_makes c (node_at_of 0 d) (node_at_of 1 d)) Items.none) (λ d e. rw e) (items_at_of 2 n) h)
      (gather_none is_lowered (λ d. gather (excluded_for c) (lowered_in c d)) (λ d e. ap (gather (excluded_for c)) (lowered_in_lem d e) ∙ none_in (excluded_for c)) (items_at_of 2 n) h)
      (change_items_same 2 (gather (declarators c)) n (gather_kept is_lowered (declarators c) (λ d e. kept_one d e) (items_at_of 2 n) w h)))

  -- an assignment without an object rest below its target
  pub assignment_kept : (n : Node) → is 27 n ≡ true → has_object_rest (target n) ≡ false → rewrite c n ≡ unchanged n
  unfolding rewrite step_assignment
  assignment_kept n k h =
      rw (rule_27 n k, rewrite, over_none (depth (target n)) (target n) h, step_assignment, top_none (target n) h, h) refl

  pub function_kept : (n : Node) → is 14 n ≡ true → stands 5 n && any is_moved (items_at_of 3 n) ≡ false → rewrite c n ≡ unchanged n
  unfolding rewrite function function_makes each
  function_kept n k h =
      rw (rule_14 n k, rewrite)
      (rewritten_same (function_makes c n) (function c n) n
      (by_test (stands 5 n)
      (λ e.
      let z : any is_moved (items_at_of 3 n) ≡ false = rw e at h in
      rw (e, moved_none (items_at_of 3 n) z) refl)
      (λ e. rw e refl))
      (rw h refl))

  pub arrow_kept : (n : Node) → is 17 n ≡ true → any is_moved (items_at_of 0 n) ≡ false → rewrite c n ≡ unchanged n
  unfolding rewrite arrow arrow_makes each
  arrow_kept n k h = rw (rule_17 n k, rewrite) (rewritten_same (arrow_makes c n) (arrow c n) n (rw (moved_none (items_at_of 0 n) h) refl) (rw h refl))

  pub catch_kept : (n : Node) → is 10 n ≡ true → is_moved (node_at_of 0 n) ≡ false → rewrite c n ≡ unchanged n
  unfolding rewrite catch catch_makes moved_from each
  catch_kept n k h = rw (rule_10 n k, rewrite) (rewritten_same (catch_makes c n) (catch c n) n (rw h refl) (rw h refl))

  -- a head that declares, none of whose patterns is moved
  pub declaring_kept : (n : Node) → rule_of (kind n) ≡ fors → is 4 (node_at_of 1 n) ≡ true → any is_moved (items_at_of 2 (node_at_of 1 n)) ≡ false → rewrite c n ≡ unchanged n
  unfolding rewrite step_for declaring_head declaring_makes each
  declaring_kept n k d h =
      rw (k, rewrite, d, step_for)
      (rewritten_same (declaring_makes c n) (declaring_head c n) n (rw (moved_none (items_at_of 2 (node_at_of 1 n)) h) refl) (rw h refl))

  -- a head that assigns, without an object rest below its target
  pub assigning_kept : (n : Node) → rule_of (kind n) ≡ fors → is 4 (node_at_of 1 n) ≡ false → has_object_rest (node_at_of 1 n) ≡ false → rewrite c n ≡ unchanged n
  unfolding rewrite step_for assigning_head assigning_makes
  assigning_kept n k d h =
      rw (k, rewrite, d, step_for, over_none (depth (node_at_of 1 n)) (node_at_of 1 n) h)
      (rewritten_same (assigning_makes c n) (assigning_head c n) n (rw h refl) (rw h refl))
