-- The weight falls at each step of the walk. So more fuel changes nothing, and there is one walk.
-- Assumes nothing.
use mathlib.Core.Path.{◌≡◌, refl, ◌∙◌}
use mathlib.Core.Bool.{Bool, true, false, cond, ◌||◌}
use Prim.Native.Nat.{ℕ, zero, suc, ◌≤◌, ◌<◌}
use native.Mathlib.Omega.{arith}
use lib.Dec.{eqb}
use Rattle.tree.specs.Tree.{Node}
use Rattle.lowering.specs.Parts.{kind, is, node_at_of}
use Rattle.lowering.specs.Made.{Context}
use Rattle.lowering.specs.Patterns.{has_object_rest, has_array_rest_over_object_rest}
use Rattle.lowering.specs.Declarations.{declaration_refusal}
use Rattle.lowering.specs.Assignments.{is_top, target, top_refusal}
use Rattle.lowering.specs.Walk.{Walked, Rule, rule_of, step_declaration, step_top, step_assignment, step_for, rewrite, within, inside, walk}
use Rattle.lowering.specs.Walk.Rule.{literals, declarations, assignments, functions, arrows, catches, fors, nowhere}
use Rattle.lowering.specs.Weight.{is_head, weight, walked}
use Rattle.lowering.proofs.All.{Each, weaker_each, inside_same}
use Rattle.lowering.proofs.Cases.{by_number, by_test, by_rule_lem}
use Rattle.lowering.proofs.Weights.{weight_pos, parts_fall}
use Rattle.lowering.proofs.WeightLiterals.{literal_falls}
use Rattle.lowering.proofs.WeightHeads.{function_falls, arrow_falls, catch_falls, declaring_falls, assigning_falls}
use Rattle.lowering.proofs.WeightAssignments.{top_falls, nested_falls, declaration_falls}

-- each part of m weighs less than n
abbrev pub Light : Node → Node → Type 0
Light n m = Each (λ x. weight x < weight n) m

-- ---- the kinds of the rules

-- what a rule says of the tests of the kind: 4, 27, and the heads
abbrev Kinds : Rule → Bool → Bool → Bool → Type 0
Kinds literals d a h = Unit {0}
Kinds declarations d a h = d ≡ true
Kinds assignments d a h = a ≡ true
Kinds functions d a h = h ≡ true
Kinds arrows d a h = h ≡ true
Kinds catches d a h = h ≡ true
Kinds fors d a h = h ≡ true
Kinds nowhere d a h = Unit {0}

kinds : (k : ℕ) → Kinds (rule_of k) (eqb k 4) (eqb k 27) (is_head k)
unfolding rule_of is_head
kinds k = go (eqb k 24) (eqb k 4) (eqb k 27) (eqb k 14) (eqb k 17) (eqb k 10) (eqb k 7) (eqb k 8)
  where
    go : (l d a f r c i o : Bool)
        → Kinds (cond l literals (cond d declarations (cond a assignments (cond f functions (cond r arrows (cond c catches (cond (i || o) fors nowhere))))))) d a (i || o || c || f || r)
    go true d a f r c i o = tt
    go false true a f r c i o = refl
    go false false true f r c i o = refl
    go false false false true r c true o = refl
    go false false false true r c false true = refl
    go false false false true r true false false = refl
    go false false false true r false false false = refl
    go false false false false true c true o = refl
    go false false false false true c false true = refl
    go false false false false true true false false = refl
    go false false false false true false false false = refl
    go false false false false false true true o = refl
    go false false false false false true false true = refl
    go false false false false false true false false = refl
    go false false false false false false true o = refl
    go false false false false false false false true = refl
    go false false false false false false false false = tt

kinds_at_lem : (k : ℕ) (r : Rule) → rule_of k ≡ r → Kinds r (eqb k 4) (eqb k 27) (is_head k)
kinds_at_lem k r e = rw e at (kinds k)

-- ---- the steps

declarations_fall : (c : Context) (n : Node) → is 4 n ≡ true → Light n (step_declaration c n).result
unfolding step_declaration
declarations_fall c n e =
    by_number (declaration_refusal c n) (λ r h. rw (h, Each) tt) (λ h. rw (h, Each) (declaration_falls c n e))

top_fall : (c : Context) (n : Node) → is 27 n ≡ true → is_top (target n) ≡ true → Light n (step_top c n).result
unfolding step_top
top_fall c n e h =
    by_number (top_refusal n) (λ r l. rw (l, Each) tt) (λ l. rw (l, Each) (top_falls c n e h))

assignments_fall : (c : Context) (n : Node) → is 27 n ≡ true → Light n (step_assignment c n).result
unfolding step_assignment
assignments_fall c n e =
    by_test (has_array_rest_over_object_rest (target n))
    (λ a. rw (a, Each) tt)
    (λ a. rw (a, Each)
    (by_test (is_top (target n))
    (λ t. rw (t, Each) (top_fall c n e t))
    (λ t. rw (t, Each)
    (by_test (has_object_rest (target n))
    (λ h. rw (h, Each) (nested_falls c n e t h a))
    (λ h. rw (h, Each) (parts_fall n))))))

fors_fall : (c : Context) (n : Node) → is_head (kind n) ≡ true → Light n (step_for c n).result
unfolding step_for
fors_fall c n e =
    by_test (is 4 (node_at_of 1 n))
    (λ d. rw (d, Each) (declaring_falls c n e))
    (λ d. rw (d, Each)
    (by_test (has_array_rest_over_object_rest (node_at_of 1 n))
    (λ a. rw (a, Each) tt)
    (λ a. rw (a, Each) (assigning_falls c n e))))

-- each part of what the step leaves weighs less than the node
pub falls : (c : Context) (n : Node) → Light n (rewrite c n).result
unfolding rewrite is
falls c n =
    by_rule_lem (rule_of (kind n))
    (λ e. rw (e, Each) (literal_falls n))
    (λ e. rw (e, Each) (declarations_fall c n (kinds_at_lem (kind n) declarations e)))
    (λ e. rw (e, Each) (assignments_fall c n (kinds_at_lem (kind n) assignments e)))
    (λ e. rw (e, Each) (function_falls c n (kinds_at_lem (kind n) functions e)))
    (λ e. rw (e, Each) (arrow_falls c n (kinds_at_lem (kind n) arrows e)))
    (λ e. rw (e, Each) (catch_falls c n (kinds_at_lem (kind n) catches e)))
    (λ e. rw (e, Each) (fors_fall c n (kinds_at_lem (kind n) fors e)))
    (λ e. rw (e, Each) (parts_fall n))

-- ---- the walk

-- two numbers of levels, both at least the weight, give one result
pub walk_same : (f g : ℕ) (c : Context) (n : Node) → weight n ≤ f → weight n ≤ g → walk f c n ≡ walk g c n
unfolding walk
walk_same zero g c n h k = let w = weight_pos n in absurd (omega arith)
walk_same (suc f) zero c n h k = let w = weight_pos n in absurd (omega arith)
walk_same (suc f) (suc g) c n h k =
    let s = rewrite c n in
    let r = s.result in
    inside_same (λ i j m. walk f (within c r i j) m) (λ i j m. walk g (within c r i j) m) s.note r
    (weaker_each (λ m. weight m < weight n) (λ m. (i j : ℕ) → walk f (within c r i j) m ≡ walk g (within c r i j) m)
    (λ m l i j. walk_same f g (within c r i j) m (omega arith) (omega arith))
    r (falls c n))

-- more levels than the weight change nothing
pub walk_more : (f : ℕ) (c : Context) (n : Node) → weight n ≤ f → walk f c n ≡ walked c n
unfolding walked
walk_more f c n h = walk_same f (weight n) c n h (omega arith)

-- the walk as a recursion that counts nothing: rewrite here, then walk the parts of the result
pub walked_is : (c : Context) (n : Node)
    → walked c n ≡ inside (rewrite c n).note (λ i j m. walked (within c (rewrite c n).result i j) m) (rewrite c n).result
unfolding walked walk
walked_is c n =
    let s = rewrite c n in
    let r = s.result in
    walk_same (weight n) (suc (weight n)) c n (omega arith) (omega arith)
    ∙ inside_same (λ i j m. walk (weight n) (within c r i j) m) (λ i j m. walked (within c r i j) m) s.note r
    (weaker_each (λ m. weight m < weight n) (λ m. (i j : ℕ) → walk (weight n) (within c r i j) m ≡ walked (within c r i j) m)
    (λ m l i j. walk_same (weight n) (weight m) (within c r i j) m (omega arith) (omega arith))
    r (falls c n))

-- ---- there is one walk

-- whatever satisfies that recursion is the walk
module _ (w : Context → Node → Walked)
    (is-walk : (c : Context) (n : Node) → w c n ≡ inside (rewrite c n).note (λ i j m. w (within c (rewrite c n).result i j) m) (rewrite c n).result) where
  only_from : (f : ℕ) (c : Context) (n : Node) → weight n ≤ f → w c n ≡ walk f c n
  unfolding walk
  only_from zero c n h = let p = weight_pos n in absurd (omega arith)
  only_from (suc f) c n h =
      let s = rewrite c n in
      let r = s.result in
      is-walk c n
      ∙ inside_same (λ i j m. w (within c r i j) m) (λ i j m. walk f (within c r i j) m) s.note r
      (weaker_each (λ m. weight m < weight n) (λ m. (i j : ℕ) → w (within c r i j) m ≡ walk f (within c r i j) m)
      (λ m l i j. only_from f (within c r i j) m (omega arith))
      r (falls c n))

  pub walked_only : (c : Context) (n : Node) → w c n ≡ walked c n
  unfolding walked
  walked_only c n = only_from (weight n) c n (omega arith)
