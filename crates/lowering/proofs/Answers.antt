-- Facts about the answer: what it can be, what a refusal leaves, what options change, and that there is one for each input.
-- Assumes nothing.
use mathlib.Core.Path.{◌≡◌, refl, sym, ap, ◌∙◌}
use mathlib.Core.Bool.{Bool, true, false, cond}
use mathlib.Core.List.{List, [], ◌∷◌}
use Prim.Native.Nat.{ℕ, zero, suc, ◌+◌, ◌-◌, ◌%◌, ◌≤◌, ◌<◌}
use native.Mathlib.Omega.{arith}
use lib.Dec.{eqb, ltb}
use lib.ListN.{replicate}
use borrow.Author.Tests.{le-ltb}
use Rattle.tree.specs.Tree.{Node}
use Rattle.tree.specs.Grammar.{among}
use Rattle.tree.specs.Grammar.Stage.{input}
use Rattle.tree.specs.Read.{Got, read_tree}
use Rattle.tree.specs.Read.Got.{got, refused}
use Rattle.tree.specs.Read.Refusal.{not_a_tree, too_deep}
use Rattle.lowering.specs.Made.{Context}
use Rattle.lowering.specs.Parts.{kind, is, node_at_of}
use Rattle.lowering.specs.Patterns.{has_object_rest, has_array_rest_over_object_rest}
use Rattle.lowering.specs.Declarations.{declaration_refusal}
use Rattle.lowering.specs.Assignments.{is_top, target, top_refusal}
use Rattle.lowering.specs.Walk.{Note, Walked, rule_of, rewrite, within, inside, walk, step_declaration, step_top, step_assignment, step_for}
use Rattle.lowering.specs.Weight.{weight, walked}
use Rattle.lowering.specs.Collect.{Visit, bare, visits, first_refusal, entries, excluded_in}
use Rattle.lowering.specs.Refusals.{is_refusal, is_answer, too_long_of}
use Rattle.lowering.specs.Answer.{Lent, Result, Outcome, fits, fitted, collected, after_walk, top, limit_refused, in_force, after_reading, lowering, filled, outcome_of, outcome}
use Rattle.lowering.specs.Answer.Result.{refusal, lowered}
use Rattle.lowering.proofs.Cases.{by_test, by_rule_lem}
use Rattle.lowering.proofs.KeyRefusals.{by_keys, declaration_by, top_by}
use Rattle.lowering.proofs.Falls.{walk_more, walked_only}
use Rattle.lowering.proofs.Notes.{AllNotes, in_walked}
use Rattle.lowering.proofs.RefusalOrder.{by_order}

-- ---- the walk refuses by 5, 6 or 11 and by nothing else

pub data ByWalk : ℕ → Type 0 where
  no : ByWalk 0
  five : ByWalk 5
  six : ByWalk 6
  eleven : ByWalk 11

abbrev Refuses : Note → Type 0
Refuses note = ByWalk note.refusal

module _ (c : Context) where
  declaration_refuses : (n : Node) → Refuses (step_declaration c n).note
  unfolding step_declaration
  declaration_refuses n =
      by_keys (declaration_refusal c n) (declaration_by c n) (λ e. rw (e, step_declaration) no) (λ e. rw (e, step_declaration) six) (λ e. rw (e, step_declaration) eleven)

  top_refuses : (n : Node) → Refuses (step_top c n).note
  unfolding step_top
  top_refuses n = by_keys (top_refusal n) (top_by n) (λ e. rw (e, step_top) no) (λ e. rw (e, step_top) six) (λ e. rw (e, step_top) eleven)

  assignment_refuses : (n : Node) → Refuses (step_assignment c n).note
  unfolding step_assignment
  assignment_refuses n =
      by_test (has_array_rest_over_object_rest (target n))
      (λ a. rw (a, step_assignment) five)
      (λ a. rw (a, step_assignment) (by_test (is_top (target n)) (λ t. rw t (top_refuses n)) (λ t. rw t (by_test (has_object_rest (target n)) (λ h. rw h no) (λ h. rw h no)))))

  for_refuses : (n : Node) → Refuses (step_for c n).note
  unfolding step_for
  for_refuses n = by_test (is 4 (node_at_of 1 n)) (λ d. rw (d, step_for) no) (λ d. rw (d, step_for) (by_test (has_array_rest_over_object_rest (node_at_of 1 n)) (λ a. rw a five) (λ a. rw a no)))

  rewrite_refuses : (n : Node) → Refuses (rewrite c n).note
  unfolding rewrite
  rewrite_refuses n =
      by_rule_lem (rule_of (kind n))
      (λ e. rw (e, rewrite) no)
      (λ e. rw (e, rewrite) (declaration_refuses n))
      (λ e. rw (e, rewrite) (assignment_refuses n))
      (λ e. rw (e, rewrite) no)
      (λ e. rw (e, rewrite) no)
      (λ e. rw (e, rewrite) no)
      (λ e. rw (e, rewrite) (for_refuses n))
      (λ e. rw (e, rewrite) no)

first_refuses : (vs : List Visit) → AllNotes Refuses vs → ByWalk (first_refusal vs)
unfolding first_refusal
first_refuses [] h = no
first_refuses (v ∷ vs) h =
    by_test (eqb v.note.refusal 0) (λ e. rw (e, first_refusal) (first_refuses vs h.1)) (λ e. rw (e, first_refusal) h.0)

pub walk_refuses : (next m : ℕ) (c : Context) (n : Node) → ByWalk (first_refusal (visits next m (walked c n)))
walk_refuses next m c n = first_refuses (visits next m (walked c n)) (in_walked Refuses (λ k. no) (λ d k. rewrite_refuses d k) c n next m)

-- ---- the answer is 0 or a number of the table

-- a result is a lowering, or a refusal of the table
abbrev pub InTable : Result → Type 0
InTable (refusal n) = is_refusal n ≡ true
InTable (lowered helpers options t l) = Unit {0}

fitted_in : (s : Lent) (h o : ℕ) (t l : List ℕ) → InTable (fitted s h o t l)
unfolding fitted among
fitted_in s h o t l = go (fits s t l)
  where
    go : (b : Bool) → InTable (cond b (lowered h o t l) (refusal too_long_of))
    go true = tt
    go false = refl

after_walk_in : (o : ℕ) (s : Lent) (next : ℕ) (n : Node) → InTable (after_walk o s next (walked top n))
unfolding after_walk collected among
after_walk_in o s next n = go (first_refusal (visits next 0 (walked top n))) (walk_refuses next 0 top n)
  where
    w : Walked
    w = walked top n

    go : (r : ℕ) → ByWalk r → InTable (elim r [
      | zero ↦ collected o s (bare next w) (entries (visits next 0 w)) (excluded_in (visits next 0 w))
      | suc m ↦ refusal (suc m)
    ])
    go r no = fitted_in s _ o _ _
    go r five = refl
    go r six = refl
    go r eleven = refl

reading_in : (o : ℕ) (s : Lent) (g : Got Node) → InTable (after_reading o s g)
unfolding after_reading among
reading_in o s (got n q next) = after_walk_in o s next n
reading_in o s (refused not_a_tree) = refl
reading_in o s (refused too_deep) = refl

pub in_table : (limit o : ℕ) (tree : List ℕ) (s : Lent) → InTable (lowering limit o tree s)
unfolding among
in_table limit o tree s = by_order limit o tree s InTable refl refl refl (reading_in (in_force o) s (read_tree input limit tree))

answer_in : (s : Lent) (r : Result) → InTable r → is_answer (outcome_of s r).answer ≡ true
unfolding outcome_of among
answer_in s (refusal n) h = by_test (eqb 0 n) (λ e. rw e refl) (λ e. rw e h)
answer_in s (lowered p o t l) h = refl

pub answer_is_one : (limit o : ℕ) (tree : List ℕ) (s : Lent) → is_answer (outcome limit o tree s).answer ≡ true
unfolding outcome
answer_is_one limit o tree s = answer_in s (lowering limit o tree s) (in_table limit o tree s)

-- ---- a refusal gives nothing: lengths and masks are 0, and the slices hold zeros

pub record Nothing (s : Lent) (o : Outcome) : Type 0 where
  pub helpers : o.helpers ≡ 0
  pub options : o.options ≡ 0
  pub tree_length : o.tree_length ≡ 0
  pub list_length_of : o.list_length_of ≡ 0
  pub tree_out : o.tree_out ≡ replicate s.tree_slice 0
  pub list_out : o.list_out ≡ replicate s.list_slice 0

pub zeros : (n : ℕ) → filled n [] ≡ replicate n 0
unfolding filled
zeros n = let z : n - 0 ≡ n = omega arith in ap (λ (m : ℕ). replicate m 0) z

refused_of : (s : Lent) (r : Result) → 0 < (outcome_of s r).answer → Nothing s (outcome_of s r)
unfolding outcome_of
refused_of s (refusal n) h =
    record { helpers = refl; options = refl; tree_length = refl; list_length_of = refl; tree_out = zeros s.tree_slice; list_out = zeros s.list_slice }
refused_of s (lowered p o t l) h = absurd (omega arith)

pub refusal_is_empty : (limit o : ℕ) (tree : List ℕ) (s : Lent) → 0 < (outcome limit o tree s).answer → Nothing s (outcome limit o tree s)
unfolding outcome
refusal_is_empty limit o tree s h = refused_of s (lowering limit o tree s) h

work_of : (s : Lent) (r : Result) → (outcome_of s r).work ≡ replicate s.work_slice 0
unfolding outcome_of
work_of s (refusal n) = zeros s.work_slice
work_of s (lowered p o t l) = zeros s.work_slice

-- work is zero after every call
pub work_is_zero : (limit o : ℕ) (tree : List ℕ) (s : Lent) → (outcome limit o tree s).work ≡ replicate s.work_slice 0
unfolding outcome
work_is_zero limit o tree s = work_of s (lowering limit o tree s)

-- ---- options change nothing but the options mask, which is those of them that are in force

abbrev pub with_options : ℕ → Result → Result
with_options o (refusal n) = refusal n
with_options o (lowered helpers p t l) = lowered helpers o t l

fitted_options : (s : Lent) (h o p : ℕ) (t l : List ℕ) → with_options p (fitted s h o t l) ≡ fitted s h p t l
unfolding fitted
fitted_options s h o p t l = go (fits s t l)
  where
    go : (b : Bool) → with_options p (cond b (lowered h o t l) (refusal 7)) ≡ cond b (lowered h p t l) (refusal 7)
    go true = refl
    go false = refl

walk_options : (s : Lent) (o p next : ℕ) (w : Walked) → with_options p (after_walk o s next w) ≡ after_walk p s next w
unfolding after_walk collected
walk_options s o p next w = go (first_refusal (visits next 0 w))
  where
    vs : List Visit
    vs = visits next 0 w

    go : (r : ℕ)
        → with_options p (elim r [ zero ↦ collected o s (bare next w) (entries vs) (excluded_in vs) | suc m ↦ refusal (suc m) ])
        ≡ elim r [ zero ↦ collected p s (bare next w) (entries vs) (excluded_in vs) | suc m ↦ refusal (suc m) ]
    go zero = fitted_options s _ o p _ _
    go (suc m) = refl

reading_options : (s : Lent) (o p : ℕ) (g : Got Node) → with_options p (after_reading o s g) ≡ after_reading p s g
unfolding after_reading
reading_options s o p (got n q next) = walk_options s o p next (walked top n)
reading_options s o p (refused r) = refl

pub options_only : (limit o p : ℕ) (tree : List ℕ) (s : Lent) → o ≤ 15 → p ≤ 15 → with_options (in_force p) (lowering limit o tree s) ≡ lowering limit p tree s
unfolding lowering
options_only limit o p tree s h k =
    by_test (limit_refused limit)
    (λ e. rw (e, lowering) refl)
    (λ e. rw (e, lowering, le-ltb 15 o h, le-ltb 15 p k)
    (by_test (ltb s.work_slice 65536)
    (λ f. rw f refl)
    (λ f. rw f (reading_options s (in_force o) (in_force p) (read_tree input limit tree)))))

-- with the retired option everything comes out as without it
pub retired : (limit o : ℕ) (tree : List ℕ) (s : Lent) → o + 8 ≤ 15 → outcome limit (o + 8) tree s ≡ outcome limit o tree s
unfolding outcome in_force
retired limit o tree s h =
    let same : (o + 8) % 8 ≡ o % 8 = omega arith in
    ap (outcome_of s)
    (sym (options_only limit o (o + 8) tree s (omega arith) h) ∙ ap (λ (m : ℕ). with_options m (lowering limit o tree s)) same ∙ options_only limit o o tree s (omega arith) (omega arith))

-- and the mask never shows it
mask_of_lem : (s : Lent) (m : ℕ) (r : Result) → (outcome_of s (with_options m r)).options ≤ m
unfolding outcome_of
mask_of_lem s m (refusal n) = omega arith
mask_of_lem s m (lowered h o t l) = omega arith

pub mask_at_most_7 : (limit o : ℕ) (tree : List ℕ) (s : Lent) → (outcome limit o tree s).options ≤ 7
unfolding outcome outcome_of in_force
mask_at_most_7 limit o tree s =
    by_order limit o tree s (λ x. (outcome_of s x).options ≤ 7)
    (omega arith)
    (omega arith)
    (omega arith)
    (let r : Result = after_reading (in_force o) s (read_tree input limit tree) in
    let e : (outcome_of s (with_options (in_force o) r)).options ≡ (outcome_of s r).options =
    ap (λ (x : Result). (outcome_of s x).options) (reading_options s (in_force o) (in_force o) (read_tree input limit tree)) in
    let m : (outcome_of s (with_options (in_force o) r)).options ≤ o % 8 = mask_of_lem s (in_force o) r in
    omega arith)

-- ---- there is one answer for each input

-- it does not depend on how far down the walk may go, as long as that is enough
pub any_fuel : (o : ℕ) (s : Lent) (next f : ℕ) (n : Node) → weight n ≤ f → after_walk o s next (walk f top n) ≡ after_walk o s next (walked top n)
any_fuel o s next f n h = ap (after_walk o s next) (walk_more f top n h)

-- and whatever walks as the rules say, node by node, gives the same
pub one_answer : (w : Context → Node → Walked)
    → ((c : Context) (n : Node) → w c n ≡ inside (rewrite c n).note (λ i j m. w (within c (rewrite c n).result i j) m) (rewrite c n).result)
    → (o : ℕ) (s : Lent) (next : ℕ) (n : Node) → after_walk o s next (w top n) ≡ after_walk o s next (walked top n)
one_answer w is-walk o s next n = ap (after_walk o s next) (walked_only w is-walk top n)
