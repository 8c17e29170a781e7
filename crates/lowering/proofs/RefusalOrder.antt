-- The order of the refusals, by cases: what is asked before the tree is read, what is left then, and what a higher limit changes.
-- Assumes nothing.
use mathlib.Core.Path.{◌≡◌, refl, ap}
use mathlib.Core.Bool.{true, false}
use mathlib.Core.List.{List}
use mathlib.Core.Logic.{⊎_elim}
use Prim.Native.Nat.{ℕ, ◌+◌, ◌≤◌, ◌<◌}
use native.Mathlib.Omega.{arith}
use lib.Dec.{ltb}
use borrow.Author.Tests.{lt-ltb, le-ltb, ne_eqb}
use Rattle.tree.specs.Tree.{Node}
use Rattle.tree.specs.Grammar.Stage.{input}
use Rattle.tree.specs.Read.{Got, read_tree}
use Rattle.tree.proofs.Limit.{tree_limit_lem}
use Rattle.lowering.specs.Refusals.{limit_outside, unknown_options, small_work, deeper_tree}
use Rattle.lowering.specs.Answer.{Lent, Result, highest_limit, limit_refused, in_force, after_reading, lowering, outcome_of, outcome}
use Rattle.lowering.specs.Answer.Result.{refusal}
use Rattle.lowering.specs.Table.{Admitted}
use Rattle.lowering.proofs.Cases.{by_test}

-- ---- by cases

module _ (limit options : ℕ) (tree : List ℕ) (s : Lent) where
  -- what holds of the refusals in front and of what comes of the reading holds of the lowering
  pub by_order : (P : Result → Type 0) → P (refusal limit_outside) → P (refusal unknown_options) → P (refusal small_work) → P (after_reading (in_force options) s (read_tree input limit tree))
      → P (lowering limit options tree s)
  unfolding lowering
  by_order P a b c d =
      by_test (limit_refused limit)
      (λ e. rw (e, lowering) a)
      (λ e. rw (e, lowering)
      (by_test (ltb 15 options)
      (λ f. rw f b)
      (λ f. rw f
      (by_test (ltb s.work_slice 65536)
      (λ g. rw g c)
      (λ g. rw g d)))))

  pub limit_outside_lem : limit_refused limit ≡ true → lowering limit options tree s ≡ refusal limit_outside
  unfolding lowering
  limit_outside_lem e = rw (e, lowering) refl

  pub options_unknown : limit_refused limit ≡ false → 15 < options → lowering limit options tree s ≡ refusal unknown_options
  unfolding lowering
  options_unknown e h = rw (e, lowering, lt-ltb 15 options h) refl

  pub work_small : limit_refused limit ≡ false → options ≤ 15 → s.work_slice < 65536 → lowering limit options tree s ≡ refusal small_work
  unfolding lowering
  work_small e k h = rw (e, lowering, le-ltb 15 options k, lt-ltb s.work_slice 65536 h) refl

  pub reading_decides : Admitted limit options s → lowering limit options tree s ≡ after_reading (in_force options) s (read_tree input limit tree)
  unfolding lowering
  reading_decides a = rw (a.allowed, lowering, le-ltb 15 options a.known, le-ltb s.work_slice 65536 a.roomy) refl

-- ---- higher limits

limit_inside : (limit : ℕ) → 0 < limit → limit ≤ highest_limit → limit_refused limit ≡ false
limit_inside limit low high = rw (ne_eqb limit 0 (λ e. omega arith), le-ltb highest_limit limit high) refl

-- an answer other than 4 stays at every higher limit, with all that was lent
pub answer_stays : (limit more options : ℕ) (tree : List ℕ) (s : Lent) → 0 < limit → limit + more ≤ highest_limit
    → ((outcome limit options tree s).answer ≡ deeper_tree → ⊥) → outcome (limit + more) options tree s ≡ outcome limit options tree s
unfolding outcome lowering after_reading outcome_of
answer_stays limit more options tree s low high other =
    let a : limit_refused limit ≡ false = limit_inside limit low (omega arith) in
    let b : limit_refused (limit + more) ≡ false = limit_inside (limit + more) (omega arith) high in
    by_test (ltb 15 options)
    (λ f. rw (a, b, lowering, f) refl)
    (λ f. by_test (ltb s.work_slice 65536)
    (λ g. rw (a, b, lowering, f, g) refl)
    (λ g. ⊎_elim
    (λ deep. absurd (other (rw (a, lowering, f, g) (ap (λ (r : Got Node). (outcome_of s (after_reading (in_force options) s r)).answer) deep))))
    (λ same. rw (a, b, lowering, f, g) (ap (λ (r : Got Node). outcome_of s (after_reading (in_force options) s r)) same))
    (tree_limit_lem tree input more limit)))
