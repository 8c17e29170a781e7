-- For every tree that is accepted the events of its walk end in the definition's outcome, or the walk refuses as the definition does;
-- each temporary of the list stands in the tree, and the marks of new statements count up from the next mark of the tree.
-- Assumes nothing.
use mathlib.Core.Path.{◌≡◌}
use mathlib.Core.List.{List}
use Prim.Native.Nat.{ℕ, suc, ◌+◌, ◌<◌, ◌≤◌}
use native.Mathlib.Omega.{arith}
use Rattle.tree.specs.Tree.{Node, marks}
use Rattle.tree.specs.Grammar.{root}
use Rattle.tree.specs.Grammar.Stage.{input}
use Rattle.tree.specs.Read.{read_tree}
use Rattle.tree.specs.Read.Got.{got}
use Rattle.tree.specs.WellFormed.{Bytes, Fits, Counts}
use Rattle.tree.proofs.Sound.{Accepted, sound}
use Rattle.lowering.specs.Weight.{walked}
use Rattle.lowering.specs.Collect.{Name, new_in, bare, visits, first_refusal, numbered}
use Rattle.lowering.specs.Answer.{Lent, Result, top, after_walk, outcome_of}
use Rattle.lowering.proofs.Occurs.{occurs}
use Rattle.lowering.proofs.Accepted.{accepted_good}
use Rattle.lowering.proofs.DistinctNames.{accepted_names_apart}
use Rattle.lowering.proofs.Used.{no_temporary}
use Rattle.sink.specs.Machine.{start, steps, finished}
use Rattle.direct.specs.Events.{deeds}
use Rattle.outcome.specs.Named.{first_refused, events_in, outcome_from}
use Rattle.outcome.proofs.GoodNodes.{Good}
use Rattle.outcome.proofs.Potential.{pot}
use Rattle.outcome.proofs.PotentialRules.{spent}
use Rattle.outcome.proofs.OutcomeGiven.{outcome_is, refusal_is}
use Rattle.outcome.proofs.FittingIsGood.{fits_good}
use Rattle.outcome.proofs.Room.{pot_most, pot_past}
use Rattle.outcome.proofs.WalkedForms.{walked_formed}
use Rattle.outcome.proofs.Uses.{used, calm, walked_used}
use Rattle.outcome.proofs.MarksKept.{Held, walked_keeps}
use Rattle.tree.proofs.EncodedLengths.{marks_long, counts_long}
use Rattle.outcome.proofs.MarksInOrder.{counts_held, from, new_marks_lem, numbered_marks}

-- ---- what holds of an accepted tree

module _ (limit : ℕ) (tree : List ℕ) (bytes : Bytes tree) (n : Node) (q next : ℕ) (read : read_tree input limit tree ≡ got n q next) where
  taken : Accepted input limit tree n q next
  taken = sound input limit tree n q next bytes read

  pub accepted_fits : Fits input root n
  accepted_fits = taken.well_formed.fits

  pub accepted_is_good : Good n
  accepted_is_good = (fits_good root n accepted_fits).0

  clean : (a : Name) → occurs a n ≡ 0
  clean a = no_temporary a n (accepted_good limit tree n q next read).fine

  pub accepted_most : (x : ℕ) → pot x n ≤ 1
  accepted_most x = pot_most root n accepted_fits taken.positions x

  pub accepted_past : (x : ℕ) → 16384 ≤ x → pot x n ≡ 0
  accepted_past x h = pot_past root n accepted_fits taken.positions x (let s = taken.well_formed.short in omega arith)

  pub accepted_next : next ≤ 16385
  accepted_next =
      let s = taken.well_formed.short in
      let c = counts_long 1 (marks n) next taken.well_formed.marked in
      let l = marks_long n in
      omega arith

  accepted_held : Held (λ (m : ℕ). m < 65536) n
  accepted_held = counts_held 65536 1 n next (let l = accepted_next in omega arith) taken.well_formed.marked

  -- ---- the walk of an accepted tree

  -- the run of its deeds ends in the outcome of the definition, where nothing is refused
  pub accepted_outcome : (options : ℕ) (s : Lent) → 49152 ≤ s.work_slice → first_refused (deeds next 0 (walked top n)) ≡ 0
      → outcome_from options (finished (steps (start s.tree_slice s.list_slice s.work_slice next) (events_in (deeds next 0 (walked top n)))))
      ≡ outcome_of s (after_walk options s next (walked top n))
  accepted_outcome =
      outcome_is pot spent n next accepted_is_good accepted_held clean accepted_most accepted_past (accepted_names_apart limit tree n q next read) accepted_next

  -- and where something is, the first refusal is the answer
  pub accepted_refusal : (options : ℕ) (s : Lent) (r : ℕ) → first_refused (deeds next 0 (walked top n)) ≡ suc r → after_walk options s next (walked top n) ≡ Result.refusal (suc r)
  accepted_refusal =
      refusal_is pot spent n next accepted_is_good accepted_held clean accepted_most accepted_past (accepted_names_apart limit tree n q next read) accepted_next

  -- ---- the temporaries of the list

  -- each of them stands in the tree, where nothing is refused
  pub accepted_used : (a : Name) → first_refusal (visits next 0 (walked top n)) ≡ 0 → 0 < used a (visits next 0 (walked top n)) → 0 < occurs a (bare next (walked top n))
  accepted_used a h u = walked_used a top n accepted_is_good next 0 next (calm (walked top n) next 0 h) u

  -- ---- the marks of the result

  -- those that are not below the next mark of the tree are the marks of the new statements: they count up from it, in order
  pub accepted_marks : (ns : List Name) → Counts next (from next (marks (numbered ns (bare next (walked top n))))) (next + new_in (walked top n))
  accepted_marks ns =
      let some = counts_long 1 (marks n) next taken.well_formed.marked in
      let held : Held (λ (m : ℕ). m < next) n = counts_held next 1 n next (omega arith) taken.well_formed.marked in
      rw (numbered_marks ns next (walked top n) (walked_formed top n accepted_is_good))
      (new_marks_lem next next (walked top n) (omega arith) (walked_keeps (λ (m : ℕ). m < next) (omega arith) top n held))
