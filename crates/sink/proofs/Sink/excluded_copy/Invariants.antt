use Rattle.std.proofs.Common.{◌≡◌, ℕ, List, drop}
use Rattle.sink.specs.Machine.{state_of, steps, excludes}
use Rattle.sink.proofs.Sink.excluded_copy.Given as goal

abbrev pub invariant-loop-b : goal.invariant-loop-b
invariant-loop-b l = (t x : List ℕ) → steps (state_of t x l.work l.self) (excludes (drop l.b-index l.b-items)) ≡ steps (state_of t x l.initial.work l.initial.self) (excludes l.b-items)
