use Rattle.std.proofs.Common.{◌≡◌, ℕ, List, drop}
use Rattle.sink.specs.Machine.{state_of, steps, lists}
use Rattle.sink.proofs.Sink.listed_copy.Given as goal

abbrev pub invariant-loop-b : goal.invariant-loop-b
invariant-loop-b l = (t w : List ℕ) → steps (state_of t l.list w l.self) (lists (drop l.b-index l.b-items)) ≡ steps (state_of t l.initial.list w l.initial.self) (lists l.b-items)
