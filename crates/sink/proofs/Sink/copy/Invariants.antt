use Rattle.std.proofs.Common.{◌≡◌, ℕ, List, drop}
use Rattle.sink.specs.Machine.{state_of, steps, puts}
use Rattle.sink.proofs.Sink.copy.Given as goal

abbrev pub invariant-loop-b : goal.invariant-loop-b
invariant-loop-b l = (x w : List ℕ) → steps (state_of l.out x w l.self) (puts (drop l.b-index l.bytes)) ≡ steps (state_of l.initial.out x w l.initial.self) (puts l.bytes)
