use Prim.Native.Nat.{◌-◌}
use Rattle.pattern.specs.Tally.{tally_values}
use Rattle.pattern.proofs.KeyCases as law
use Rattle.pattern.proofs.keys.keys.Given as goal

abbrev pub invariant-loop : goal.invariant-loop
invariant-loop l = law.KeysLeft l.tree l.left l.at l.below l.run.holes (l.run.count - l.counter) l.p (tally_values l.t)
