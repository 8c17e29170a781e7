use Prim.Native.Nat.{◌-◌}
use Rattle.pattern.specs.Tally.{tally_values}
use Rattle.pattern.proofs.RestsFound as law
use Rattle.pattern.proofs.rests.+rests.Given as goal

abbrev pub invariant-loop : goal.invariant-loop
invariant-loop l = law.ValuesLeft l.tree l.left l.at l.below (l.end - l.counter) l.p (tally_values l.t)

abbrev pub invariant-loop-2 : goal.invariant-loop-2
invariant-loop-2 l = law.ItemsLeft l.tree l.left l.at l.below (l.end - l.counter) l.p (tally_values l.t)

abbrev pub decreases-rests : goal.decreases-rests
decreases-rests l = l.left
