use Prim.Native.Nat.{◌-◌}
use Rattle.pattern.proofs.MovesCounted as law
use Rattle.pattern.proofs.moves.+moved.Given as goal

abbrev pub invariant-loop : goal.invariant-loop
invariant-loop l = law.ItemsLeft l.tree l.left l.at l.below (l.end - l.counter) l.p l.t

abbrev pub decreases-moved : goal.decreases-moved
decreases-moved l = l.left
