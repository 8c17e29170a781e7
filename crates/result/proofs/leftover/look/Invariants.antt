use Rattle.result.proofs.Looking as law
use Rattle.result.specs.Leftover.{leftover}
use lib.ListN.{length}
use Prim.Native.Nat.{◌+◌, ◌-◌}
use Rattle.result.proofs.leftover.look.Given as goal

abbrev pub invariant-loop-e : goal.invariant-loop-e
invariant-loop-e l = law.Looking l.tree l.frames l.cursor l.met (length l.initial.frames) (leftover l.tree)

abbrev pub decreases-loop-e : goal.decreases-loop-e
decreases-loop-e l = (length l.tree - l.cursor.at) + l.cursor.deep
