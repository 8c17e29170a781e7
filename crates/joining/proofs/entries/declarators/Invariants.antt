use Prim.Native.Nat.{◌+◌, ◌-◌}
use lib.ListN.{length}
use Rattle.joining.proofs.Listing as law
use Rattle.joining.proofs.entries.declarators.Given as goal

abbrev pub invariant-loop-e : goal.invariant-loop-e
invariant-loop-e l = law.Declaring l.list l.initial.frames l.initial.seen l.frames l.seen l.cursor l.at

abbrev pub decreases-loop-e : goal.decreases-loop-e
decreases-loop-e l = (length l.list - l.cursor.at) + l.cursor.deep
