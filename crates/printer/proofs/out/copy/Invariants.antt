use Rattle.printer.proofs.PiecesWritten as law
use Rattle.printer.specs.Stacks.{write, buffer_in}
use mathlib.Core.Path.{◌≡◌}
use Prim.Native.Nat.{◌-◌, ◌≤◌}
use lib.ListN.{length, take, drop}
use Rattle.printer.proofs.out.copy.Given as goal

abbrev pub invariant-loop-i : goal.invariant-loop-i
invariant-loop-i l = law.Copying l.tree l.end (length l.initial.out) (write (buffer_in l.initial.out l.initial.s) (take l.n (drop l.at l.tree))) l.out l.s l.i

abbrev pub decreases-loop-i : goal.decreases-loop-i
decreases-loop-i l = l.end - l.i

abbrev pub invariant-loop-i-2 : goal.invariant-loop-i-2
invariant-loop-i-2 l = (write (buffer_in l.out l.s) (take (l.end - l.i) (drop l.i l.tree)) ≡ write (buffer_in l.initial.out l.initial.s) (take l.n (drop l.at l.tree))) × (length l.out ≡ length l.initial.out) × (l.end - l.i ≤ length l.tree - l.i)

abbrev pub decreases-loop-i-2 : goal.decreases-loop-i-2
decreases-loop-i-2 l = l.end - l.i
