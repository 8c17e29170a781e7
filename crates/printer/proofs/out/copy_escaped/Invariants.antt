use Rattle.printer.specs.Stacks.{write, buffer_in}
use mathlib.Core.Path.{◌≡◌}
use Prim.Native.Nat.{◌-◌, ◌≤◌}
use lib.ListN.{length, take, drop}
use Rattle.printer.specs.Names.{escaped}
use Rattle.printer.proofs.out.copy_escaped.Given as goal

abbrev pub invariant-loop-i : goal.invariant-loop-i
invariant-loop-i l = (write (buffer_in l.out l.s) (escaped (take (l.end - l.i) (drop l.i l.tree))) ≡ write (buffer_in l.initial.out l.initial.s) (escaped (take l.n (drop l.at l.tree)))) × (length l.out ≡ length l.initial.out) × (l.at ≤ l.i)

abbrev pub decreases-loop-i : goal.decreases-loop-i
decreases-loop-i l = l.end - l.i
