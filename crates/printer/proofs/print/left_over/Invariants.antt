use mathlib.Core.Path.{◌≡◌}
use Prim.Native.Nat.{◌-◌}
use lib.ListN.{length, drop}
use Rattle.printer.specs.Stacks.{write, buffer_in, held_in}
use Rattle.printer.specs.Text.{left_over_of}
use Rattle.printer.proofs.print.left_over.Given as goal

abbrev pub invariant-loop-i : goal.invariant-loop-i
invariant-loop-i l = (write (buffer_in l.text l.s) (left_over_of (drop l.i (held_in l.tree l.starts l.count))) ≡ write (buffer_in l.initial.text l.initial.s) (left_over_of (drop l.initial.i (held_in l.tree l.starts l.count)))) × (length l.text ≡ length l.initial.text)

abbrev pub decreases-loop-i : goal.decreases-loop-i
decreases-loop-i l = l.count - l.i
