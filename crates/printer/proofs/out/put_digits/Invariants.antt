use Rattle.printer.proofs.PiecesWritten as law
use Rattle.printer.specs.Stacks.{write, bytes_in, buffer_in}
use mathlib.Core.Path.{◌≡◌}
use lib.ListN.{length}
use Rattle.printer.proofs.out.put_digits.Given as goal

abbrev pub invariant-loop-w : goal.invariant-loop-w
invariant-loop-w l = law.DigitsLeft (length l.initial.out) (write (buffer_in l.initial.out l.initial.s) (bytes_in l.initial.w)) l.out l.s l.w

abbrev pub decreases-loop-w : goal.decreases-loop-w
decreases-loop-w l = l.w

abbrev pub invariant-loop-w-2 : goal.invariant-loop-w-2
invariant-loop-w-2 l = (write (buffer_in l.out l.s) (bytes_in l.w) ≡ write (buffer_in l.initial.out l.initial.s) (bytes_in l.initial.w)) × (length l.out ≡ length l.initial.out)

abbrev pub decreases-loop-w-2 : goal.decreases-loop-w-2
decreases-loop-w-2 l = l.w
