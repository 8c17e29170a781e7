use mathlib.Core.Path.{◌≡◌}
use Prim.Native.Nat.{◌-◌, ◌≤◌}
use lib.ListN.{length}
use Rattle.tree.specs.Tree.{Node}
use Rattle.printer.specs.Logged.{Logged}
use Rattle.printer.specs.Rows.{sort_numbers, slot_numbers, word_numbers}
use Rattle.printer.proofs.Going as law
use Rattle.printer.proofs.pass.print.Given as goal

abbrev pub invariant-loop-i : goal.invariant-loop-i
invariant-loop-i l = (l.i ≤ l.count) × (length l.stack ≡ length l.initial.stack) × (length l.starts ≡ length l.initial.starts) × (length l.text ≡ length l.initial.text) × (l.slots ≡ slot_numbers → l.sorts ≡ sort_numbers → l.words ≡ word_numbers → (n : Node) → Logged l.tree l.log l.count n → 16384 ≤ length l.initial.stack → 16384 ≤ length l.initial.starts → law.Going l.tree l.log l.stack l.starts l.initial.text l.text l.s l.i)

abbrev pub decreases-loop-i : goal.decreases-loop-i
decreases-loop-i l = l.count - l.i
