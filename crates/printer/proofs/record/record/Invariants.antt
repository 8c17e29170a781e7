use mathlib.Core.Path.{◌≡◌}
use Prim.Native.Nat.{◌+◌, ◌-◌, ◌≤◌}
use lib.ListN.{length}
use Rattle.rewritten.specs.Rewritten.{is_rewritten}
use Rattle.printer.proofs.Meeting as meet
use Rattle.printer.proofs.record.record.Given as goal

abbrev pub invariant-loop-count : goal.invariant-loop-count
invariant-loop-count l = (l.cursor.at ≤ length l.tree) × (l.count + l.cursor.deep ≤ l.cursor.at) × (length l.frames ≡ length l.initial.frames) × (length l.seen ≡ length l.initial.seen) × (length l.stack ≡ length l.initial.stack) × (length l.log ≡ length l.initial.log) × (meet.Lent l.places l.plans l.maps l.initial.frames l.initial.seen l.initial.stack l.initial.log → meet.Looping l.tree l.frames l.seen l.stack l.log l.cursor (length l.initial.frames) (is_rewritten l.tree) l.count)

abbrev pub decreases-loop-count : goal.decreases-loop-count
decreases-loop-count l = (length l.tree - l.cursor.at) + l.cursor.deep
