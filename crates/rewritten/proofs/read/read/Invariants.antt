use Rattle.rewritten.proofs.MarksReader as law
use Rattle.rewritten.specs.Rewritten.{is_rewritten}
use lib.ListN.{length}
use Prim.Native.Nat.{◌+◌, ◌-◌}
use mathlib.Core.Path.{◌≡◌}
use Rattle.rewritten.proofs.read.read.Given as goal

abbrev pub invariant-loop-at : goal.invariant-loop-at
invariant-loop-at l = law.Reading l.tree l.frames l.seen l.cursor (length l.initial.frames) (is_rewritten l.tree) × (length l.seen ≡ length l.initial.seen)

abbrev pub decreases-loop-at : goal.decreases-loop-at
decreases-loop-at l = (length l.tree - l.cursor.at) + l.cursor.deep
