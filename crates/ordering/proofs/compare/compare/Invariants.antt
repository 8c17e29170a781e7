use Rattle.ordering.proofs.Pairs as law
use Rattle.ordering.specs.Outcome.{answer_of}
use Rattle.rewritten.specs.Rewritten.{read_rewritten}
use lib.ListN.{length}
use Prim.Native.Nat.{◌+◌, ◌-◌}
use mathlib.Core.Path.{◌≡◌}
use Rattle.ordering.proofs.compare.compare.Given as goal

abbrev pub invariant-loop-e : goal.invariant-loop-e
invariant-loop-e l = law.Going l.first l.second l.frames l.others l.table l.places l.a l.b (answer_of (read_rewritten l.first) (read_rewritten l.second))
    × (length l.frames ≡ length l.initial.frames)
    × (length l.others ≡ length l.initial.others)
    × (length l.table ≡ length l.initial.table)
    × (length l.places ≡ length l.initial.places)

abbrev pub decreases-loop-e : goal.decreases-loop-e
decreases-loop-e l = (length l.first - l.a.cursor.at) + l.a.cursor.deep
