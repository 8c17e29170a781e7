use Prim.Native.Nat.{◌-◌}
use mathlib.Core.Path.{◌≡◌}
use Rattle.pattern.proofs.MovesCounted as law
use Rattle.tree.specs.Look.{look_items, look_node}
use Rattle.lowering.specs.Parts.{any}
use Rattle.lowering.specs.Heads.{is_moved}
use Rattle.pattern.proofs.moves.any_moved.Given as goal

abbrev pub invariant-loop : goal.invariant-loop
invariant-loop l = any is_moved (look_items l.tree (look_node l.tree l.below) l.run.holes (l.run.count - l.counter) l.p).value ≡ any is_moved (law.all l.tree l.left l.at l.i)
