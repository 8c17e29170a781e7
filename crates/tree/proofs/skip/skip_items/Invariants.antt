use Rattle.tree.specs.Look.{look_items, look_node}
use mathlib.Core.Path.{◌≡◌}
use Prim.Native.Nat.{◌-◌}
use Rattle.tree.proofs.skip.skip_items.Given as goal

abbrev pub invariant-loop : goal.invariant-loop
invariant-loop l = (look_items l.tree (look_node l.tree l.left) l.holes (l.count - l.counter) l.end).next ≡ (look_items l.tree (look_node l.tree l.left) l.holes l.count l.at).next
