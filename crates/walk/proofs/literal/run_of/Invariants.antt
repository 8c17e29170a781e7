use Prim.Native.Nat.{◌+◌, ◌-◌}
use mathlib.Core.Bool.{false}
use Rattle.direct.specs.Literals.{run}
use Rattle.tree.specs.Look.{look_items, look_node}
use mathlib.Core.Path.{◌≡◌}
use Rattle.walk.proofs.literal.run_of.Given as goal

abbrev pub invariant-loop-k : goal.invariant-loop-k
invariant-loop-k l = l.k + run (look_items l.t (look_node l.t l.left) false (l.count - l.k) l.p).value ≡ run (look_items l.t (look_node l.t l.left) false l.count l.at).value
