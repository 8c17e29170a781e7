use Prim.Native.Nat.{◌-◌}
use mathlib.Core.Path.{◌≡◌}
use mathlib.Core.Bool.{true, false, ◌||◌}
use Rattle.tree.specs.Look.{look_items, look_node}
use Rattle.lowering.specs.Parts.{node_at_of, any}
use Rattle.lowering.specs.Patterns.{value}
use Rattle.pattern.proofs.Searches as law
use Rattle.pattern.proofs.search.+found.Given as goal

abbrev pub decreases-found : goal.decreases-found
decreases-found l = l.left

abbrev pub invariant-loop : goal.invariant-loop
invariant-loop l = any (λ q. law.sought l.below_array (value q)) (look_items l.tree (look_node l.tree l.below) false (l.end - l.counter) l.p).value ≡ law.sought l.below_array (look_node l.tree l.left l.at).value

abbrev pub invariant-loop-2 : goal.invariant-loop-2
invariant-loop-2 l = any (λ e. law.sought l.below_array e) (look_items l.tree (look_node l.tree l.below) true (l.end - l.counter) l.p).value || law.has (node_at_of 1 (look_node l.tree l.left l.at).value) ≡ law.sought l.below_array (look_node l.tree l.left l.at).value
