use Prim.Native.Nat.{◌-◌}
use mathlib.Core.Bool.{false}
use Rattle.direct.specs.Literals.{mode_after}
use Rattle.tree.specs.Look.{look_items, look_node}
use mathlib.Core.Path.{◌≡◌}
use Rattle.walk.specs.Turns.{calls_number}
use Rattle.walk.proofs.literal.after.Given as goal

abbrev pub invariant-loop : goal.invariant-loop
invariant-loop l = ((look_items l.t (look_node l.t l.left) false (l.count - l.counter) l.p).next ≡ (look_items l.t (look_node l.t l.left) false l.count l.at).next)
    × (mode_after (calls_number l.m) (look_items l.t (look_node l.t l.left) false (l.count - l.counter) l.p).value ≡ mode_after (calls_number l.fn.mode) (look_items l.t (look_node l.t l.left) false l.count l.at).value)
