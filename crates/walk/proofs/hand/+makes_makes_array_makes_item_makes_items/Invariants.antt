use mathlib.Core.Path.{◌≡◌}
use mathlib.Core.Bool.{true, false}
use mathlib.Core.List.{List}
use Prim.Native.Nat.{◌+◌, ◌*◌, ◌-◌}
use lib.ListN.{length}
use Rattle.tree.specs.Look.{look_node}
use Rattle.direct.specs.Emit.{say}
use Rattle.direct.specs.Moved as moved
use Rattle.walk.specs.Whole.{GoodItems, Good}
use Rattle.walk.specs.Run.{going_of}
use Rattle.walk.proofs.Hands as hands
use Prim.Native.Nat.{ℕ, ◌-◌}
use Rattle.walk.proofs.hand.+makes_makes_array_makes_item_makes_items.Given as goal

abbrev pub invariant-makes_items-loop : goal.invariant-makes_items-loop
invariant-makes_items-loop live = (length live.work ≡ length live.initial.work) × (live.u.at ≡ live.initial.u.at)
    × ((o l : List ℕ) → GoodItems live.t (look_node live.t live.left) (Good live.t live.left) false true live.count live.first
    → hands.Left live.t live.left true hands.Any (λ q. say (moved.makes (moved.moved_in_of q))) (going_of o l live.initial.work live.initial.u) live.count live.first (going_of o l live.work live.u) (live.count - live.counter) live.p)

abbrev pub decreases-makes : goal.decreases-makes
decreases-makes l = 4 * l.left + 3

abbrev pub decreases-makes_array : goal.decreases-makes_array
decreases-makes_array l = 4 * l.left + 2

abbrev pub decreases-makes_item : goal.decreases-makes_item
decreases-makes_item l = 4 * l.left + 4

abbrev pub decreases-makes_items : goal.decreases-makes_items
decreases-makes_items l = 4 * l.left + 5
