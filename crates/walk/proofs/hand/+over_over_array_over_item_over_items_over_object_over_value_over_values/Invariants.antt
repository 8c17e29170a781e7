use Rattle.lowering.proofs.All.{AllItems}
use mathlib.Core.Path.{◌≡◌}
use mathlib.Core.Bool.{true, false}
use mathlib.Core.List.{List}
use Prim.Native.Nat.{◌+◌, ◌*◌, ◌-◌}
use lib.ListN.{length}
use Rattle.tree.specs.Look.{look_items, look_node}
use Rattle.lowering.specs.Patterns.{value}
use Rattle.lowering.specs.Parts as parts
use Rattle.walk.specs.declared.views.View.TheVariants.{Replacing}
use Rattle.walk.specs.Whole.{GoodItems, Good}
use Rattle.walk.specs.Run.{going_of}
use Rattle.walk.specs.Turns.{over_all}
use Rattle.walk.proofs.Hands as law
use Prim.Native.Nat.{ℕ, ◌-◌}
use Rattle.walk.proofs.hand.+over_over_array_over_item_over_items_over_object_over_value_over_values.Given as goal

abbrev pub invariant-over_items-loop : goal.invariant-over_items-loop
invariant-over_items-loop l = (length l.list ≡ length l.initial.list) × (length l.work ≡ length l.initial.work) × (l.u.at ≡ l.initial.u.at)
    × ((o : List ℕ) → GoodItems l.t (look_node l.t l.left) (Good l.t l.left) false true l.count l.first
    → law.Left l.t l.left true law.Any (over_all l.mode Replacing) (going_of o l.initial.list l.initial.work l.initial.u) l.count l.first (going_of o l.list l.work l.u) (l.count - l.counter) l.p)

abbrev pub invariant-over_values-loop : goal.invariant-over_values-loop
invariant-over_values-loop l = (length l.list ≡ length l.initial.list) × (length l.work ≡ length l.initial.work) × (l.u.at ≡ l.initial.u.at)
    × ((o : List ℕ) → GoodItems l.t (look_node l.t l.left) (Good l.t l.left) false false l.count l.first → AllItems (λ q. parts.is 35 q ≡ true) (look_items l.t (look_node l.t l.left) false l.count l.first).value
    → law.Left l.t l.left false (λ q. parts.is 35 q ≡ true) (λ q. over_all l.mode Replacing (value q)) (going_of o l.initial.list l.initial.work l.initial.u) l.count l.first (going_of o l.list l.work l.u) (l.count - l.counter) l.p)

abbrev pub decreases-over : goal.decreases-over
decreases-over l = 4 * l.left + 3

abbrev pub decreases-over_array : goal.decreases-over_array
decreases-over_array l = 4 * l.left + 2

abbrev pub decreases-over_item : goal.decreases-over_item
decreases-over_item l = 4 * l.left + 4

abbrev pub decreases-over_items : goal.decreases-over_items
decreases-over_items l = 4 * l.left + 5

abbrev pub decreases-over_object : goal.decreases-over_object
decreases-over_object l = 4 * l.left + 2

abbrev pub decreases-over_value : goal.decreases-over_value
decreases-over_value l = 4 * l.left

abbrev pub decreases-over_values : goal.decreases-over_values
decreases-over_values l = 4 * l.left + 1
