use mathlib.Core.Path.{◌≡◌}
use mathlib.Core.List.{List}
use lib.ListN.{length}
use Prim.Native.Nat.{ℕ, ◌+◌, ◌-◌, ◌*◌}
use Rattle.walk.specs.Run.{going_of}
use Rattle.walk.proofs.TargetWalk as law
use Rattle.walk.proofs.target.+target_item_target_object_target_property.Given as goal

abbrev pub invariant-target_item-loop : goal.invariant-target_item-loop
invariant-target_item-loop l = (length l.list ≡ length l.initial.list) × (length l.work ≡ length l.initial.work) × (l.u.at ≡ l.initial.u.at) × ((o : List ℕ) → law.ItemsLeft l.t l.below l.at (going_of o l.initial.list l.initial.work l.initial.u) (going_of o l.list l.work l.u) (l.n - l.counter) l.p)

abbrev pub invariant-target_properties-loop : goal.invariant-target_properties-loop
invariant-target_properties-loop l = (length l.list ≡ length l.initial.list) × (length l.work ≡ length l.initial.work) × (l.u.at ≡ l.initial.u.at) × ((o : List ℕ) → law.Values l.t l.left l.at l.reach (going_of o l.initial.list l.initial.work l.initial.u) (going_of o l.list l.work l.u) (l.n - l.counter) l.p)

abbrev pub decreases-target_item : goal.decreases-target_item
decreases-target_item l = 4 * l.left

abbrev pub decreases-target_object : goal.decreases-target_object
decreases-target_object l = 4 * l.left + 3

abbrev pub decreases-target_property : goal.decreases-target_property
decreases-target_property l = 4 * l.left + 1

abbrev pub decreases-target_properties : goal.decreases-target_properties
decreases-target_properties l = 4 * l.left + 2
