use mathlib.Core.Path.{◌≡◌}
use mathlib.Core.Bool.{true, false}
use mathlib.Core.List.{List}
use Prim.Native.Nat.{ℕ, ◌-◌}
use lib.ListN.{length}
use Rattle.tree.specs.Look.{look_items, look_node}
use Rattle.lowering.proofs.All.{AllItems}
use Rattle.lowering.specs.Parts.{is}
use Rattle.walk.specs.Whole.{GoodItems, Good}
use Rattle.walk.specs.Run.{going_of}
use Rattle.walk.specs.Turns.{key_of}
use Rattle.walk.proofs.Hands as law
use Rattle.walk.proofs.hand.keys_in.Given as goal

abbrev pub invariant-loop : goal.invariant-loop
invariant-loop l = (length l.list ≡ length l.initial.list) × (length l.work ≡ length l.initial.work) × (l.u.at ≡ l.initial.u.at)
    × ((o : List ℕ) → GoodItems l.t (look_node l.t l.left) (Good l.t l.left) false false l.count l.first → AllItems (λ q. is 35 q ≡ true) (look_items l.t (look_node l.t l.left) false l.count l.first).value
    → law.Left l.t l.left false (λ q. is 35 q ≡ true) (key_of l.mode) (going_of o l.initial.list l.initial.work l.initial.u) l.count l.first (going_of o l.list l.work l.u) (l.count - l.counter) l.p)
