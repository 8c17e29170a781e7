use mathlib.Core.Path.{◌≡◌}
use mathlib.Core.Bool.{true, false}
use mathlib.Core.List.{List}
use Prim.Native.Nat.{ℕ, ◌-◌}
use lib.ListN.{length}
use Rattle.tree.specs.Look.{look_items, look_node}
use Rattle.direct.specs.Emit.{say}
use Rattle.direct.specs.Moved as moved
use Rattle.lowering.specs.Heads.{moved_from}
use Rattle.walk.specs.declared.modes.Mode.TheVariants as modes
use Rattle.walk.specs.Whole.{GoodItems, Good}
use Rattle.walk.specs.Run.{going_of}
use Rattle.walk.specs.Turns.{suits, AllSuit}
use Rattle.walk.proofs.Hands as hands
use Rattle.walk.proofs.hand.moves_make.Given as goal

abbrev pub invariant-loop : goal.invariant-loop
invariant-loop live = (length live.work ≡ length live.initial.work) × (live.u.at ≡ live.initial.u.at)
    × ((o l : List ℕ) → GoodItems live.t (look_node live.t live.left) (Good live.t live.left) false false live.count live.first → AllSuit modes.Binding (look_items live.t (look_node live.t live.left) false live.count live.first).value
    → hands.Left live.t live.left false (λ q. suits modes.Binding q ≡ true) (λ q. say (moved.makes (moved_from q))) (going_of o l live.initial.work live.initial.u) live.count live.first (going_of o l live.work live.u) (live.count - live.counter) live.p)
