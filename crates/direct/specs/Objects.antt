-- The objects with rest of a pattern, and what is done for each of them.
use Rattle.std.specs.Prelude.{ℕ, zero, suc, Bool, true, false, cond}
use Rattle.tree.specs.Tree.{Node, Items, depth}
use Rattle.tree.specs.Tree.Items.{none}
use Rattle.lowering.specs.Parts.{only, gather}
use Rattle.lowering.specs.Made.{Context}
use Rattle.lowering.specs.Patterns.{shape, properties, items_of, left_of, value, has_rest_of, objects_below}
use Rattle.lowering.specs.Patterns.Shape.{object_pattern, array_pattern, default, leaf}
use Rattle.lowering.specs.Declarations.{inner_objects}
use Rattle.direct.specs.Events.{Emit}
use Rattle.direct.specs.Emit.{in_turn}
use Rattle.direct.specs.Views.{View, nameless}
use Rattle.direct.specs.Views.View.{replacing, taking}

-- ---- of a declaration, inner ones first: those in whose place the view puts a temporary

unfoldable pub objects_in : Context → View → Node → Items
objects_in κ replacing p = objects_below κ p
objects_in κ taking p = inner_objects κ p

unfoldable pub over_objects : (Node → Emit) → View → Node → Emit
over_objects f v p = in_turn f (objects_in nameless v p)

-- ---- of an assignment: those that stand nearest below its target, in walk order

-- where they are looked for: anywhere; through objects alone; below arrays alone
pub data Reach : Type 0 where
  anywhere straight in_arrays : Reach

-- whether one that is come to through objects counts, and whether arrays are entered
abbrev pub counts : Reach → Bool
counts anywhere = true
counts straight = true
counts in_arrays = false

abbrev pub enters : Reach → Bool
enters anywhere = true
enters straight = false
enters in_arrays = true

unfoldable pub reached_at : Reach → ℕ → Node → Items
reached_at r zero p = none
reached_at r (suc d) p =
    elim (shape p) [
      | object_pattern ↦ cond (has_rest_of p) (cond (counts r) (only p) none) (gather (λ q. reached_at r d (value q)) (properties p))
      | array_pattern ↦ cond (enters r) (gather (λ x. reached_at anywhere d x) (items_of p)) none
      | default ↦ reached_at r d (left_of p)
      | leaf ↦ none
    ]

abbrev pub reached : Reach → Node → Items
reached r p = reached_at r (depth p) p

unfoldable pub over_reached : (Node → Emit) → Reach → Node → Emit
over_reached f r p = in_turn f (reached r p)

-- those below the values of an object
abbrev pub reached_in : Reach → Node → Items
reached_in r p = gather (λ q. reached r (value q)) (properties p)

-- those in whose place the nested rule puts a temporary: of a target that it is for, and of one whose rest is taken
abbrev pub replaced_in : View → Node → Items
replaced_in replacing p = reached anywhere p
replaced_in taking p = reached_in in_arrays p

unfoldable pub over_replaced : (Node → Emit) → View → Node → Emit
over_replaced f v p = in_turn f (replaced_in v p)

-- the parts of an object with rest
unfoldable pub over_parts : (Node → Emit) → Node → Emit
over_parts f p = in_turn f (reached_in straight p)
