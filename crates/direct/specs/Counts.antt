-- Counts and tests over the parts of a pattern, as the emitters need them before they write.
use Rattle.std.specs.Prelude.{ℕ, suc, ◌+◌, cond}
use Rattle.tree.specs.Tree.{Node, Items, count}
use Rattle.tree.specs.Tree.Items.{none, hole, item}
use Rattle.lowering.specs.Parts.{node_at_of, is_empty}
use Rattle.lowering.specs.Patterns.{shape, properties, value, has_rest_of}
use Rattle.lowering.specs.Patterns.Shape.{object_pattern, array_pattern, default, leaf}
use Rattle.lowering.specs.Declarations.{is_name_of, is_lowered, nested_below}
use Rattle.direct.specs.Views.{nameless}
use Rattle.direct.specs.Handed.{other_keys}

-- the sum over all items
unfoldable pub sum_of : (Node → ℕ) → Items → ℕ
sum_of f none = 0
sum_of f (hole is) = sum_of f is
sum_of f (item n is) = f n + sum_of f is

-- how many declarators: of an object of its own, but for its rest; of what is found below a pattern; of a pattern; of a declarator
unfoldable pub own_count : Node → ℕ
own_count p = cond (has_rest_of p) (other_keys (properties p)) 0 + cond (is_empty (properties p)) 0 1

unfoldable pub found_count : Node → ℕ
found_count p = count (nested_below nameless p)

unfoldable pub pattern_count : Node → ℕ
pattern_count p =
    elim (shape p) [
      | object_pattern ↦ own_count p + (sum_of (λ q. found_count (value q)) (properties p) + cond (has_rest_of p) 1 0)
      | array_pattern ↦ suc (found_count p)
      | default ↦ 0
      | leaf ↦ 0
    ]

unfoldable pub declarators_of : Node → ℕ
declarators_of d = cond (is_lowered d) (cond (is_name_of (node_at_of 1 d)) 0 1 + pattern_count (node_at_of 0 d)) 1
