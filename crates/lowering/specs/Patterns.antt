-- Patterns: what they are made of, and the searches below them. A search goes down through patterns with a number of levels that falls;
-- it is begun with as many levels as the pattern has, and more change nothing (proofs/Levels.antt).
use Rattle.std.specs.Prelude.{ℕ, zero, suc, Bool, false, cond, ◌||◌, eqb}
use Rattle.tree.specs.Tree.{Node, Items, depth}
use Rattle.tree.specs.Tree.Items.{none}
use Rattle.lowering.specs.Parts.{kind, node_at_of, items_at_of, stands, change_node, change_items, only, each, gather, any, ◌+++◌}
use Rattle.lowering.specs.Made.{Context, reference}

-- ---- patterns by shape: 34 ObjectPattern(properties* rest?), 36 ArrayPattern(items* rest?), 37 Default(left right), anything else a leaf

pub data Shape : Type 0 where
  object_pattern array_pattern default leaf : Shape

-- the kind decides
unfoldable pub shape : Node → Shape
shape p = cond (eqb (kind p) 34) object_pattern (cond (eqb (kind p) 36) array_pattern (cond (eqb (kind p) 37) default leaf))

-- the parts of a pattern by name
abbrev pub properties : Node → Items
properties p = items_at_of 0 p

abbrev pub items_of : Node → Items
items_of p = items_at_of 0 p

abbrev pub rest : Node → Node
rest p = node_at_of 1 p

abbrev pub has_rest_of : Node → Bool
has_rest_of p = stands 1 p

abbrev pub left_of : Node → Node
left_of p = node_at_of 0 p

-- 35 PatternProperty(key value flags=)
abbrev pub key : Node → Node
key q = node_at_of 0 q

abbrev pub value : Node → Node
value q = node_at_of 1 q

-- a pattern with its parts changed
abbrev pub with_left : (Node → Node) → Node → Node
with_left f p = change_node 0 f p

abbrev pub with_items : (Node → Node) → Node → Node
with_items f p = change_items 0 (each f) p

abbrev pub with_rest : (Node → Node) → Node → Node
with_rest f p = change_node 1 f p

-- the pattern with each property changed
abbrev pub with_properties : (Node → Node) → Node → Node
with_properties f p = change_items 0 (each f) p

-- the pattern with the value of each property changed
abbrev pub with_values : (Node → Node) → Node → Node
with_values f p = with_properties (λ q. change_node 1 f q) p

-- ---- an object rest below

-- a rest of an object pattern, found through properties, items, array rests and the left of defaults
-- (has_nested_object_rest for bindings, has_nested_target_rest for targets)
unfoldable pub has_nested_object_rest : ℕ → Node → Bool
has_nested_object_rest zero p = false
has_nested_object_rest (suc d) p =
    elim (shape p) [
      | object_pattern ↦ has_rest_of p || any (λ q. has_nested_object_rest d (value q)) (properties p)
      | array_pattern ↦ any (λ e. has_nested_object_rest d e) (items_of p) || has_nested_object_rest d (rest p)
      | default ↦ has_nested_object_rest d (left_of p)
      | leaf ↦ false
    ]

-- the same, of the whole pattern
abbrev pub has_object_rest : Node → Bool
has_object_rest p = has_nested_object_rest (depth p) p

-- an array rest with an object rest below it: what refusal 5 is about (document 01, the table of refusals)
unfoldable pub has_nested_array_rest : ℕ → Node → Bool
has_nested_array_rest zero p = false
has_nested_array_rest (suc d) p =
    elim (shape p) [
      | object_pattern ↦ any (λ q. has_nested_array_rest d (value q)) (properties p)
      | array_pattern ↦ any (λ e. has_nested_array_rest d e) (items_of p) || has_nested_object_rest d (rest p)
      | default ↦ has_nested_array_rest d (left_of p)
      | leaf ↦ false
    ]

-- the same, of the whole pattern
abbrev pub has_array_rest_over_object_rest : Node → Bool
has_array_rest_over_object_rest p = has_nested_array_rest (depth p) p

-- ---- the objects with rest, found through properties, items and the left of defaults; array rests are not searched for these
-- (document 01, 'The rewriting', Declarator and Assignment; recursive_walk_binding_pattern, recursive_walk_assignment_target)

module _ (c : Context) where
  -- what stands in p's place when each of them has been replaced by a temporary, those inside it with it
  unfoldable pub replaced : ℕ → Node → Node
  replaced zero p = p
  replaced (suc d) p =
      elim (shape p) [
        | object_pattern ↦ cond (has_rest_of p) (reference c p) (with_values (λ v. replaced d v) p)
        | array_pattern ↦ with_items (λ e. replaced d e) p
        | default ↦ with_left (λ l. replaced d l) p
        | leaf ↦ p
      ]

  -- the objects themselves, an inner one before the one around it, which has a temporary in its place
  unfoldable pub objects_with_rest : ℕ → Node → Items
  objects_with_rest zero p = none
  objects_with_rest (suc d) p =
      elim (shape p) [
        | object_pattern ↦
            gather (λ q. objects_with_rest d (value q)) (properties p)
            +++ cond (has_rest_of p) (only (with_values (λ v. replaced d v) p)) none
        | array_pattern ↦ gather (λ e. objects_with_rest d e) (items_of p)
        | default ↦ objects_with_rest d (left_of p)
        | leaf ↦ none
      ]

  -- both, of the whole pattern
  abbrev pub replaced_below : Node → Node
  replaced_below p = replaced (depth p) p

  abbrev pub objects_below : Node → Items
  objects_below p = objects_with_rest (depth p) p
