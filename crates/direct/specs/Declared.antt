-- What is done for a declaration, declarator by declarator. c is the place of the declaration.
use Rattle.std.specs.Prelude.{ℕ, false, cond, [], ◌∷◌}
use Rattle.tree.specs.Tree.{Node, Piece, Items, count}
use Rattle.tree.specs.Tree.Node.{node}
use Rattle.tree.specs.Tree.Fields.{done, field}
use Rattle.lowering.specs.Parts.{position, node_at_of, is_empty, gather}
use Rattle.lowering.specs.Patterns.{shape, properties, key, value, rest, has_rest_of}
use Rattle.lowering.specs.Patterns.Shape.{object_pattern, array_pattern, default, leaf}
use Rattle.lowering.specs.Declarations.{is_name_of, is_lowered, nested_below, declarators}
use Rattle.direct.specs.Events.{Place, Emit, puts, context_of, emits}
use Rattle.direct.specs.Emit.{say, ◌▷◌, inner, emits_items, in_turn}
use Rattle.direct.specs.Views.{says_cell, emits_view, is_other}
use Rattle.direct.specs.Views.View.{replacing, taking}
use Rattle.direct.specs.Keys.{emits_rest}

-- 4 Declaration(# kind= declarators*), 5 Declarator(id init?)
abbrev pub declaration_at : ℕ → ℕ → ℕ → Items → Node
declaration_at at m b ds = node at 4 (field (Piece.mark m) (field (Piece.byte b) (field (Piece.list ds) done)))

module _ (c : Place) where
  -- the temporary of the key of the property q, with its value
  unfoldable pub emits_key_value : Node → Emit
  emits_key_value q = cond (is_other (key q)) (say (puts (5 ∷ 3 ∷ [])) ▷ says_cell 4 (position q) ▷ emits (inner c) (key q)) (say [])

  -- an object read from s: its keys, if its rest is taken; its pattern, unless it has no properties; its rest
  unfoldable pub emits_own_keys : Node → Emit
  emits_own_keys p = cond (has_rest_of p) (in_turn emits_key_value (properties p)) (say [])

  unfoldable pub emits_own_pattern : Node → Emit → Emit
  emits_own_pattern p s = cond (is_empty (properties p)) (say []) (say (puts (5 ∷ 3 ∷ [])) ▷ emits_view (inner c) taking p ▷ s)

  unfoldable pub emits_own_rest : Node → Emit → Emit
  emits_own_rest p s =
      cond (has_rest_of p) (say (puts (5 ∷ 3 ∷ [])) ▷ emits (inner c) (rest p) ▷ emits_rest (inner c) (position p) (properties p) s) (say [])

  -- what is found below a pattern
  unfoldable pub emits_found : Node → Emit
  emits_found p = emits_items false (inner c) (nested_below (context_of c) p)

  -- the declarators of the pattern p, read from s
  unfoldable pub emits_pattern : Node → Emit → Emit
  emits_pattern p s =
      elim (shape p) [
        | object_pattern ↦ emits_own_keys p ▷ emits_own_pattern p s ▷ in_turn (λ q. emits_found (value q)) (properties p) ▷ emits_own_rest p s
        | array_pattern ↦ say (puts (5 ∷ 3 ∷ [])) ▷ emits_view (inner c) replacing p ▷ s ▷ emits_found p
        | default ↦ say []
        | leaf ↦ say []
      ]

  -- the pattern p with the starting value init: a name is read as often as wanted, anything else goes into a temporary first
  unfoldable pub emits_lowered : Node → Node → Emit
  emits_lowered p init =
      cond (is_name_of init) (emits_pattern p (emits (inner c) init))
      (say (puts (5 ∷ 3 ∷ [])) ▷ says_cell 3 (position p) ▷ emits (inner c) init ▷ emits_pattern p (says_cell 3 (position p)))

  -- one declarator
  unfoldable pub emits_declarator : Node → Emit
  emits_declarator d = cond (is_lowered d) (emits_lowered (node_at_of 0 d) (node_at_of 1 d)) (emits (inner c) d)

  -- how many declarators there are in the end
  unfoldable pub declarator_count : Items → ℕ
  declarator_count ds = count (gather (declarators (context_of c)) ds)
