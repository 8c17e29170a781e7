-- Declarations (document 01, 'The rewriting', Declarator; transform_variable_declaration).
use Rattle.std.specs.Prelude.{ℕ, zero, suc, Bool, cond, ◌&&◌, ◌||◌}
use Rattle.tree.specs.Tree.{Node, Items, depth}
use Rattle.tree.specs.Tree.Items.{none}
use Rattle.lowering.specs.Parts.{is, node_at_of, items_at_of, stands, change_items, only, each, gather, first, ◌+++◌}
use Rattle.lowering.specs.Made.{Context, declares, id_of, reference, value_of}
use Rattle.lowering.specs.Patterns.{shape, properties, items_of, rest, has_rest_of, left_of, value, with_values, has_object_rest, replaced, replaced_below, objects_below}
use Rattle.lowering.specs.Patterns.Shape.{object_pattern, array_pattern, default, leaf}
use Rattle.lowering.specs.Keys.{key_temporaries, keys_refusal, taken}
use Rattle.lowering.specs.Rests.{has_no_properties, rest_value, excluded_for, rest_makes}

-- ---- the source of a pattern p with the starting value init (ReferenceBuilder)

-- a Reference or a Temporary is read as often as wanted
unfoldable pub is_name_of : Node → Bool
is_name_of e = is 18 e || is 20 e

module _ (c : Context) where
  -- what each read gives: the name, or the temporary
  unfoldable pub source : Node → Node → Node
  source p init = cond (is_name_of init) init (value_of c p)

  -- where a temporary is wanted, the first read hands it the expression
  unfoldable pub source_declarator : Node → Node → Items
  source_declarator p init = cond (is_name_of init) none (only (declares (value_of c p) init))

  -- ---- one object pattern p, read from s, the objects with rest inside it replaced

  -- the keys' temporaries, if its rest is taken
  unfoldable pub keys_before : Node → Items
  keys_before p = cond (has_rest_of p) (key_temporaries c p) none

  -- dropped if it has no properties
  unfoldable pub pattern_declarator : Node → Node → Items
  pattern_declarator p s = cond (has_no_properties p) none (only (declares (taken c p) s))

  -- its rest, if it has one
  unfoldable pub rest_declarator : Node → Node → Items
  rest_declarator p s = cond (has_rest_of p) (only (declares (rest p) (rest_value c p s))) none

  -- ---- what is found below a pattern (recursive_walk_binding_pattern)

  -- an object's own declarators: keys, pattern, rest
  unfoldable pub own : Node → Node → Items
  own p s = keys_before p +++ pattern_declarator p s +++ rest_declarator p s

  -- an object with rest reads from the temporary in its place; its own declarators come before those found inside it
  unfoldable pub nested : ℕ → Node → Items
  nested zero p = none
  nested (suc d) p =
      elim (shape p) [
        | object_pattern ↦
            cond (has_rest_of p) (own (with_values (λ v. replaced c d v) p) (reference c p)) none
            +++ gather (λ q. nested d (value q)) (properties p)
        | array_pattern ↦ gather (λ e. nested d e) (items_of p)
        | default ↦ nested d (left_of p)
        | leaf ↦ none
      ]

  -- the same, of the whole pattern
  abbrev pub nested_below : Node → Items
  nested_below p = nested (depth p) p

  -- ---- a declarator of the pattern p, with the source s (transform_variable_declarator)

  -- an object: keys, pattern, what is found below, rest
  unfoldable pub object_declarators : Node → Node → Items
  object_declarators p s =
      let q = with_values (λ v. replaced_below c v) p in
      keys_before q +++ pattern_declarator q s +++ gather (λ r. nested_below (value r)) (properties p) +++ rest_declarator q s

  -- an array: pattern, what is found below. A declarator has no other pattern with an object rest below it
  unfoldable pub pattern_declarators : Node → Node → Items
  pattern_declarators p s =
      elim (shape p) [
        | object_pattern ↦ object_declarators p s
        | array_pattern ↦ only (declares (replaced_below c p) s) +++ nested_below p
        | default ↦ none
        | leaf ↦ none
      ]

  -- the value's temporary, if it is wanted, then the pattern's declarators
  unfoldable pub lower_declarator : Node → Node → Items
  lower_declarator p init = source_declarator p init +++ pattern_declarators p (source p init)

  -- the objects in whose place a temporary is put: all with rest that are found, but not the pattern itself
  unfoldable pub inner_objects : Node → Items
  inner_objects p =
      elim (shape p) [
        | object_pattern ↦ gather (λ q. objects_below c (value q)) (properties p)
        | array_pattern ↦ objects_below c p
        | default ↦ objects_below c p
        | leaf ↦ none
      ]

  -- the temporaries: the value's, those in place of objects, and those of each rest
  unfoldable pub declarator_makes : Node → Node → Items
  declarator_makes p init =
      each id_of (source_declarator p init) +++ each (λ o. reference c o) (inner_objects p) +++ gather (rest_makes c) (objects_below c p)

-- ---- 4 Declaration(# kind= declarators*), 5 Declarator(id init?)

-- a declarator is left as it stands if it has no starting value, or no object rest below its pattern
unfoldable pub is_lowered : Node → Bool
is_lowered d = stands 1 d && has_object_rest (node_at_of 0 d)

module _ (c : Context) where
  -- what becomes of one declarator
  unfoldable pub declarators : Node → Items
  declarators d = cond (is_lowered d) (lower_declarator c (node_at_of 0 d) (node_at_of 1 d)) (only d)

  -- the objects whose rest is lowered, inner ones first
  unfoldable pub lowered_in : Node → Items
  lowered_in d = cond (is_lowered d) (objects_below c (node_at_of 0 d)) none

  -- a Declaration is rewritten as a whole, once
  unfoldable pub declaration : Node → Node
  declaration n = change_items 2 (gather declarators) n

  -- the temporaries of all its declarators
  unfoldable pub declaration_makes : Node → Items
  declaration_makes n = gather (λ d. cond (is_lowered d) (declarator_makes c (node_at_of 0 d) (node_at_of 1 d)) none) (items_at_of 2 n)

  -- the excluded keys, an inner object's before those of the object around it
  unfoldable pub declaration_excludes : Node → Items
  declaration_excludes n = gather (λ d. gather (excluded_for c) (lowered_in d)) (items_at_of 2 n)

  -- the first refusal that is met at their keys, in that order, or 0
  unfoldable pub declaration_refusal : Node → ℕ
  declaration_refusal n = first (λ d. first (λ p. keys_refusal p) (lowered_in d)) (items_at_of 2 n)
