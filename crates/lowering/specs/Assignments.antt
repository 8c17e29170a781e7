-- Assignments to a target with an object rest below it (document 01, 'The rewriting', Assignment, and request 6;
-- transform_assignment_expression).
use Rattle.std.specs.Prelude.{ℕ, zero, suc, Bool, true, false, cond, ◌&&◌}
use Rattle.tree.specs.Tree.{Node, Items, depth}
use Rattle.tree.specs.Tree.Items.{none, item}
use Rattle.lowering.specs.Parts.{is, node_at_of, change_node, only, each, gather, ◌+++◌}
use Rattle.lowering.specs.Made.{Context, assign, sequence, declared, id_of, reference, value_of}
use Rattle.lowering.specs.Patterns.{shape, properties, items_of, rest, has_rest_of, left_of, value, with_left, with_values, replaced_below}
use Rattle.lowering.specs.Patterns.Shape.{object_pattern, array_pattern, default, leaf}
use Rattle.lowering.specs.Keys.{key_temporaries, keys_refusal, taken}
use Rattle.lowering.specs.Rests.{rest_value, excluded_for}

-- 27 Assignment(op= left right)
abbrev pub target : Node → Node
target n = node_at_of 1 n

-- its value
abbrev pub assigned : Node → Node
assigned n = node_at_of 2 n

-- ---- the objects with rest that stand nearest below a target (request 6)

-- found through properties and the left of defaults, and through the items of arrays if `arrays` says so; none is looked for inside one
-- that is found, and none in an array rest. In walk order
unfoldable pub nearest : Bool → ℕ → Node → Items
nearest arrays zero p = none
nearest arrays (suc d) p =
    elim (shape p) [
      | object_pattern ↦ cond (has_rest_of p) (only p) (gather (λ q. nearest arrays d (value q)) (properties p))
      | array_pattern ↦ cond arrays (gather (λ e. nearest arrays d e) (items_of p)) none
      | default ↦ nearest arrays d (left_of p)
      | leaf ↦ none
    ]

-- ---- a target that is itself an object with rest

-- the first of the two cases
unfoldable pub is_top : Node → Bool
is_top p = is 34 p && has_rest_of p

-- its parts: the objects with rest that are reached from it through objects
abbrev pub parts_of : Node → Items
parts_of p = gather (λ q. nearest false (depth p) (value q)) (properties p)

-- of any other target: the outermost objects with rest below it
abbrev pub outermost : Node → Items
outermost p = nearest true (depth p) p

-- the first refusal that is met at its keys, or 0; a part's keys are looked at when the part is walked
unfoldable pub top_refusal : Node → ℕ
top_refusal n = keys_refusal (target n)

module _ (c : Context) where
  -- what stands in p's place when each part has been replaced by a temporary; arrays are left as they are
  unfoldable pub parts_replaced : ℕ → Node → Node
  parts_replaced zero p = p
  parts_replaced (suc d) p =
      elim (shape p) [
        | object_pattern ↦ cond (has_rest_of p) (reference c p) (with_values (λ v. parts_replaced d v) p)
        | array_pattern ↦ p
        | default ↦ with_left (λ l. parts_replaced d l) p
        | leaf ↦ p
      ]

  -- the target without its rest, a temporary in place of each part (walk_assignment_target, transform_object_assignment_target)
  abbrev pub target_left : Node → Node
  target_left n = taken c (with_values (λ v. parts_replaced (depth (target n)) v) (target n))

  -- an assignment to p from its temporary
  abbrev pub from_reference : Node → Node
  from_reference p = assign p (reference c p)

  -- a sequence: the value into a temporary; from there into the target; each part from its own temporary, in walk order; the rest; and a read
  -- of the value's temporary, unless the value of the whole is not used
  unfoldable pub top_sequence : Node → Node
  top_sequence n =
      let t = value_of c (target n) in
      sequence
      (item (assign t (assigned n))
      (item (assign (target_left n) t)
      (each from_reference (parts_of (target n))
      +++ item (assign (rest (target n)) (rest_value c (target n) t)) (cond c.statement none (only t)))))

  -- handed out: the temporary of the value, those of the parts, then those of the keys with their values
  unfoldable pub top_entry : Node → Items
  top_entry n =
      item (declared (value_of c (target n)))
      (each (λ p. declared (reference c p)) (parts_of (target n)) +++ key_temporaries c (target n))

  -- the excluded keys
  unfoldable pub top_excludes : Node → Items
  top_excludes n = excluded_for c (target n)

  -- the temporaries: what is handed out declares them, and so do the excluded keys
  unfoldable pub top_makes : Node → Items
  top_makes n = each id_of (top_entry n) +++ each id_of (top_excludes n)

  -- ---- any other target (walk_and_replace_nested_object_target)

  -- the target with each of them replaced, then an assignment for each from its temporary; no read. What lies inside one is left in it
  -- until its assignment is walked
  unfoldable pub nested_sequence : Node → Node
  nested_sequence n = sequence (item (change_node 1 (λ p. replaced_below c p) n) (each from_reference (outermost (target n))))

  -- handed out: the temporaries, without values
  unfoldable pub nested_entry : Node → Items
  nested_entry n = each (λ p. declared (reference c p)) (outermost (target n))

  -- the temporaries
  unfoldable pub nested_makes : Node → Items
  nested_makes n = each id_of (nested_entry n)
