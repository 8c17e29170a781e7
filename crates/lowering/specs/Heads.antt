-- Parameters, catch, and the heads of 7 and 8, with an object rest below (document 01, 'The rewriting', the last two points).
use Rattle.std.specs.Prelude.{ℕ, zero, suc, Bool, cond, ◌&&◌}
use Rattle.tree.specs.Tree.{Node, Items, depth}
use Rattle.tree.specs.Tree.Items.{none, hole, item}
use Rattle.lowering.specs.Parts.{is, node_at_of, items_at_of, stands, change_node, change_items, only, each, gather, any, ◌+++◌}
use Rattle.lowering.specs.Made.{Context, reference, let_of, var_of, assigning, returning, block, function_body}
use Rattle.lowering.specs.Patterns.{shape, items_of, rest, left_of, with_left, with_items, with_rest, has_object_rest}
use Rattle.lowering.specs.Patterns.Shape.{object_pattern, array_pattern, default, leaf}

-- ---- what is moved out of a pattern (replace_rest_element)

-- where a pattern is moved out, in order: at an object pattern; at a default, its left; in an array, where its items and its rest say
unfoldable pub moved : ℕ → Node → Items
moved zero p = none
moved (suc d) p =
    elim (shape p) [
      | object_pattern ↦ only p
      | array_pattern ↦ gather (λ e. moved d e) (items_of p) +++ moved d (rest p)
      | default ↦ only p
      | leaf ↦ none
    ]

-- the pattern that is moved from there
unfoldable pub moved_pattern : Node → Node
moved_pattern p = elim (shape p) [ object_pattern ↦ p | array_pattern ↦ p | default ↦ left_of p | leaf ↦ p ]

-- a place that binds, 15 Param(pattern default?) or 5 Declarator(id init?), is looked at if there is an object rest below it
unfoldable pub is_moved : Node → Bool
is_moved q = has_object_rest (node_at_of 0 q)

-- where patterns are moved out of it
unfoldable pub moved_from : Node → Items
moved_from q = cond (is_moved q) (moved (depth (node_at_of 0 q)) (node_at_of 0 q)) none

module _ (c : Context) where
  -- the pattern with a temporary in place of each
  unfoldable pub moved_out_of : ℕ → Node → Node
  moved_out_of zero p = p
  moved_out_of (suc d) p =
      elim (shape p) [
        | object_pattern ↦ reference c p
        | array_pattern ↦ with_rest (λ r. moved_out_of d r) (with_items (λ e. moved_out_of d e) p)
        | default ↦ with_left (λ l. reference c p) p
        | leaf ↦ p
      ]

  -- what it becomes
  unfoldable pub left_behind : Node → Node
  left_behind q = cond (is_moved q) (change_node 0 (λ p. moved_out_of (depth p) p) q) q

  -- `let pattern = temporary` for each, put at index 0 in turn, so that a later one comes first
  -- (replace_object_pattern_and_insert_into_block_body)
  unfoldable pub in_front : Items → Items → Items
  in_front none body = body
  in_front (hole ps) body = in_front ps body
  in_front (item p ps) body = in_front ps (item (let_of (moved_pattern p) (reference c p)) body)

  -- 16 FunctionBody(directives*? body*), 2 Block(# body*)
  unfoldable pub in_body : Items → Node → Node
  in_body ps b = change_items 1 (in_front ps) b

-- ---- bodies that are made only for this

-- an arrow's expression becomes a body of one return (arrow_function_body_as_function_body_mut)
unfoldable pub as_function_body : Node → Node
as_function_body b = cond (is 16 b) b (function_body (only (returning b)))

-- what is no Block goes into one, an Empty leaves it empty (try_replace_statement_with_block)
unfoldable pub as_block : Node → Node
as_block b = cond (is 2 b) b (block (cond (is 13 b) none (only b)))

-- ---- the heads

module _ (c : Context) where
  -- the temporaries in place of the patterns that are moved
  abbrev pub references : Items → Items
  references ps = each (λ p. reference c p) ps

  -- 14 Function(# sort= name? params* rest? body?), left as it stands without a body; its rest is not looked at. Its body is a FunctionBody
  -- already (transform_function)
  unfoldable pub function : Node → Node
  function n =
      let ps = gather moved_from (items_at_of 3 n) in
      cond (stands 5 n && any is_moved (items_at_of 3 n))
      (change_node 5 (λ b. in_body c ps (as_function_body b)) (change_items 3 (each (left_behind c)) n))
      n

  -- the temporaries of its parameters
  unfoldable pub function_makes : Node → Items
  function_makes n = cond (stands 5 n) (references (gather moved_from (items_at_of 3 n))) none

  -- 17 Arrow(params* rest? body) (transform_arrow)
  unfoldable pub arrow : Node → Node
  arrow n =
      let ps = gather moved_from (items_at_of 0 n) in
      cond (any is_moved (items_at_of 0 n)) (change_node 2 (λ b. in_body c ps (as_function_body b)) (change_items 0 (each (left_behind c)) n)) n

  -- the temporaries of its parameters
  unfoldable pub arrow_makes : Node → Items
  arrow_makes n = references (gather moved_from (items_at_of 0 n))

  -- 10 Catch(param? body), whose body is a Block already (transform_catch_clause)
  unfoldable pub catch : Node → Node
  catch n =
      cond (is_moved (node_at_of 0 n))
      (change_node 1 (λ b. in_body c (moved_from (node_at_of 0 n)) (as_block b)) (change_node 0 (left_behind c) n))
      n

  -- the temporaries of its parameter
  unfoldable pub catch_makes : Node → Items
  catch_makes n = references (moved_from (node_at_of 0 n))

  -- 7 ForIn(# left right body), 8 ForOf(# left right body await=?), where left is 4 Declaration(# kind= declarators*)
  -- (transform_variable_declaration_for_x_statement)
  unfoldable pub declaring_head : Node → Node
  declaring_head n =
      let ds = items_at_of 2 (node_at_of 1 n) in
      cond (any is_moved ds)
      (change_node 3 (λ b. in_body c (gather moved_from ds) (as_block b)) (change_node 1 (λ l. change_items 2 (each (left_behind c)) l) n))
      n

  -- the temporaries of its declarators
  unfoldable pub declaring_makes : Node → Items
  declaring_makes n = references (gather moved_from (items_at_of 2 (node_at_of 1 n)))

  -- where left is a target: it becomes `var` temporary, and `target = temporary` the first statement of the body
  -- (transform_for_statement_left)
  unfoldable pub assigning_head : Node → Node
  assigning_head n =
      let p = node_at_of 1 n in
      cond (has_object_rest p)
      (change_node 3 (λ b. change_items 1 (item (assigning p (reference c p))) (as_block b)) (change_node 1 (λ l. var_of (reference c l)) n))
      n

  -- its temporary
  unfoldable pub assigning_makes : Node → Items
  assigning_makes n = cond (has_object_rest (node_at_of 1 n)) (only (reference c (node_at_of 1 n))) none
