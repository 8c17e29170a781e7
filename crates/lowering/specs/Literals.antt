-- Object literals (document 01, 'The rewriting', Literal; transform_object_expression).
use Rattle.std.specs.Prelude.{true, false, cond}
use Rattle.tree.specs.Tree.{Node, Items}
use Rattle.tree.specs.Tree.Items.{none, hole, item}
use Rattle.lowering.specs.Parts.{is, node_at_of, items_at_of, only, any, ◌+++◌}
use Rattle.lowering.specs.Made.{S, object}

-- the call of S so far
pub data Call : Type 0 where
  no_call : Call
  call : Node → Call

-- the arguments that the next call begins with: {pending}; the call so far; or that, {} and {pending} (make_object_spread)
unfoldable pub opened : Call → Items → Items
opened no_call pending = only (object pending)
opened (call c) none = only c
opened (call c) (hole ps) = only c
opened (call c) (item p ps) = item c (item (object none) (only (object (item p ps))))

-- what stands at the end: properties that are still pending make one more call
unfoldable pub closed : Call → Items → Node
closed no_call pending = object pending
closed (call c) none = c
closed (call c) (hole ps) = c
closed (call c) (item p ps) = S (opened (call c) (item p ps))

-- the properties in turn, behind a call and pending properties: 26 Spread(arg) makes the next call, its argument last
unfoldable pub scan : Call → Items → Items → Node
scan c pending none = closed c pending
scan c pending (hole ps) = scan c pending ps
scan c pending (item p ps) =
    elim (is 26 p) [
      | true ↦ scan (call (S (opened c pending +++ only (node_at_of 0 p)))) none ps
      | false ↦ scan c (pending +++ only p) ps
    ]

-- 24 Object(properties*); without a spread it is left as it stands
unfoldable pub literal : Node → Node
literal n = cond (any (λ p. is 26 p) (items_at_of 0 n)) (scan no_call none (items_at_of 0 n)) n
