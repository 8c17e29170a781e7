-- Lowerings that the law rules out (proofs/ImpostorsFail.antt).
use Rattle.std.specs.Prelude.{cond}
use Rattle.tree.specs.Tree.{Node, Items}
use Rattle.tree.specs.Tree.Items.{none, hole, item}
use Rattle.lowering.specs.Parts.{is, node_at_of, items_at_of, only, ◌+++◌}
use Rattle.lowering.specs.Made.{S, object}
use Rattle.lowering.specs.Literals.{Call, opened, scan}
use Rattle.lowering.specs.Literals.Call.{no_call, call}

-- a rule for the properties of a literal, as a lowering
abbrev by_rule : (Items → Node) → Node → Node
by_rule rule n = cond (is 24 n) (rule (items_at_of 0 n)) n

-- 1. `{...a, x: 1}` is S(S({}, a), {x: 1}): what is pending stands second, where it is read as a spread
abbrev opened_second : Call → Items → Items
opened_second no_call pending = only (object pending)
opened_second (call c) none = only c
opened_second (call c) (hole ps) = only c
opened_second (call c) (item p ps) = item c (only (object (item p ps)))

abbrev closed_second : Call → Items → Node
closed_second no_call pending = object pending
closed_second (call c) none = c
closed_second (call c) (hole ps) = c
closed_second (call c) (item p ps) = S (opened_second (call c) (item p ps))

abbrev scan_second : Call → Items → Items → Node
scan_second c pending none = closed_second c pending
scan_second c pending (hole ps) = scan_second c pending ps
scan_second c pending (item p ps) =
    let atSpread = scan_second (call (S (opened_second c pending +++ only (node_at_of 0 p)))) none ps in
    let atOther = scan_second c (pending +++ only p) ps in
    cond (is 26 p) atSpread atOther

abbrev pub second : Node → Node
second n = by_rule (λ ps. scan_second no_call none ps) n

-- 2. `{...a, ...b}` is S(S({}, b), a): the properties from the last to the first
abbrev turned : Items → Items
turned none = none
turned (hole ps) = turned ps
turned (item p ps) = turned ps +++ only p

abbrev pub backwards : Node → Node
backwards n = by_rule (λ ps. scan no_call none (turned ps)) n

-- 3. `{...a, x: 1}` is S({x: 1}, a): the spreads behind all else
abbrev spreads_last : Items → Items → Items
spreads_last late none = late
spreads_last late (hole ps) = spreads_last late ps
spreads_last late (item p ps) =
    let l = spreads_last (late +++ only p) ps in
    let r = item p (spreads_last late ps) in
    cond (is 26 p) l r

abbrev pub gathered : Node → Node
gathered n = by_rule (λ ps. scan no_call none (spreads_last none ps)) n

-- 4. `{...a, x: 1}` is S({}, a): what is pending at the end is lost
abbrev closed_lost : Call → Items → Node
closed_lost no_call pending = object pending
closed_lost (call c) pending = c

abbrev scan_lost : Call → Items → Items → Node
scan_lost c pending none = closed_lost c pending
scan_lost c pending (hole ps) = scan_lost c pending ps
scan_lost c pending (item p ps) =
    let atSpread = scan_lost (call (S (opened c pending +++ only (node_at_of 0 p)))) none ps in
    let atOther = scan_lost c (pending +++ only p) ps in
    cond (is 26 p) atSpread atOther

abbrev pub lost : Node → Node
lost n = by_rule (λ ps. scan_lost no_call none ps) n
