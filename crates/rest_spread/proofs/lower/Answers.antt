use native.Mathlib.Omega.{arith}
use Rattle.rest_spread.proofs.LoweringEntry as law
use Rattle.rest_spread.proofs.Uncleared.{prefix_long, begun_twins}
use Rattle.rest_spread.proofs.lower.Goals as goal

pub slice_bounds-begin-end : goal.slice_bounds-begin-end
slice_bounds-begin-end c = omega (arith, c.min-cells.ensures)

pub slice_bounds-begin-end-2 : goal.slice_bounds-begin-end-2
slice_bounds-begin-end-2 c = prefix_long _ c.args.work.now c.min-cells.ensures

pub returns-then-refusal-gt0 : goal.returns-then-refusal-gt0
returns-then-refusal-gt0 c =
    law.ends_refused _ _ c.args.tree.now c.args.out.now c.args.list.now c.args.work.now _ c.args.tree.now (λ i. omega (arith, c.type_inv.tree i)) _ _ _ _ (begun_twins _ c.args.work.now c.min-cells.ensures _ _ _ _ _ _ _ c.begin-k.ensures) _ _ _ _ _ c.node-v.ensures.1 _ c.low.ensures c.if-refusal-gt0.true

pub returns-in_default : goal.returns-in_default
returns-in_default c =
    law.ends_too_long _ _ c.args.tree.now c.args.out.now c.args.list.now c.args.work.now _ c.args.tree.now (λ i. omega (arith, c.type_inv.tree i)) _ _ _ _ (begun_twins _ c.args.work.now c.min-cells.ensures _ _ _ _ _ _ _ c.begin-k.ensures) _ _ _ _ _ c.node-v.ensures.1 _ _ _ _ (omega (arith, c.if-refusal-gt0.false)) c.from.ensures c.in_default.ensures

pub returns : goal.returns
returns c =
    law.ends_fits _ _ c.args.tree.now c.args.out.now c.args.list.now c.args.work.now _ c.args.tree.now (λ i. omega (arith, c.type_inv.tree i)) _ _ _ _ (begun_twins _ c.args.work.now c.min-cells.ensures _ _ _ _ _ _ _ c.begin-k.ensures) _ _ _ _ _ c.node-v.ensures.1 _ _ _ _ (omega (arith, c.if-refusal-gt0.false)) c.in-Some.ensures
