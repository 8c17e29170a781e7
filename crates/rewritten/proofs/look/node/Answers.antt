use Rattle.rewritten.proofs.Ahead as law
use Rattle.rewritten.proofs.Moves as moves
use lib.ListN.{length}
use Prim.Native.Nat.{◌<◌, ◌^◌}
use mathlib.Core.Path.{ap}
use Rattle.rewritten.specs.Pending.{sorts}
use native.Mathlib.Omega.{arith}
use Rattle.rewritten.proofs.look.node.Goals as goal

pub returns-then-form-eq0 : goal.returns-then-form-eq0
returns-then-form-eq0 c = law.node_wrong _ _ _ _ _ c.peek-kind.ensures c.form_at-form.ensures c.if-form-eq0.true

pub overflow_add-at : goal.overflow_add-at
overflow_add-at c = let h : c.args.at < length c.args.tree.now = moves.enter_there _ _ _ _ _ c.peek-kind.ensures c.form_at-form.ensures c.if-form-eq0.false in omega arith

pub overflow_mul-result : goal.overflow_mul-result
overflow_mul-result c = let h : c.plan.result < 1024 ^ 6 = moves.plan_small c.args.tree.now c.args.tree.now _ _ 0 0 _ _ c.peek-kind.ensures c.form_at-form.ensures c.if-form-eq0.false _ _ c.peek-map.ensures (ap sorts c.row-row.ensures) _ c.plan.ensures.1 in omega arith

pub overflow_add-result : goal.overflow_add-result
overflow_add-result c = let h : c.plan.result < 1024 ^ 6 = moves.plan_small c.args.tree.now c.args.tree.now _ _ 0 0 _ _ c.peek-kind.ensures c.form_at-form.ensures c.if-form-eq0.false _ _ c.peek-map.ensures (ap sorts c.row-row.ensures) _ c.plan.ensures.1 in omega arith

pub returns-then-fits : goal.returns-then-fits
returns-then-fits c = law.node_fits _ _ _ _ _ c.peek-kind.ensures c.form_at-form.ensures c.if-form-eq0.false _ _ c.peek-map.ensures (ap sorts c.row-row.ensures) (moves.found_true c.fits.ensures c.if-fits.true) _ c.plan.ensures.1

pub returns-else-fits : goal.returns-else-fits
returns-else-fits c = law.node_unfit _ _ _ _ _ c.peek-kind.ensures c.form_at-form.ensures c.if-form-eq0.false _ _ c.peek-map.ensures (ap sorts c.row-row.ensures) (moves.found_true c.fits.ensures c.if-fits.false)
