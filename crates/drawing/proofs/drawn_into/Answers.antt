use Rattle.std.proofs.Common.{rules}
use Rattle.drawing.proofs.DrawingEntry as law
use Rattle.drawing.proofs.drawn_into.Goals as goal

pub returns-then-seed-eq0 : goal.returns-then-seed-eq0
returns-then-seed-eq0 c = law.zero_seed_lem c.args.seed c.args.tree_out.now _ c.if-seed-eq0.true (search rules)

pub returns-then-tree_out-end : goal.returns-then-tree_out-end
returns-then-tree_out-end c = law.too_short _ c.args.tree_out.now _ _ c.node-end.result c.if-seed-eq0.false (search rules) _ c.node-end.ensures c.if-tree_out-end.true (search rules)

pub returns : goal.returns
returns c = law.drawn_in _ c.args.tree_out.now _ _ c.node-end.result c.if-seed-eq0.false (search rules) c.node-end.ensures c.if-tree_out-end.false
