use Rattle.std.proofs.lemmas.Result.{err_from_is_err_and}
use Rattle.tree.proofs.ReaderCycle as law
use Rattle.tree.proofs.Reading as read
use Rattle.tree.proofs.read.whole.Goals as goal

pub returns-then-tree-gt16384 : goal.returns-then-tree-gt16384
returns-then-tree-gt16384 c = read.whole_refused _ _ _ _ _ (law.tree_long _ _ c.if-tree-gt16384.true)

pub returns-in_err-end : goal.returns-in_err-end
returns-in_err-end c = let p = err_from_is_err_and c.from_residual.result c.from_residual.ensures.1 in rw (p.1, p.2) (read.whole_refused _ _ _ _ _ (law.tree_refused _ _ _ c.if-tree-gt16384.false (read.told_not _ _ _ _ c.node.ensures _ c.in_err-end.was)))

pub returns-then-end-tree : goal.returns-then-end-tree
returns-then-end-tree c = read.whole_read _ _ _ _ _ _ _ (law.tree_read _ _ _ _ c.if-tree-gt16384.false (read.told_got _ _ _ _ c.node.ensures _ c.in_ok-end.was) c.if-end-tree.true) (c.node.ensures.writes _ c.in_ok-end.was)

pub returns-else-end-tree : goal.returns-else-end-tree
returns-else-end-tree c = read.whole_refused _ _ _ _ _ (law.tree_more _ _ _ _ c.if-tree-gt16384.false (read.told_got _ _ _ _ c.node.ensures _ c.in_ok-end.was) c.if-end-tree.false)
