use native.Mathlib.Omega.{arith}
use Rattle.tree.proofs.AnswerByNumber.{answers_by}
use Rattle.tree.proofs.LeavesRead.{text_missing, text_fits, text_short}
use Prim.Native.Nat.{◌+◌, ◌<◌}
use lib.ListN.{length}
use Rattle.tree.proofs.read.read_text.Goals as goal

pub returns-then-n-gt65535 : goal.returns-then-n-gt65535
returns-then-n-gt65535 c = answers_by _ _ (text_missing _ _ _ _ c.wide_at-n.ensures c.if-n-gt65535.true)

pub overflow_add-start : goal.overflow_add-start
overflow_add-start c = let h : c.args.at + 1 < length c.args.tree.now = c.wide_at-n.ensures.within (omega arith) in
    omega arith

pub overflow_sub-tree : goal.overflow_sub-tree
overflow_sub-tree c = let h : c.args.at + 1 < length c.args.tree.now = c.wide_at-n.ensures.within (omega arith) in
    omega arith

pub overflow_add-result : goal.overflow_add-result
overflow_add-result c = let h : c.args.at + 1 < length c.args.tree.now = c.wide_at-n.ensures.within (omega arith) in
    omega arith

pub returns-then-n-tree : goal.returns-then-n-tree
returns-then-n-tree c = answers_by _ _ (text_fits _ _ _ _ c.wide_at-n.ensures c.if-n-gt65535.false c.if-n-tree.true)

pub returns-else-n-tree : goal.returns-else-n-tree
returns-else-n-tree c = answers_by _ _ (text_short _ _ _ _ c.wide_at-n.ensures c.if-n-gt65535.false c.if-n-tree.false)
