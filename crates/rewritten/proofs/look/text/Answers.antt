use Rattle.rewritten.proofs.Ahead as law
use native.Mathlib.Omega.{arith}
use lib.ListN.{length}
use Prim.Native.Nat.{◌+◌, ◌<◌}
use Rattle.rewritten.proofs.look.text.Goals as goal

pub returns-then-n-gt65535 : goal.returns-then-n-gt65535
returns-then-n-gt65535 c = (law.text_missing _ _ _ c.wide_at-n.ensures c.if-n-gt65535.true, law.coded_none 3)

pub overflow_add-at : goal.overflow_add-at
overflow_add-at c = let h : c.args.at + 1 < length c.args.tree.now = c.wide_at-n.ensures.within (omega arith) in omega arith

pub overflow_sub-tree : goal.overflow_sub-tree
overflow_sub-tree c = let h : c.args.at + 1 < length c.args.tree.now = c.wide_at-n.ensures.within (omega arith) in omega arith

pub returns-then-n-tree : goal.returns-then-n-tree
returns-then-n-tree c = (law.text_found _ _ _ c.wide_at-n.ensures c.if-n-gt65535.false c.if-n-tree.true, law.coded 3 _ (omega arith))

pub returns-else-n-tree : goal.returns-else-n-tree
returns-else-n-tree c = (law.text_short _ _ _ c.wide_at-n.ensures c.if-n-gt65535.false c.if-n-tree.false, law.coded_none 3)
