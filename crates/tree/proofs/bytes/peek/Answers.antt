use native.Mathlib.Omega.{arith}
use Rattle.tree.proofs.LeavesRead.{peeked_in, peeked_out}
use Rattle.tree.proofs.bytes.peek.Goals as goal

pub overflow_cast-result : goal.overflow_cast-result
overflow_cast-result c = omega (arith, c.type_inv.tree c.args.at)

pub returns-then-at-tree : goal.returns-then-at-tree
returns-then-at-tree c = peeked_in _ _ c.if-at-tree.true (omega (arith, c.type_inv.tree c.args.at))

pub returns-else-at-tree : goal.returns-else-at-tree
returns-else-at-tree c = peeked_out _ _ c.if-at-tree.false
