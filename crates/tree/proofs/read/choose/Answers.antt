use Rattle.tree.proofs.LeavesRead.{chosen_first, chosen_second}
use Rattle.tree.proofs.read.choose.Goals as goal

pub returns-then-peek-eq1 : goal.returns-then-peek-eq1
returns-then-peek-eq1 c = chosen_first _ _ _ _ _ (rw c.saturating_sub.ensures at c.peek.ensures) c.if-peek-eq1.true

pub returns-else-peek-eq1 : goal.returns-else-peek-eq1
returns-else-peek-eq1 c = chosen_second _ _ _ _ _ (rw c.saturating_sub.ensures at c.peek.ensures) c.if-peek-eq1.false
