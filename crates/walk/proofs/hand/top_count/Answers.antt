use Rattle.walk.proofs.TargetCounts.{values_below}
use native.Mathlib.Omega.{arith}
use Rattle.walk.proofs.HandRules as law
use Rattle.walk.proofs.hand.top_count.Goals as goal

pub overflow_add-result : goal.overflow_add-result
overflow_add-result c = omega (arith, values_below _ _ _ _ _ c.object_count-n.ensures)

pub returns-then-statement : goal.returns-then-statement
returns-then-statement c = law.count_statement _ _ _ _ _ c.object_count-n.ensures c.if-statement.true

pub overflow_add-result-2 : goal.overflow_add-result-2
overflow_add-result-2 c = omega (arith, values_below _ _ _ _ _ c.object_count-n.ensures)

pub returns : goal.returns
returns c = law.count_read _ _ _ _ _ c.object_count-n.ensures c.if-statement.false
