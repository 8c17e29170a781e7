use Rattle.result.proofs.Looking as law
use Rattle.result.proofs.leftover.meet.Goals as goal

pub returns-then-met : goal.returns-then-met
returns-then-met c = λ tree. law.met_before _ _ c.if-met.true

pub returns-else-met : goal.returns-else-met
returns-else-met c = λ tree. law.met_now _ _ _ c.if-met.false (c.rest_met.ensures tree)
