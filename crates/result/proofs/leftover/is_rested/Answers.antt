use Rattle.result.proofs.Looking as law
use Rattle.result.proofs.leftover.is_rested.Goals as goal

pub returns-then-kind-eq-OBJECT_PATTERN : goal.returns-then-kind-eq-OBJECT_PATTERN
returns-then-kind-eq-OBJECT_PATTERN c = law.rested_34 _ _ c.if-kind-eq-OBJECT_PATTERN.true

pub returns-else-kind-eq-OBJECT_PATTERN : goal.returns-else-kind-eq-OBJECT_PATTERN
returns-else-kind-eq-OBJECT_PATTERN c = law.rested_other _ _ c.if-kind-eq-OBJECT_PATTERN.false
