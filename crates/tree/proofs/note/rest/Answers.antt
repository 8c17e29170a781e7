use Rattle.tree.proofs.Noting as law
use Rattle.tree.proofs.note.rest.Goals as goal

pub returns-then-kind-eq-OBJECT_PATTERN : goal.returns-then-kind-eq-OBJECT_PATTERN
returns-then-kind-eq-OBJECT_PATTERN c = law.rest_pattern _ _ c.if-kind-eq-OBJECT_PATTERN.true

pub returns-else-kind-eq-OBJECT_PATTERN : goal.returns-else-kind-eq-OBJECT_PATTERN
returns-else-kind-eq-OBJECT_PATTERN c = law.rest_other _ _ c.if-kind-eq-OBJECT_PATTERN.false
