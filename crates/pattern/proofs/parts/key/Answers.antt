use Rattle.pattern.proofs.Fields as law
use Rattle.pattern.proofs.parts.key.Goals as goal

pub returns-then-peek-eq1 : goal.returns-then-peek-eq1
returns-then-peek-eq1 c = law.key_at_lem _ _ _ _ _ _ _ c.if-left-gt0.true c.peek.ensures.value c.if-peek-eq-PATTERN_PROPERTY.true c.step.ensures c.peek-then-peek-eq-PATTERN_PROPERTY.ensures.value c.if-peek-eq1.true c.step-then-peek-eq1.ensures

pub returns : goal.returns
returns c = c.child.ensures
