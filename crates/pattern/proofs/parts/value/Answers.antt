use Rattle.pattern.proofs.Fields as law
use Rattle.pattern.proofs.parts.value.Goals as goal

pub returns-then-peek-eq3 : goal.returns-then-peek-eq3
returns-then-peek-eq3 c = law.value_at_lem _ _ _ _ _ _ _ _ c.if-left-gt0.true c.peek.ensures.value c.if-peek-eq-PATTERN_PROPERTY.true c.step.ensures c.peek-then-peek-eq-PATTERN_PROPERTY.ensures.value c.if-peek-eq3.true c.step-then-peek-eq3.ensures c.skip.ensures

pub returns : goal.returns
returns c = c.child.ensures
