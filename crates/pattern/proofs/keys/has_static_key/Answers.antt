use Rattle.pattern.proofs.KeyCases as law
use Rattle.pattern.proofs.keys.has_static_key.Goals as goal

pub returns-then-peek-eq1 : goal.returns-then-peek-eq1
returns-then-peek-eq1 c e = law.static_node _ _ _ _ _ _ _ _ _ c.if-not-holes.true c.if-left-gt1.true c.peek.ensures.value c.if-peek-eq-PATTERN_PROPERTY.true c.step.ensures c.peek-then-peek-eq-PATTERN_PROPERTY.ensures.value c.if-peek-eq1.true c.step-then-peek-eq1.ensures c.peek-then-peek-eq1.ensures.value e
