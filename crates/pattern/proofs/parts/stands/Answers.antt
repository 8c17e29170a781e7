use mathlib.Core.Path.{◌∙◌}
use Rattle.pattern.proofs.Fields as law
use Rattle.pattern.proofs.parts.stands.Goals as goal

pub returns-then-left-eq0 : goal.returns-then-left-eq0
returns-then-left-eq0 c = law.stands_none _ _ _ _ c.if-left-eq0.true

pub loop-init : goal.loop-init
loop-init c = law.stands_start _ _ _ _ _ _ _ _ c.if-left-eq0.false c.peek.ensures.value c.step.ensures c.peek-m.ensures.value c.row-r.ensures

pub loop-preserved : goal.loop-preserved
loop-preserved c = law.stands_more _ _ _ _ _ c.loop-test.true ∙ c.loop.invariant

pub returns-then-r-ne0 : goal.returns-then-r-ne0
returns-then-r-ne0 c = law.stands_end _ _ _ _ _ c.loop-test.false c.if-r-ne0.true ∙ c.loop.invariant

pub returns-else-r-ne0 : goal.returns-else-r-ne0
returns-else-r-ne0 c = law.stands_past _ _ _ _ c.if-r-ne0.false ∙ c.loop.invariant
