use mathlib.Core.Path.{ap, ◌∙◌}
use Rattle.pattern.specs.Parts.{field_values}
use Rattle.pattern.proofs.Fields as law
use Rattle.pattern.proofs.parts.field.Goals as goal
use Rattle.pattern.proofs.parts.field.Goals.{then-row-eq0-via-then-row-eq0, then-row-eq0-via-else-row-eq0+then-map-eq0}

pub returns-then-left-eq0 : goal.returns-then-left-eq0
returns-then-left-eq0 c = law.field_none _ _ _ _ c.if-left-eq0.true

pub returns-then-row-eq0 : goal.returns-then-row-eq0
returns-then-row-eq0 c = (elim c.then-row-eq0.branch [ then-row-eq0-via-then-row-eq0 w ↦ law.first_past _ _ _ _ _ _ _ _ _ c.if-left-eq0.false c.peek.ensures.value c.step.ensures c.peek-map.ensures.value c.row-row.ensures c.step-first.ensures w.if-row-eq0.true | then-row-eq0-via-else-row-eq0+then-map-eq0 w ↦ law.first_absent _ _ _ _ _ _ _ _ _ c.if-left-eq0.false c.peek.ensures.value c.step.ensures c.peek-map.ensures.value c.row-row.ensures c.step-first.ensures c.if-i-eq0.true w.if-row-eq0.false w.if-map-eq0.true ])

pub returns-then-i-eq0 : goal.returns-then-i-eq0
returns-then-i-eq0 c = law.first_at _ _ _ _ _ _ _ _ _ c.if-left-eq0.false c.peek.ensures.value c.step.ensures c.peek-map.ensures.value c.row-row.ensures c.step-first.ensures _ c.if-i-eq0.true c.if-row-eq0.false c.if-map-eq0.false c.held.ensures

pub returns-in_err-q : goal.returns-in_err-q
returns-in_err-q c = ap field_values c.from_residual.ensures ∙ law.field_missing _ _ _ _ _ _ _ _ _ c.if-left-eq0.false c.peek.ensures.value c.step.ensures c.peek-map.ensures.value c.row-row.ensures c.step-first.ensures _ c.seek.ensures c.in_err-q.was

pub returns : goal.returns
returns c = law.field_at _ _ _ _ _ _ _ _ _ c.if-left-eq0.false c.peek.ensures.value c.step.ensures c.peek-map.ensures.value c.row-row.ensures c.step-first.ensures _ c.code_at.result _ _ c.seek.ensures c.in_ok-q.was c.code_at.ensures c.held-2.ensures
