use Rattle.rewritten.proofs.RewrittenForms as law
use native.Mathlib.Omega.{arith}
use Rattle.rewritten.proofs.plan.form_at.Goals as goal
use Rattle.rewritten.proofs.plan.form_at.Goals.{else-form_at-eq0-via-then-form_at-eq0+else-form_at-eq0-2, else-form_at-eq0-via-else-form_at-eq0}

pub returns-then-form_at-eq0-2 : goal.returns-then-form_at-eq0-2
returns-then-form_at-eq0-2 c = law.form_temporary_none _ _ c.in-20.is _ _ c.form_at.ensures c.if-form_at-eq0.true c.form_at-then-form_at-eq0.ensures c.if-form_at-eq0-2.true

pub returns-else-form_at-eq0 : goal.returns-else-form_at-eq0
returns-else-form_at-eq0 c = (elim c.else-form_at-eq0.branch [
  | else-form_at-eq0-via-then-form_at-eq0+else-form_at-eq0-2 w ↦ law.form_temporary_binding _ _ c.in-20.is _ _ c.form_at.ensures w.if-form_at-eq0.true w.form_at-then-form_at-eq0.ensures w.if-form_at-eq0-2.false
  | else-form_at-eq0-via-else-form_at-eq0 w ↦ law.form_temporary _ _ c.in-20.is _ c.form_at.ensures w.if-form_at-eq0.false
])

pub returns-then-form_at-eq0-3 : goal.returns-then-form_at-eq0-3
returns-then-form_at-eq0-3 c = law.form_helper_none _ c.args.kind (λ z. omega (arith, z, c.in-21.is)) c.in-21.is _ c.form_at-in-21.ensures c.if-form_at-eq0-3.true

pub returns-else-form_at-eq0-3 : goal.returns-else-form_at-eq0-3
returns-else-form_at-eq0-3 c = law.form_helper _ c.args.kind (λ z. omega (arith, z, c.in-21.is)) c.in-21.is _ c.form_at-in-21.ensures c.if-form_at-eq0-3.false

pub returns-in_default : goal.returns-in_default
returns-in_default c = law.form_other _ c.args.kind (λ z. omega (arith, z)) (λ z. omega (arith, z)) _ c.form_at-in_default.ensures
