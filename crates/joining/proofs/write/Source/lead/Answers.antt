use native.Mathlib.Omega.{arith}
use Rattle.joining.proofs.BytesWritten as law
use Rattle.joining.proofs.write.Source.lead.Goals as goal
use Rattle.joining.proofs.write.Source.lead.Goals.{else-p-lt65536-via-then-p-lt65536+else-at-gt0, else-p-lt65536-via-else-p-lt65536}

pub returns-then-at-gt0 : goal.returns-then-at-gt0
returns-then-at-gt0 c = λ h. law.before_some _ _ _ _ _ _ _ _ _ _ _ _ _ _ c.at.ensures.0 c.if-at-gt0.true c.wide_at.ensures.value c.vars.ensures

pub returns : goal.returns
returns c = λ h. elim c.else-p-lt65536.branch [
  | else-p-lt65536-via-then-p-lt65536+else-at-gt0 w ↦ law.before_none _ _ _ _ _ _ _ _ _ _ w.at.ensures.0 w.if-at-gt0.false
  | else-p-lt65536-via-else-p-lt65536 w ↦ absurd (omega (arith, w.if-p-lt65536.false))
]
