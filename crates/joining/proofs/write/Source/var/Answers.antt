use native.Mathlib.Omega.{arith}
use Rattle.joining.proofs.BytesWritten as law
use Rattle.joining.proofs.write.Source.var.Goals as goal
use Rattle.joining.proofs.write.Source.var.Goals.{else-at-lt65536-via-then-at-lt65536+else-wide_at-mark, else-at-lt65536-via-else-at-lt65536}

pub returns-then-wide_at-mark : goal.returns-then-wide_at-mark
returns-then-wide_at-mark c = λ h. law.var_written _ _ _ _ _ _ _ _ _ _ _ _ c.wide_at.ensures.value c.if-wide_at-mark.true c.fresh-mark.ensures c.declaration-at.ensures

pub returns : goal.returns
returns c = λ h. elim c.else-at-lt65536.branch [
  | else-at-lt65536-via-then-at-lt65536+else-wide_at-mark w ↦ law.var_passed _ _ _ _ _ _ _ _ _ w.wide_at.ensures.value w.if-wide_at-mark.false
  | else-at-lt65536-via-else-at-lt65536 w ↦ absurd (omega (arith, w.if-at-lt65536.false))
]
