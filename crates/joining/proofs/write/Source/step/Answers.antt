use Rattle.joining.proofs.BytesWritten as law
use Rattle.joining.proofs.write.Source.step.Goals as goal

pub returns-then-skip : goal.returns-then-skip
returns-then-skip c = λ h. law.step_passed _ _ _ _ _ _ _ _ _ _ _ c.if-skip.true

pub returns-then-n-gt0 : goal.returns-then-n-gt0
returns-then-n-gt0 c = λ h. law.step_counted _ _ _ _ _ _ _ _ _ _ _ c.if-skip.false _ _ _ _ c.at-n.ensures.0 c.if-n-gt0.true c.wide_at.ensures.value c.put_wide-at.ensures

pub returns : goal.returns
returns c = λ h. law.step_kept _ _ _ _ _ _ _ _ _ _ _ c.if-skip.false _ _ _ _ _ _ _ c.at-n.ensures.0 c.if-n-gt0.false (c.lead-led.ensures h) c.byte.ensures c.put-at.ensures
