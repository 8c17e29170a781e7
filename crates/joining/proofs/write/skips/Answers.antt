use mathlib.Core.Path.{refl}
use Rattle.joining.proofs.BytesWritten as law
use Rattle.joining.proofs.write.skips.Goals as goal

pub returns-then-not-skip : goal.returns-then-not-skip
returns-then-not-skip c = law.skips_else _ _ _ _ c.if-not-skip.true c.at.ensures.0

pub returns-else-not-skip : goal.returns-else-not-skip
returns-else-not-skip c = rw c.if-not-skip.false (law.skips_passed _ _ _ refl)
