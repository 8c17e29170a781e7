use native.Mathlib.Omega.{arith}
use mathlib.Core.Path.{sym, ◌∙◌}
use Rattle.walk.proofs.Lookups as law
use Rattle.walk.proofs.look.start_of.Goals.{else-left-gt0-via-then-left-gt0+else-has_second, else-left-gt0-via-else-left-gt0}
use Rattle.walk.proofs.look.start_of.Goals as goal

pub returns-then-has_second : goal.returns-then-has_second
returns-then-has_second c = law.start_some _ _ _ _ _ _ c.if-left-gt0.true c.has_second.ensures c.if-has_second.true c.step.ensures c.skip.ensures

pub returns : goal.returns
returns c = law.start_none _ _ _ (λ z. elim c.else-left-gt0.branch [
  | else-left-gt0-via-then-left-gt0+else-has_second w ↦ sym w.has_second.ensures ∙ w.if-has_second.false
  | else-left-gt0-via-else-left-gt0 w ↦ absurd (omega (arith, z, w.if-left-gt0.false))
])
