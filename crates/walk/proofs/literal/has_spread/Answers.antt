use native.Mathlib.Omega.{arith}
use mathlib.Core.Path.{refl}
use Rattle.walk.proofs.LiteralHeads as law
use Rattle.walk.proofs.literal.has_spread.Goals.{else-left-gt0-via-then-left-gt0+else-has_first, else-left-gt0-via-else-left-gt0}
use Rattle.walk.proofs.literal.has_spread.Goals as goal

pub returns-then-has_first : goal.returns-then-has_first
returns-then-has_first c = law.spreads_runs _ _ _ _ _ _ _ _ (omega arith) _ c.has_first.ensures c.if-has_first.true c.step-q.ensures c.step.ensures c.wide_at-n.ensures refl c.run_of-k.ensures

pub returns : goal.returns
returns c = elim c.else-left-gt0.branch [
  | else-left-gt0-via-then-left-gt0+else-has_first w ↦ law.spreads_bare _ _ _ (omega (arith, w.if-left-gt0.true)) _ w.has_first.ensures w.if-has_first.false
  | else-left-gt0-via-else-left-gt0 w ↦ law.spreads_none _ _ _ (omega (arith, w.if-left-gt0.false))
]
