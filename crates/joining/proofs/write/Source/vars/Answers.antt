use native.Mathlib.Omega.{arith}
use Rattle.joining.proofs.BytesWritten as law
use Rattle.joining.proofs.write.Source.vars.Goals as goal

pub loop-init : goal.loop-init
loop-init c = law.telling_start _ _ _ _ _ _ _ _ _ (omega (arith, c.wide_at-end.ensures.value))

pub loop-preserved : goal.loop-preserved
loop-preserved c = law.telling_next _ _ _ _ _ _ _ _ _ _ _ _ _ _ c.loop.invariant (omega (arith, c.loop-test.true)) _ c.at-end.ensures.0 c.at-end.ensures.1 _ _ _ (c.var-to.ensures c.loop.invariant.near)

pub returns : goal.returns
returns c = law.telling_ends _ _ _ _ _ _ _ _ _ _ _ _ _ c.loop.invariant (omega (arith, c.loop-test.false))
