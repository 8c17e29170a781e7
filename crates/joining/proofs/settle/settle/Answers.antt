use Prim.Native.Nat.{◌-◌}
use native.Mathlib.Omega.{arith}
use Rattle.joining.proofs.Settling as law
use Rattle.joining.proofs.settle.settle.Goals as goal

pub loop-init : goal.loop-init
loop-init c = law.settle_count _ _ _ _ _ _ _ _ _ _ _ _ (omega (arith, c.wide_at-end.ensures.value))

pub loop-preserved : goal.loop-preserved
loop-preserved c = law.settle_next _ _ _ _ _ _ _ _ _ _ _ _ _ c.loop.invariant (omega (arith, c.loop-test.true)) _ c.wide_at.ensures.value _ c.search.ensures _ c.in-Some.is _ _ _ c.bump.ensures c.bump-in-loop.ensures c.at-at.ensures.0

pub returns : goal.returns
returns c = law.settle_none _ _ _ _ _ _ _ _ _ _ _ _ c.loop.invariant (omega (arith, c.loop-test.false))

pub returns-in_default : goal.returns-in_default
returns-in_default c = law.settle_lost _ _ _ _ _ _ _ _ (c.wide_at-end.result - c.loop.counter - 1) _ _ _ _ c.loop.invariant (omega (arith, c.loop-test.true)) _ c.wide_at.ensures.value _ c.search.ensures c.in_default.is
