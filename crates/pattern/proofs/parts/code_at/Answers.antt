use Prim.Native.Nat.{◌-◌}
use mathlib.Core.Path.{◌∙◌}
use native.Mathlib.Omega.{arith}
use Rattle.pattern.proofs.Fields as law
use Rattle.pattern.proofs.parts.code_at.Goals as goal

pub loop-preserved : goal.loop-preserved
loop-preserved c = law.code_more _ _ _ c.loop-test.true ∙ c.loop.invariant

pub returns : goal.returns
returns c = let h = c.loop-test.false in law.code_end c.loop.r (c.args.i - c.loop.counter) (omega arith) ∙ c.loop.invariant
