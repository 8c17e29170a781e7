use native.Mathlib.Omega.{arith}
use Rattle.printer.proofs.PrintingEntry as law
use Rattle.printer.proofs.out.put.Goals as goal

pub returns-then-spot-len : goal.returns-then-spot-len
returns-then-spot-len c = law.spot_fits _ _ _ c.if-spot-len.true

pub returns : goal.returns
returns c = law.spot_over _ _ _ _ c.if-spot-len.false (omega arith)
