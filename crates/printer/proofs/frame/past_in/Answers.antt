use native.Mathlib.Omega.{arith}
use Rattle.printer.proofs.ArraysHeld as law
use Rattle.printer.proofs.frame.past_in.Goals as goal

pub overflow_sub-result : goal.overflow_sub-result
overflow_sub-result c = c.without.ensures.1

pub overflow_mul-result : goal.overflow_mul-result
overflow_mul-result c = omega (arith, c.rem_in-rem.ensures)

pub overflow_sub-result-2 : goal.overflow_sub-result-2
overflow_sub-result-2 c = omega (arith, c.rem_in-rem.ensures)

pub returns : goal.returns
returns c = law.past_by c.args.v _ _ (omega (arith, c.ranges.v.fits)) c.rem_in-rem.ensures c.without.ensures.0 c.without.ensures.1
