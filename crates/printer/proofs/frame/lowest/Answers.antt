use mathlib.Core.Path.{sym}
use native.Mathlib.Omega.{arith}
use Rattle.printer.proofs.Bits as law
use Rattle.printer.proofs.frame.lowest.Goals as goal

pub returns-then-bits-eq0 : goal.returns-then-bits-eq0
returns-then-bits-eq0 c = (sym (law.lowest_zero _ c.if-bits-eq0.true), omega arith)

pub overflow_cast-result : goal.overflow_cast-result
overflow_cast-result c = omega (arith, law.zeros_below _ c.if-bits-eq0.false c.ranges.bits.fits)

pub returns : goal.returns
returns c = (law.zeros_low _ c.if-bits-eq0.false c.ranges.bits.fits, law.zeros_less _ c.if-bits-eq0.false c.ranges.bits.fits)
