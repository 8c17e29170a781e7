use mathlib.Core.Path.{sym}
use native.Mathlib.Omega.{arith}
use Rattle.printer.proofs.Bits as law
use Rattle.printer.proofs.frame.without.Goals as goal

pub returns-then-bits-eq0 : goal.returns-then-bits-eq0
returns-then-bits-eq0 c = (sym (law.without_zero _ c.if-bits-eq0.true), omega arith)

pub overflow_cast-result : goal.overflow_cast-result
overflow_cast-result c = omega (arith, law.zeros_below _ c.if-bits-eq0.false c.ranges.bits.fits)

pub overflow_shl-result : goal.overflow_shl-result
overflow_shl-result c = law.zeros_below _ c.if-bits-eq0.false c.ranges.bits.fits

pub overflow_sub-result : goal.overflow_sub-result
overflow_sub-result c = law.bit_within _ c.if-bits-eq0.false c.ranges.bits.fits

pub returns : goal.returns
returns c = (law.bit_away _ c.if-bits-eq0.false c.ranges.bits.fits, omega arith)
