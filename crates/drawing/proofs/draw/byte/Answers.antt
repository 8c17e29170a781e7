use Rattle.drawing.proofs.DrawingWritten as law
use Rattle.std.proofs.Common.{arith}
use Rattle.drawing.proofs.draw.byte.Goals as goal

pub returns-then-high-low : goal.returns-then-high-low
returns-then-high-low c = law.byte_lone _ _ _ _ _ _ _ _ _ c.if-high-low.true c.put-at.ensures

pub overflow_add-value-2 : goal.overflow_add-value-2
overflow_add-value-2 c = omega (arith, law.byte_sum c.args.low c.args.high c.advanced-state.result c.if-high-low.false c.ranges.high.fits)

pub overflow_cast-value-4 : goal.overflow_cast-value-4
overflow_cast-value-4 c = omega (arith, law.byte_sum c.args.low c.args.high c.advanced-state.result c.if-high-low.false c.ranges.high.fits)

pub returns : goal.returns
returns c = law.byte_drawn _ _ _ _ _ _ _ _ _ _ c.if-high-low.false c.advanced-state.ensures c.put-at-2.ensures
