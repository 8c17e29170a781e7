use Rattle.printer.proofs.Named as law
use native.Mathlib.Omega.{arith}
use Rattle.printer.proofs.names.made.Goals as goal

pub overflow_mul-low : goal.overflow_mul-low
overflow_mul-low c = omega (arith, c.bits-then-i-lt64.ensures.1)

pub overflow_add-low : goal.overflow_add-low
overflow_add-low c = omega (arith, c.bits.ensures.1, c.bits-then-i-lt64.ensures.1)

pub overflow_mul-high : goal.overflow_mul-high
overflow_mul-high c = omega (arith, c.bits-then-i-lt64-2.ensures.1)

pub overflow_mul-high-then-i-lt64 : goal.overflow_mul-high-then-i-lt64
overflow_mul-high-then-i-lt64 c = omega (arith, c.bits-then-i-lt64-3.ensures.1)

pub overflow_add-high : goal.overflow_add-high
overflow_add-high c = omega (arith, c.bits-then-i-lt64-2.ensures.1, c.bits-then-i-lt64-3.ensures.1)

pub overflow_add-result : goal.overflow_add-result
overflow_add-result c = omega (arith, c.bits.ensures.1, c.bits-then-i-lt64.ensures.1, c.bits-then-i-lt64-2.ensures.1, c.bits-then-i-lt64-3.ensures.1)

pub returns-then-i-lt64 : goal.returns-then-i-lt64
returns-then-i-lt64 c = (λ h. rw (c.bits.ensures.0, c.bits-then-i-lt64.ensures.0, c.bits-then-i-lt64-2.ensures.0, c.bits-then-i-lt64-3.ensures.0) (law.rule_made _ h), omega (arith, c.bits.ensures.1, c.bits-then-i-lt64.ensures.1, c.bits-then-i-lt64-2.ensures.1, c.bits-then-i-lt64-3.ensures.1))

pub returns : goal.returns
returns c = (λ h. absurd (omega (arith, h, c.if-i-lt64.false)), omega arith)
