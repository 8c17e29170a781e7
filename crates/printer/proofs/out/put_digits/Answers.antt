use Rattle.printer.proofs.PiecesWritten as law
use Rattle.printer.specs.Stacks.{Buffer, write, bytes_in}
use mathlib.Core.Path.{refl, ap, ◌∙◌}
use native.Mathlib.Omega.{arith}
use Prim.Native.Nat.{◌/◌}
use Rattle.printer.proofs.out.put_digits.Goals as goal

pub loop-w-init : goal.loop-w-init
loop-w-init c = law.digits_start _ _ _ (omega (arith, c.ranges.digits)) c.if-spot-out.true c.if-out-spot-gt7.true

pub bounds-out-s : goal.bounds-out-s
bounds-out-s c = law.digit_fits c.loop-w.invariant c.loop-w-test.true

pub overflow_add-s : goal.overflow_add-s
overflow_add-s c = omega (arith, law.digit_fits c.loop-w.invariant c.loop-w-test.true)

pub loop-w-preserved : goal.loop-w-preserved
loop-w-preserved c = law.digit_placed c.loop-w.invariant c.loop-w-test.true

pub returns-then-out-spot-gt7 : goal.returns-then-out-spot-gt7
returns-then-out-spot-gt7 c = law.digits_placed c.loop-w.invariant c.loop-w-test.false

pub loop-w-2-init : goal.loop-w-2-init
loop-w-2-init c = (refl, refl)

pub loop-w-2-smaller : goal.loop-w-2-smaller
loop-w-2-smaller c = omega (arith, c.loop-w-2-test.true)

pub loop-w-2-preserved : goal.loop-w-2-preserved
loop-w-2-preserved c = (ap (λ (b : Buffer). write b (bytes_in (c.loop-w-2.w / 256))) c.put-s.ensures ∙ law.digit_written _ _ c.loop-w-2-test.true ∙ c.loop-w-2.invariant.0, c.put-s.auto.out ∙ c.loop-w-2.invariant.1)

pub returns : goal.returns
returns c = law.digits_written _ _ c.loop-w-2-test.false ∙ c.loop-w-2.invariant.0
