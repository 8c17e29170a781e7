use Rattle.rewritten.proofs.Frames as law
use native.Mathlib.Omega.{arith}
use Rattle.rewritten.proofs.plan.plan.Goals as goal
use Rattle.rewritten.proofs.plan.plan.Goals.{else-bits-eq1, then-bits-eq1}

pub returns-then-row-gt1152921504606846975 : goal.returns-then-row-gt1152921504606846975
returns-then-row-gt1152921504606846975 c = law.plan_long _ _ c.if-row-gt1152921504606846975.true

pub returns-then-row-gt0 : goal.returns-then-row-gt0
returns-then-row-gt0 c = rw c.if-map-eq1.true (law.plan_one _ c.if-row-gt0.true)

pub returns-then-row-gt1023 : goal.returns-then-row-gt1023
returns-then-row-gt1023 c = rw c.if-map-eq3.true (law.plan_two _ c.if-row-gt1023.true)

pub loop-left-init : goal.loop-left-init
loop-left-init c = law.planning_start _ _ c.if-row-gt1152921504606846975.false

pub overflow_mul-made : goal.overflow_mul-made
overflow_mul-made c = omega (arith, law.planning_scale _ _ _ _ _ _ c.loop-left.invariant c.loop-left-test.true, law.planning_digit _ _ _ _ _ _ c.loop-left.invariant c.loop-left-test.true)

pub overflow_add-made-then-bits-eq1 : goal.overflow_add-made-then-bits-eq1
overflow_add-made-then-bits-eq1 c = omega (arith, c.loop-left.invariant.below, law.planning_scale _ _ _ _ _ _ c.loop-left.invariant c.loop-left-test.true, law.planning_digit _ _ _ _ _ _ c.loop-left.invariant c.loop-left-test.true)

pub overflow_mul-scale : goal.overflow_mul-scale
overflow_mul-scale c = omega (arith, law.planning_scale _ _ _ _ _ _ c.loop-left.invariant c.loop-left-test.true)

pub loop-left-smaller : goal.loop-left-smaller
loop-left-smaller c = omega (arith, c.loop-left-test.true)

pub loop-left-preserved : goal.loop-left-preserved
loop-left-preserved c = (elim c.if-bits-eq1.branch [ then-bits-eq1 w ↦ rw (w.made-is, w.scale-is) (law.planning_stands _ _ _ _ _ _ c.loop-left.invariant c.loop-left-test.true w.if-bits-eq1.true) | else-bits-eq1 w ↦ rw (w.made-is, w.scale-is) (law.planning_absent _ _ _ _ _ _ c.loop-left.invariant c.loop-left-test.true w.if-bits-eq1.false) ])

pub returns : goal.returns
returns c = law.planning_ends _ _ _ _ _ _ c.loop-left.invariant c.loop-left-test.false
