use native.Mathlib.Omega.{arith}
use Rattle.joining.proofs.FallingChains as law
use Rattle.joining.proofs.search.Filed.search.Goals as goal

pub containers-init : goal.containers-init
containers-init c = law.outer_start _ _ _ _ _ _

pub loop-statement-init : goal.loop-statement-init
loop-statement-init c = (law.outer_enters _ _ _ _ _ _ _ _ c.containers.invariant c.containers-test.true c.at-statement.ensures.0, c.at-statement.ensures.1)

pub overflow_add-statement : goal.overflow_add-statement
overflow_add-statement c = omega (arith, c.loop-statement.invariant.1)

pub loop-statement-smaller : goal.loop-statement-smaller
loop-statement-smaller c = c.back-statement.ensures.1 c.loop-statement-test.true

pub loop-statement-preserved : goal.loop-statement-preserved
loop-statement-preserved c = (law.inner_next _ _ _ _ _ _ _ _ _ c.loop-statement.invariant.0 c.loop-statement-test.true _ c.wide_at.ensures.value c.if-wide_at-mark.false c.back-statement.ensures.0, omega (arith, c.loop-statement.invariant.1, c.back-statement.ensures.1 c.loop-statement-test.true))

pub containers-smaller : goal.containers-smaller
containers-smaller c = c.back-list.ensures.1 c.containers-test.true

pub containers-preserved : goal.containers-preserved
containers-preserved c = law.inner_ends _ _ _ _ _ _ _ _ _ c.loop-statement.invariant.0 c.loop-statement-test.false c.back-list.ensures.0

pub returns : goal.returns
returns c = law.outer_ends _ _ _ _ _ _ _ c.containers.invariant c.containers-test.false

pub returns-then-wide_at-mark : goal.returns-then-wide_at-mark
returns-then-wide_at-mark c = law.inner_found _ _ _ _ _ _ _ _ c.loop-statement.invariant.0 c.loop-statement-test.true _ c.wide_at.ensures.value c.if-wide_at-mark.true
