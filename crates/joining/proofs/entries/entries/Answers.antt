use native.Mathlib.Omega.{arith}
use Rattle.joining.proofs.Listing as law
use Rattle.joining.proofs.entries.entries.Goals as goal

pub returns-then-n-gt65535 : goal.returns-then-n-gt65535
returns-then-n-gt65535 c = (tt, λ met k a b d. (law.answers_lost (law.listing_none _ _ met c.wide_at-n.ensures.value c.if-n-gt65535.true), tt))

pub loop-init : goal.loop-init
loop-init c = law.listing_start _ _ _ _ _ (omega (arith, c.wide_at-n.ensures.value)) (omega (arith, c.if-n-gt65535.false)) (c.wide_at-n.ensures.within (omega (arith, c.if-n-gt65535.false)))

pub returns-then-wide_at-gt65535 : goal.returns-then-wide_at-gt65535
returns-then-wide_at-gt65535 c = (tt, λ met k a b d. (law.answers_lost (law.listing_short _ _ _ _ _ _ _ _ _ c.loop.invariant (omega (arith, c.loop-test.true)) _ c.wide_at.ensures.value c.if-wide_at-gt65535.true met k a b d), tt))

pub overflow_add-at : goal.overflow_add-at
overflow_add-at c = omega (arith, c.loop.invariant.high)

pub loop-preserved : goal.loop-preserved
loop-preserved c = law.listing_next _ _ _ _ _ _ _ _ _ c.loop.invariant (omega (arith, c.loop-test.true)) _ c.wide_at.ensures.value c.if-wide_at-gt65535.false _ _ _ _ c.declarators.auto.frames c.declarators.auto.seen (law.at_within _ _ _ _ c.in_ok-end.was c.declarators.ensures.0) (λ met k a b. law.at_ends _ _ _ _ c.in_ok-end.was (c.declarators.ensures.1 met k a b)) c.put.ensures c.put.auto.table _ (omega arith)

pub returns-in_err-end : goal.returns-in_err-end
returns-in_err-end c = (law.none_within _ _ _ c.from_residual.ensures, λ met k a b d. (law.none_answers _ _ _ c.from_residual.ensures (law.listing_lost _ _ _ _ _ _ _ _ _ c.loop.invariant (omega (arith, c.loop-test.true)) _ c.wide_at.ensures.value c.if-wide_at-gt65535.false (λ m y x z. law.missing_ends _ _ _ c.in_err-end.was (c.declarators.ensures.1 m y x z)) met k a b d), law.none_if _ _ c.from_residual.ensures))

pub returns : goal.returns
returns c = ((c.loop.invariant.low, c.loop.invariant.high), λ met k a b d. let e = law.listing_ends _ _ _ _ _ _ _ _ _ c.loop.invariant (omega (arith, c.loop-test.false)) met k a b d in (law.answers_at e.0, e.1))
