use mathlib.Core.Logic.{inl, inr}
use native.Mathlib.Omega.{arith}
use Rattle.joining.proofs.Listing as law
use Rattle.joining.proofs.entries.declarators.Goals as goal

pub returns-then-n-gt65535 : goal.returns-then-n-gt65535
returns-then-n-gt65535 c = (tt, λ met k a b. law.answers_lost (law.declarators_none _ _ _ met c.if-n-gt65535.true c.wide_at-n.ensures.value))

pub overflow_add-cursor : goal.overflow_add-cursor
overflow_add-cursor c = omega (arith, c.wide_at-n.ensures.within (omega (arith, c.if-n-gt65535.false)))

pub overflow_mul-cursor : goal.overflow_mul-cursor
overflow_mul-cursor c = omega (arith, c.if-n-gt65535.false)

pub overflow_add-cursor-2 : goal.overflow_add-cursor-2
overflow_add-cursor-2 c = omega (arith, c.if-n-gt65535.false)

pub loop-e-init : goal.loop-e-init
loop-e-init c = law.declaring_start c.args.list.now _ _ _ _ c.if-n-gt65535.false c.wide_at-n.ensures.value (c.wide_at-n.ensures.within (omega (arith, c.if-n-gt65535.false)))

pub loop-e-smaller : goal.loop-e-smaller
loop-e-smaller c = law.declaring_falls _ _ _ _ _ _ _ c.loop-e.invariant _ _ c.next.ensures.1 c.in-Next.e _ c.in-Next.is

pub loop-e-preserved : goal.loop-e-preserved
loop-e-preserved c = law.declaring_next _ _ _ _ _ _ _ c.loop-e.invariant _ _ c.next.ensures.1 c.in-Next.e _ c.in-Next.is _ c.is_new.ensures c.next.ensures.0 c.if-is_new.true _ c.note.ensures c.note.auto.seen

pub returns-else-is_new : goal.returns-else-is_new
returns-else-is_new c = (tt, λ met k a b. law.answers_lost (law.declaring_twice _ _ _ _ _ _ _ c.loop-e.invariant _ _ c.next.ensures.1 c.in-Next.e _ c.in-Next.is _ c.is_new.ensures c.if-is_new.false met k))

pub returns-in-Done : goal.returns-in-Done
returns-in-Done c = ((c.loop-e.invariant.low, c.loop-e.invariant.tour.inside), λ met k a b. law.answers_at (law.declaring_ends _ _ _ _ _ _ _ c.loop-e.invariant _ _ c.next.ensures.1 c.in-Done.is met k))

pub returns-in-Refused : goal.returns-in-Refused
returns-in-Refused c = (
  tt,
  λ met k a b. elim c.in-Refused.is [
    | inl e ↦ law.answers_lost (law.declaring_refused _ _ _ _ _ _ _ c.loop-e.invariant _ _ c.next.ensures.1 e met k)
    | inr e ↦ law.declaring_full _ _ _ _ _ _ _ c.loop-e.invariant _ _ c.next.ensures.1 e a b
  ],
)
