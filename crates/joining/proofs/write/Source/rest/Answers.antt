use mathlib.Core.Path.{refl, ◌∙◌}
use Rattle.joining.proofs.BytesWritten as law
use native.Mathlib.Omega.{arith}
use Rattle.joining.proofs.write.Source.rest.Goals as goal

pub loop-p-init : goal.loop-p-init
loop-p-init c = (λ h. law.passing_start _ _ _ _ _ _ _ _ _, refl)

pub overflow_add-p : goal.overflow_add-p
overflow_add-p c = omega (arith, c.place-q.ensures.0.within, c.loop-p-test.true, c.well_formed)

pub loop-p-smaller : goal.loop-p-smaller
loop-p-smaller c = omega (arith, c.place-q.ensures.0.within, c.place-q.ensures.0.onward, c.loop-p-test.true)

pub loop-p-preserved : goal.loop-p-preserved
loop-p-preserved c = (
  λ h. law.passing_next _ _ _ _ _ _ _ _ _ _ _ _ _ _
      (law.passing_over _ _ _ _ _ _ _ _ _ _ _ _ _ _ (c.loop-p.invariant.0 h) _ _ c.place-q.ensures (omega (arith, c.place-q.ensures.0.within, c.loop-p-test.true)) _ _ c.copy-at.ensures)
      (omega (arith, c.place-q.ensures.0.within, c.loop-p-test.true)) _ _ _ _ (c.step-to.ensures (omega (arith, h, c.place-q.ensures.0.within, c.loop-p-test.true))) c.skips-skip.ensures,
  c.step-to.auto.out ∙ c.copy-at.auto.out ∙ c.loop-p.invariant.1,
)

pub returns : goal.returns
returns c = λ h. law.passing_ends _ _ _ _ _ _ _ _ _ _ _ _ _ _ (c.loop-p.invariant.0 h) c.loop-p-test.false
