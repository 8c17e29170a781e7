use native.Mathlib.Omega.{arith}
use Rattle.pattern.proofs.Fields as law
use Rattle.pattern.proofs.parts.text.Goals as goal

pub overflow_add-wide_at : goal.overflow_add-wide_at
overflow_add-wide_at c = omega (arith, c.wide_at.ensures.bound)

pub overflow_sub-result : goal.overflow_sub-result
overflow_sub-result c = law.text_ends _ _ _ _ _ c.step-from.ensures c.step-to.ensures

pub returns : goal.returns
returns c = law.text_held _ _ _ _ _ c.wide_at.ensures.value c.step-from.ensures c.step-to.ensures
