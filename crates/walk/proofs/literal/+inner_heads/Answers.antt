use native.Mathlib.Omega.{arith}
use mathlib.Core.Path.{refl, ◌∙◌}
use Rattle.walk.proofs.LiteralHeads as law
use Rattle.walk.proofs.literal.+inner_heads.Goals as goal

pub returns-then-n-eq0 : goal.returns-then-n-eq0
returns-then-n-eq0 t c = ((λ l k. law.inner_none _ _ _ _ _ c.if-n-eq0.true), refl)

pub overflow_sub-n : goal.overflow_sub-n
overflow_sub-n t c = omega (arith, c.if-n-eq0.false)

pub returns-then-n-le-FEW : goal.returns-then-n-le-FEW
returns-then-n-le-FEW t c = ((λ l k. law.inner_first _ _ _ _ _ _ _ c.if-n-eq0.false c.mode_next-m.ensures c.skip.ensures (c.inner_heads-v.ensures.0 l k) (c.head_at.ensures.0 l k)), c.head_at.ensures.1 ∙ c.inner_heads-v.ensures.1)

pub returns : goal.returns
returns t c = ((λ l k. law.inner_halves _ _ _ _ _ _ _ _ (omega arith) c.after-a.ensures.0 c.after-a.ensures.1 (c.inner_heads-v-2.ensures.0 l k) (c.inner_heads.ensures.0 l k)), c.inner_heads.ensures.1 ∙ c.inner_heads-v-2.ensures.1)
