use mathlib.Core.Path.{refl, ◌∙◌}
use Rattle.walk.proofs.LiteralHeads as law
use Rattle.walk.proofs.literal.pending.Goals as goal

pub returns-then-n-eq0 : goal.returns-then-n-eq0
returns-then-n-eq0 c = ((λ l k. law.pending_none _ c.if-n-eq0.true), refl)

pub returns : goal.returns
returns c = ((λ l k. law.pending_some _ c.if-n-eq0.false (c.put2.ensures.0 l k) (c.put2-2.ensures.0 l k) (c.put2-3.ensures.0 l k) (c.wide.ensures.0 l k)), c.wide.ensures.1 ∙ c.put2-3.ensures.1 ∙ c.put2-2.ensures.1 ∙ c.put2.ensures.1)
