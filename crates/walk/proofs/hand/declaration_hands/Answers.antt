use mathlib.Core.Path.{◌∙◌}
use Rattle.walk.proofs.HandRules as law
use Rattle.walk.proofs.hand.declaration_hands.Goals as goal

pub returns : goal.returns
returns c = (
  c.declarators.ensures.0 ∙ c.declarators-u.ensures.0,
  λ o. law.declaration_does _ _ _ _ _ _ _ c.less-below.ensures c.step-q.ensures c.step-first.ensures c.wide_at-n.ensures _ (c.declarators-u.ensures.1 o) (c.declarators.ensures.1 o),
)
