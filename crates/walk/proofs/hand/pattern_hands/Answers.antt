use mathlib.Core.Path.{◌∙◌}
use Rattle.walk.proofs.HandRules as law
use Rattle.walk.proofs.hand.pattern_hands.Goals as goal

pub returns : goal.returns
returns c = (c.over.ensures.0 ∙ c.pattern_makes.ensures.0, λ o g. law.hands_do _ _ (c.pattern_makes.ensures.1 o g) (c.over.ensures.1 o g))
