use mathlib.Core.Path.{◌∙◌}
use Rattle.walk.proofs.HandRules as law
use Rattle.walk.proofs.hand.pattern_makes.Goals as goal

pub returns : goal.returns
returns c = (c.over-2.ensures.0 ∙ c.over.ensures.0, λ o g. law.makes_do _ (c.over.ensures.1 o g) (c.over-2.ensures.1 o g))
