use mathlib.Core.Path.{◌∙◌}
use Rattle.walk.proofs.LiteralHeads as law
use Rattle.walk.proofs.literal.opening.Goals as goal

pub returns : goal.returns
returns c = ((λ l k. law.opens _ _ _ _ _ c.run_of-k.ensures (c.all_heads.ensures.0 l k) (c.put2.ensures.0 l k) (c.wide.ensures.0 l k)), c.wide.ensures.1 ∙ c.put2.ensures.1 ∙ c.all_heads.ensures.1)
