use Rattle.walk.proofs.SmallSteps as steps
use mathlib.Core.Path.{◌∙◌}
use Rattle.walk.proofs.walk.Walk.empty_rest.Goals as goal

pub returns : goal.returns
returns c = ((λ l w. steps.empty_rest (c.call.ensures.0 l w) (c.put2.ensures.0 l w) (c.put2-2.ensures.0 l w) (c.put2-3.ensures.0 l w) (c.put2-4.ensures.0 l w) (c.call-2.ensures.0 l w)), c.call-2.ensures.1 ∙ c.put2-4.ensures.1 ∙ c.put2-3.ensures.1 ∙ c.put2-2.ensures.1 ∙ c.put2.ensures.1 ∙ c.call.ensures.1)
