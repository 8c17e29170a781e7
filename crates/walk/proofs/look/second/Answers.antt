use Rattle.walk.proofs.Lookups as law
use Rattle.walk.proofs.look.second.Goals as goal

pub returns : goal.returns
returns c = law.second_of_lem _ _ _ _ c.step.ensures c.peek.ensures
