use Rattle.walk.proofs.Lookups as law
use Rattle.walk.proofs.look.first_bit.Goals as goal

pub returns : goal.returns
returns c = law.first_of _ _ _ _ c.step.ensures c.peek.ensures
