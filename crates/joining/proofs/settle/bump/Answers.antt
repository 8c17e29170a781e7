use Rattle.joining.proofs.Settling as law
use Rattle.joining.proofs.settle.bump.Goals as goal

pub returns : goal.returns
returns c = law.bump_is _ _ _ _ c.at-n.ensures.0 c.put.ensures
