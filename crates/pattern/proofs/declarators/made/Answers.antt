use Rattle.pattern.proofs.DeclaratorsCounted as law
use Rattle.pattern.proofs.declarators.made.Goals as goal

pub returns : goal.returns
returns c = law.made_sum _ _ _ c.plus.ensures c.plus-2.ensures
