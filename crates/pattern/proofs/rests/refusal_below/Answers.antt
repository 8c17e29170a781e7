use Rattle.pattern.proofs.Counting as law
use Rattle.pattern.proofs.rests.refusal_below.Goals as goal

pub returns : goal.returns
returns c = λ k. law.below_refuses _ _ k c.rests.ensures
