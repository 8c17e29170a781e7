use Rattle.pattern.proofs.Counting as law
use Rattle.pattern.proofs.rests.objects_below.Goals as goal

pub returns : goal.returns
returns c = λ k. law.objects_below_lem _ _ k c.rests.ensures
