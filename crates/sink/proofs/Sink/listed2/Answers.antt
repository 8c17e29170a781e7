use Rattle.sink.proofs.WaysOut as law
use Rattle.sink.proofs.Sink.listed2.Goals as goal

pub returns : goal.returns
returns c = λ t w. law.listed_two _ _ _ _ _ (c.listed.ensures t w) (c.listed-2.ensures t w)
