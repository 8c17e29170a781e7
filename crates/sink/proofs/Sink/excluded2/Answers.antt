use Rattle.sink.proofs.WaysOut as law
use Rattle.sink.proofs.Sink.excluded2.Goals as goal

pub returns : goal.returns
returns c = λ t l. law.excluded_two _ _ _ _ _ (c.excluded.ensures t l) (c.excluded-2.ensures t l)
