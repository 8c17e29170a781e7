use Rattle.sink.proofs.WaysOut as law
use Rattle.sink.proofs.Sink.declarator.Goals as goal

pub returns : goal.returns
returns c = λ t l. law.declarator_is _ _ _ c.one_more.ensures (c.excluded2.ensures t l)
