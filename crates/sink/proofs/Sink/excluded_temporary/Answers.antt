use Rattle.sink.proofs.WaysOut as law
use Rattle.sink.proofs.Sink.excluded_temporary.Goals as goal

pub returns : goal.returns
returns c = λ t l. law.excluded_temporary_is _ _ _ _ _ _ _ (law.excluded_at_is _ _ c.number_at.ensures) c.set_cell.ensures (c.excluded4.ensures t l) (c.excluded.ensures t l)
