use Rattle.sink.proofs.WaysOut as law
use Rattle.sink.proofs.Sink.listed_temporary.Goals as goal

pub returns : goal.returns
returns c = λ t. law.listed_temporary_is _ _ _ _ _ _ _ (law.listed_at_is _ _ c.number_at.ensures) c.set_cell.ensures (c.listed4.ensures _ _) (c.listed.ensures _ _)
