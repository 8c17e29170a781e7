use Rattle.sink.proofs.WaysOut as law
use Rattle.sink.proofs.cells.make.Goals as goal

pub returns : goal.returns
returns c = λ t l k. law.made _ _ _ _ _ _ c.set_cell.ensures
