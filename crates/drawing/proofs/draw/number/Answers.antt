use Rattle.drawing.proofs.DrawingWritten as law
use Rattle.drawing.proofs.draw.number.Goals as goal

pub returns : goal.returns
returns c = law.number_drawn _ _ _ _ _ _ _ _ c.advanced-state.ensures c.put_wide-at.ensures
