use Rattle.drawing.proofs.DrawingWritten as law
use Rattle.drawing.proofs.draw.text.Goals as goal

pub returns : goal.returns
returns c = law.text_drawn _ _ _ _ _ _ _ _ _ _ c.advanced-state.ensures c.put_wide-letter.ensures c.put-at.ensures
