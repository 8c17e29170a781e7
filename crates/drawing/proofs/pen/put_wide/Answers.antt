use Rattle.drawing.proofs.DrawingWritten as law
use Rattle.drawing.proofs.pen.put_wide.Goals as goal

pub returns : goal.returns
returns c = law.wide_put _ _ _ _ _ _ _ c.put-high.ensures c.put.ensures
