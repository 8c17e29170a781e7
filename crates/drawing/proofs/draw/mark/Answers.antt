use Rattle.std.proofs.Common.{refl}
use Rattle.drawing.proofs.DrawingWritten as law
use Rattle.drawing.proofs.draw.mark.Goals as goal

pub returns : goal.returns
returns c = law.mark_drawn _ _ _ _ _ _ _ _ refl c.put_wide-at.ensures
