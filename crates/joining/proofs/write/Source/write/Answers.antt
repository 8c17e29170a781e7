use Rattle.joining.proofs.BytesWritten as law
use Rattle.joining.proofs.write.Source.write.Goals as goal

pub returns : goal.returns
returns c = λ h. law.whole_written _ _ _ _ _ _ _ _ _ _ _ _ _ c.head-spot.ensures (c.rest.ensures h)
