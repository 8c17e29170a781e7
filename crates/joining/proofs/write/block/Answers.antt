use native.Mathlib.Omega.{arith}
use Rattle.joining.specs.Writing.{part}
use Rattle.joining.proofs.BytesWritten as law
use Rattle.joining.proofs.write.block.Goals as goal

pub returns : goal.returns
unfolding part
returns c = law.block_written _ _ _ _ _ c.requires.0 c.requires.1 c.requires.2 _ (omega arith) _ c.copy_over.ensures
