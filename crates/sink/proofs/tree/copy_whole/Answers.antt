use Rattle.sink.proofs.WaysOut as law
use Rattle.sink.proofs.tree.copy_whole.Goals as goal

pub returns : goal.returns
returns c = law.block_copied _ _ _ _ c.copy_over.ensures c.requires.0 c.requires.1
