-- src/skip.rt:41:1
use Rattle.tree.proofs.Skipping as law
use Rattle.tree.proofs.skip.quiet.Goals as goal

pub returns : goal.returns
returns c = law.quiet_law _ _ _ c.note_at.ensures
