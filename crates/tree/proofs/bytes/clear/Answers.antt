use Rattle.std.proofs.Common.{rules}
use Rattle.tree.specs.Note.{zeros}
use Rattle.tree.proofs.bytes.clear.Goals as goal

pub returns : goal.returns
unfolding zeros
returns c = search rules
