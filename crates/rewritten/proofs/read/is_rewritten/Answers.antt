use Rattle.std.proofs.Common.{arith}
use Rattle.rewritten.proofs.read.is_rewritten.Goals as goal

pub returns : goal.returns
returns c = c.read.ensures (omega arith) (omega arith)
