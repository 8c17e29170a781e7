use native.Mathlib.Omega.{arith}
use Rattle.result.proofs.leftover.leftover.Goals as goal

pub returns : goal.returns
returns c = c.look.ensures (omega arith)
