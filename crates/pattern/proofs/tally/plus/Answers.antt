use native.Mathlib.Omega.{arith}
use Rattle.pattern.specs.Tally.{limited}
use Rattle.pattern.proofs.tally.plus.Goals as goal

pub returns : goal.returns
unfolding limited
returns c = let h = c.min.ensures in let g = c.saturating_add.ensures in omega arith
