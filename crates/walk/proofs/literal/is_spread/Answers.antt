use native.Mathlib.Omega.{arith}
use mathlib.Core.Path.{◌∙◌}
use borrow.Author.Tests.{le-ltb}
use Rattle.walk.proofs.LiteralHeads as law
use Rattle.walk.proofs.literal.is_spread.Goals as goal

pub returns-then-left-gt0 : goal.returns-then-left-gt0
returns-then-left-gt0 c = law.spread_byte _ _ _ _ (omega arith) c.peek.ensures

pub returns-else-left-gt0 : goal.returns-else-left-gt0
returns-else-left-gt0 c = le-ltb _ _ c.if-left-gt0.false ∙ law.spread_none _ _ _ (omega arith)
