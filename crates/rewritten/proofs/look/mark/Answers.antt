use Rattle.rewritten.proofs.Ahead as law
use native.Mathlib.Omega.{arith}
use Rattle.rewritten.proofs.look.mark.Goals as goal

pub returns-then-n-lt65536 : goal.returns-then-n-lt65536
returns-then-n-lt65536 c = (law.mark_found _ _ _ c.wide_at-n.ensures c.if-n-lt65536.true, law.coded 4 _ (omega arith))

pub returns-else-n-lt65536 : goal.returns-else-n-lt65536
returns-else-n-lt65536 c = (law.mark_missing _ _ _ c.wide_at-n.ensures c.if-n-lt65536.false, law.coded_none 4)
