use native.Mathlib.Omega.{arith}
use Rattle.joining.proofs.FallingChains as law
use Rattle.joining.proofs.table.put.Goals as goal
use Rattle.joining.proofs.table.put.Goals.{else-n-lt65536-via-then-n-lt65536+else-i-table, else-n-lt65536-via-else-n-lt65536}

pub returns-then-i-table : goal.returns-then-i-table
returns-then-i-table c = law.put_in _ _ _ (omega arith)

pub returns-else-n-lt65536 : goal.returns-else-n-lt65536
returns-else-n-lt65536 c = elim c.else-n-lt65536.branch [
  | else-n-lt65536-via-then-n-lt65536+else-i-table w ↦ law.put_past _ _ _ (omega (arith, w.if-n-lt65536.true)) w.if-i-table.false
  | else-n-lt65536-via-else-n-lt65536 w ↦ law.put_great _ _ _ w.if-n-lt65536.false
]
