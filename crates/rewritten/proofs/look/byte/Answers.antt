use Rattle.rewritten.proofs.Ahead as law
use native.Mathlib.Omega.{arith}
use Rattle.rewritten.proofs.look.byte.Goals as goal
use Rattle.rewritten.proofs.look.byte.Goals.{else-b-lt256-via-then-b-lt256+then-low-b+else-b-high, else-b-lt256-via-then-b-lt256+else-low-b, else-b-lt256-via-else-b-lt256}

pub returns-then-b-high : goal.returns-then-b-high
returns-then-b-high c = (law.byte_found _ _ _ _ _ c.peek-b.ensures c.if-b-lt256.true c.if-low-b.true c.if-b-high.true, law.coded 5 _ (omega arith))

pub returns-else-b-lt256 : goal.returns-else-b-lt256
returns-else-b-lt256 c = (
  elim c.else-b-lt256.branch [
    | else-b-lt256-via-then-b-lt256+then-low-b+else-b-high w ↦ law.byte_high _ _ _ _ _ c.peek-b.ensures w.if-b-lt256.true w.if-low-b.true w.if-b-high.false
    | else-b-lt256-via-then-b-lt256+else-low-b w ↦ law.byte_low _ _ _ _ _ c.peek-b.ensures w.if-b-lt256.true w.if-low-b.false
    | else-b-lt256-via-else-b-lt256 w ↦ law.byte_missing _ _ _ _ _ c.peek-b.ensures w.if-b-lt256.false
  ],
  law.coded_none 5,
)
