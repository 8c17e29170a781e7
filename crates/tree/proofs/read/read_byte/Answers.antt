use Rattle.tree.proofs.AnswerByNumber.{answers_by}
use Rattle.tree.proofs.LeavesRead.{byte_in_lem, byte_high, byte_low, byte_missing}
use Rattle.tree.proofs.read.read_byte.Goals as goal
use Rattle.tree.proofs.read.read_byte.Goals.{else-b-lt256-via-else-b-lt256, else-b-lt256-via-then-b-lt256+else-low-b, else-b-lt256-via-then-b-lt256+then-low-b+else-b-high}

pub returns-then-b-high : goal.returns-then-b-high
returns-then-b-high c = answers_by _ _ (byte_in_lem _ _ _ _ _ _ c.peek-b.ensures c.if-b-lt256.true c.if-low-b.true c.if-b-high.true)

pub returns-else-b-lt256 : goal.returns-else-b-lt256
returns-else-b-lt256 c = answers_by _ _ (elim c.else-b-lt256.branch [ else-b-lt256-via-else-b-lt256 w ↦ byte_missing _ _ _ _ _ _ c.peek-b.ensures w.if-b-lt256.false | else-b-lt256-via-then-b-lt256+else-low-b w ↦ byte_low _ _ _ _ _ _ c.peek-b.ensures w.if-b-lt256.true w.if-low-b.false | else-b-lt256-via-then-b-lt256+then-low-b+else-b-high w ↦ byte_high _ _ _ _ _ _ c.peek-b.ensures w.if-b-lt256.true w.if-low-b.true w.if-b-high.false ])
