use Rattle.tree.proofs.AnswerByNumber.{answers_by}
use Rattle.tree.proofs.LeavesRead.{mark_in_lem, mark_other, mark_missing}
use Rattle.tree.proofs.read.read_mark.Goals as goal
use Rattle.tree.proofs.read.read_mark.Goals.{else-n-lt65536-via-else-n-lt65536, else-n-lt65536-via-then-n-lt65536+else-n-mark}

pub returns-then-n-mark : goal.returns-then-n-mark
returns-then-n-mark c = answers_by _ _ (mark_in_lem _ _ _ _ c.wide_at-n.ensures c.if-n-lt65536.true c.if-n-mark.true)

pub returns-else-n-lt65536 : goal.returns-else-n-lt65536
returns-else-n-lt65536 c = answers_by _ _ (elim c.else-n-lt65536.branch [ else-n-lt65536-via-else-n-lt65536 w ↦ mark_missing _ _ _ _ c.wide_at-n.ensures w.if-n-lt65536.false | else-n-lt65536-via-then-n-lt65536+else-n-mark w ↦ mark_other _ _ _ _ c.wide_at-n.ensures w.if-n-lt65536.true w.if-n-mark.false ])
