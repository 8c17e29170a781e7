use Rattle.tree.proofs.AnswerByNumber.{answers_by}
use Rattle.tree.proofs.LeavesRead.{number_in, number_missing}
use Rattle.tree.proofs.read.read_number.Goals as goal

pub returns-then-n-lt65536 : goal.returns-then-n-lt65536
returns-then-n-lt65536 c = answers_by _ _ (number_in _ _ _ _ c.wide_at-n.ensures c.if-n-lt65536.true)

pub returns-else-n-lt65536 : goal.returns-else-n-lt65536
returns-else-n-lt65536 c = answers_by _ _ (number_missing _ _ _ _ c.wide_at-n.ensures c.if-n-lt65536.false)
