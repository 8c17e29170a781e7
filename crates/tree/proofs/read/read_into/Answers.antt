use mathlib.Core.Path.{sym, ◌∙◌}
use native.Mathlib.Omega.{arith}
use borrow.Author.Rules.{rules}
use Rattle.tree.proofs.AnswerByNumber.{answer_is}
use Rattle.tree.proofs.Noting as note
use Rattle.tree.proofs.Reading as read
use Rattle.tree.proofs.read.read_into.Goals as goal
use Rattle.tree.proofs.read.read_into.Goals.{else-n-room-via-else-n-room, else-n-room-via-then-n-room+else-room-n, then-is_err, else-is_err}

pub returns-then-room-n : goal.returns-then-room-n
returns-then-room-n c = (
  c.whole-reading.ensures.answers,
  elim c.if-is_err.branch [
    | then-is_err w ↦ read.into_refused _ _ _ _ _ _ (answer_is _ _ c.whole-reading.ensures.answers) _ (sym c.is_err.ensures.value ∙ w.if-is_err.true) c.if-n-room.true c.if-room-n.true (w.room-is ∙ w.clear.ensures) (search rules)
    | else-is_err w ↦ read.into_read _ _ _ _ _ _ (answer_is _ _ c.whole-reading.ensures.answers) (sym c.is_err.ensures.value ∙ w.if-is_err.false) (λ y e. w.room-is ∙ note.fill_done _ _ _ _ _ c.if-n-room.true c.if-room-n.true c.copy_in.ensures (c.whole-reading.ensures.writes y e))
  ],
)

pub returns : goal.returns
returns c = (c.read_tree.ensures, read.into_other _ _ _ _ (λ e. (elim c.else-n-room.branch [ else-n-room-via-then-n-room+else-room-n w ↦ w.if-room-n.false (omega arith) | else-n-room-via-else-n-room w ↦ omega (arith, w.if-n-room.false) ])))
