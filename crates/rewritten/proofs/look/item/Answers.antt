use Rattle.rewritten.proofs.Ahead as law
use Rattle.rewritten.proofs.Moves as moves
use mathlib.Core.Path.{◌∙◌}
use Rattle.rewritten.proofs.look.item.Goals as goal
use Rattle.rewritten.proofs.look.item.Goals.{else-w-eq1-via-else-w-eq1, else-w-eq1-via-then-w-eq1+else-peek-eq0}

pub returns-then-peek-eq0 : goal.returns-then-peek-eq0
returns-then-peek-eq0 c = λ some. law.hole_ahead _ _ _ _ some c.if-w-eq1.true c.peek.ensures c.if-peek-eq0.true

pub returns-else-w-eq1 : goal.returns-else-w-eq1
returns-else-w-eq1 c = λ some. law.ahead_as (λ fs deep. (elim c.else-w-eq1.branch [ else-w-eq1-via-then-w-eq1+else-peek-eq0 w ↦ moves.item_other _ fs _ deep _ some w.if-w-eq1.true (λ z. w.if-peek-eq0.false (w.peek.ensures.value ∙ z)) | else-w-eq1-via-else-w-eq1 w ↦ moves.item_plain _ fs _ deep _ some w.if-w-eq1.false ])) (c.node.ensures _)
