use Rattle.tree.proofs.Skipping.{step_fits, step_past, step_out}
use Rattle.tree.proofs.skip.step.Goals as goal
use Rattle.tree.proofs.skip.step.Goals.{else-at-len-via-else-at-len, else-at-len-via-then-at-len+else-n-len}

pub returns-then-n-len : goal.returns-then-n-len
returns-then-n-len c = step_fits _ _ _ c.if-at-len.true c.if-n-len.true

pub returns-else-at-len : goal.returns-else-at-len
returns-else-at-len c = elim c.else-at-len.branch [ else-at-len-via-else-at-len w ↦ step_out _ _ _ w.if-at-len.false | else-at-len-via-then-at-len+else-n-len w ↦ step_past _ _ _ w.if-at-len.true w.if-n-len.false ]
