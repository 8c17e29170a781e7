use Rattle.joining.proofs.Filing as law
use Rattle.joining.proofs.bodies.mark.Goals as goal
use Rattle.joining.proofs.bodies.mark.Goals.{else-begun-gt0-via-then-begun-gt0+else-deep-gt0, else-begun-gt0-via-else-begun-gt0}

pub returns-then-deep-gt0 : goal.returns-then-deep-gt0
returns-then-deep-gt0 c = λ e l at k. law.mark_item _ e _ _ l _ at _ k _ _ _ _ c.if-begun-gt0.true c.if-deep-gt0.true c.at-list.ensures.0 c.at.ensures.0 c.put.ensures c.put-then-deep-gt0.ensures

pub returns-else-begun-gt0 : goal.returns-else-begun-gt0
returns-else-begun-gt0 c = λ e l at k. elim c.else-begun-gt0.branch [
  | else-begun-gt0-via-then-begun-gt0+else-deep-gt0 w ↦ law.mark_root _ e _ _ l _ at _ k w.if-begun-gt0.true w.if-deep-gt0.false
  | else-begun-gt0-via-else-begun-gt0 w ↦ law.mark_else _ e _ _ l c.args.begun at c.args.deep k w.if-begun-gt0.false
]
