use Rattle.pattern.proofs.Fields as law
use Rattle.pattern.proofs.parts.item.Goals as goal
use Rattle.pattern.proofs.parts.item.Goals.{else-holes-via-else-holes, else-holes-via-then-holes+else-peek-eq0}

pub returns-then-peek-eq0 : goal.returns-then-peek-eq0
returns-then-peek-eq0 c = law.item_hole _ _ _ _ _ c.if-holes.true c.peek.ensures c.if-peek-eq0.true

pub returns : goal.returns
returns c = (elim c.else-holes.branch [ else-holes-via-then-holes+else-peek-eq0 w ↦ law.item_other _ _ _ _ _ w.if-holes.true w.peek.ensures w.if-peek-eq0.false | else-holes-via-else-holes w ↦ law.item_node _ _ _ _ w.if-holes.false ])
