use Rattle.pattern.proofs.MovesCounted as law
use Rattle.pattern.proofs.moves.moved_from.Goals as goal

pub returns-then-is_moved : goal.returns-then-is_moved
returns-then-is_moved c = law.from_yes _ _ _ _ _ _ c.is_moved.ensures c.if-is_moved.true c.child-p.ensures c.moved.ensures

pub returns : goal.returns
returns c = law.from_no _ _ _ _ c.is_moved.ensures c.if-is_moved.false
