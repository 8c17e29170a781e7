use Rattle.pattern.proofs.MovesCounted as law
use Rattle.pattern.proofs.moves.is_moved.Goals as goal

pub returns : goal.returns
returns c = law.is_moved_lem _ _ _ _ _ c.child-p.ensures c.has_nested_object_rest.ensures
