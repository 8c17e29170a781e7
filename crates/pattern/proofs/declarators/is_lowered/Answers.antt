use Rattle.pattern.proofs.DeclaratorsCounted as law
use Rattle.pattern.proofs.declarators.is_lowered.Goals as goal

pub returns-then-stands : goal.returns-then-stands
returns-then-stands c = law.lowered_yes _ _ _ _ _ _ c.stands.ensures c.if-stands.true c.child-p.ensures c.has_nested_object_rest.ensures

pub returns : goal.returns
returns c = law.lowered_no _ _ _ _ c.stands.ensures c.if-stands.false
