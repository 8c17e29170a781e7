use Rattle.joining.proofs.Filing as law
use Rattle.joining.proofs.bodies.enter.Goals as goal

pub returns-then-at-eq1 : goal.returns-then-at-eq1
returns-then-at-eq1 c = λ b g k. law.open_container _ _ _ b _ g _ _ k _ _ _ _ c.at.ensures.0 c.if-at-eq1.true c.put.ensures c.put-then-at-eq1.ensures c.put-then-at-eq1-2.ensures

pub returns : goal.returns
returns c = λ b g k. law.open_else _ _ _ b _ g _ _ k _ _ c.at.ensures.0 c.if-at-eq1.false c.put-2.ensures
