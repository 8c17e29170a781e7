use Rattle.rewritten.proofs.Ahead as law
use Rattle.rewritten.proofs.look.look.Goals as goal

pub returns-then-top-eq0 : goal.returns-then-top-eq0
returns-then-top-eq0 c = law.ahead_node _ _ _ _ c.if-top-eq0.true c.field.ensures

pub returns-else-top-eq0 : goal.returns-else-top-eq0
returns-else-top-eq0 c = law.ahead_list _ _ _ _ c.if-top-eq0.false c.item.ensures
