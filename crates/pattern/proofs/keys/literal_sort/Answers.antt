use Rattle.pattern.proofs.KeyCases as law
use Rattle.pattern.proofs.keys.literal_sort.Goals as goal

pub returns-then-stands : goal.returns-then-stands
returns-then-stands c = law.sort_peeked _ _ _ _ _ _ c.stands.ensures c.if-stands.true c.step.ensures c.peek.ensures

pub returns : goal.returns
returns c = law.sort_none _ _ _ _ c.stands.ensures c.if-stands.false
