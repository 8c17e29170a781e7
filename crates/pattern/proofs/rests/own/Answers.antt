use Rattle.pattern.proofs.CappedSums.{tally_empty}
use Rattle.pattern.proofs.RestsFound as law
use Rattle.pattern.proofs.rests.own.Goals as goal

pub returns-then-stands : goal.returns-then-stands
returns-then-stands c = law.own_rest _ _ _ _ _ _ _ _ c.stands.ensures c.if-stands.true c.keys.ensures c.has_no_properties.ensures c.itself.ensures c.both.ensures

pub returns : goal.returns
returns c = law.own_none _ _ _ _ _ c.stands.ensures c.if-stands.false (tally_empty _ c.default.ensures)
