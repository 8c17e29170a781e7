use Rattle.walk.proofs.Lookups.{not_yes, not_no}
use Rattle.walk.proofs.hand.replaces.Goals as goal

pub returns-then-replaces : goal.returns-then-replaces
returns-then-replaces c = rw (not_yes _ _ c.replaces.ensures c.if-replaces.true) c.has_second.ensures

pub returns-else-replaces : goal.returns-else-replaces
returns-else-replaces c = rw (not_no _ _ c.replaces.ensures c.if-replaces.false) c.if-replaces.false
