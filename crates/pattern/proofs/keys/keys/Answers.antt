use Rattle.pattern.proofs.CappedSums.{tally_empty}
use Rattle.pattern.proofs.KeyCases as law
use Rattle.pattern.proofs.keys.keys.Goals as goal

pub returns-then-left-eq0 : goal.returns-then-left-eq0
returns-then-left-eq0 c = law.keys_none _ _ _ _ c.if-left-eq0.true (tally_empty _ c.default-t.ensures)

pub loop-init : goal.loop-init
loop-init c = law.keys_start _ _ _ _ _ c.list-run.ensures (tally_empty _ c.default-t.ensures)

pub loop-preserved : goal.loop-preserved
loop-preserved c = law.keys_more _ _ _ _ _ _ _ _ _ _ _ c.loop-test.true c.with_key-t.ensures c.skip_item-p.ensures c.loop.invariant

pub returns : goal.returns
returns c = law.keys_end _ _ _ _ _ _ _ _ _ c.loop-test.false c.loop.invariant
