use Rattle.walk.proofs.TargetCounts as law
use Rattle.walk.proofs.target.found.Goals as goal

pub returns-then-counts : goal.returns-then-counts
returns-then-counts c = law.found_counts _ _ c.counts.ensures c.if-counts.true

pub returns : goal.returns
returns c = law.found_not _ _ c.counts.ensures c.if-counts.false
