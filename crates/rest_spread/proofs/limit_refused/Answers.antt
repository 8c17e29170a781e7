use Rattle.rest_spread.proofs.LoweringEntry as law
use Rattle.rest_spread.proofs.limit_refused.Goals as goal

pub returns-then-limit-eq0 : goal.returns-then-limit-eq0
returns-then-limit-eq0 c = law.limit_zero _ c.if-limit-eq0.true

pub returns-else-limit-eq0 : goal.returns-else-limit-eq0
returns-else-limit-eq0 c = law.limit_some _ c.if-limit-eq0.false
