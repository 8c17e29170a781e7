use Rattle.joining.proofs.FallingChains as law
use Rattle.joining.proofs.table.back.Goals as goal

pub returns-then-n-i : goal.returns-then-n-i
returns-then-n-i c = (law.back_taken _ _ _ c.at-n.ensures.0 c.if-n-i.true, λ h. c.if-n-i.true)

pub returns-else-n-i : goal.returns-else-n-i
returns-else-n-i c = (law.back_left _ _ _ c.at-n.ensures.0 c.if-n-i.false, λ h. h)
