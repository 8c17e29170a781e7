use Rattle.pattern.proofs.KeyCases as law
use Rattle.pattern.proofs.keys.refusal.Goals as goal

pub returns : goal.returns
returns c = law.refusal_law _ _ c.keys.ensures
