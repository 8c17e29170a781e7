use Rattle.pattern.proofs.KeyCases as law
use Rattle.pattern.proofs.keys.excluded_keys.Goals as goal

pub returns : goal.returns
returns c = λ k. law.excluded_law k _ _ c.keys.ensures
