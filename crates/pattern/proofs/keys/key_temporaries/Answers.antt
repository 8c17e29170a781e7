use Rattle.pattern.proofs.KeyCases as law
use Rattle.pattern.proofs.keys.key_temporaries.Goals as goal

pub returns : goal.returns
returns c = λ k. law.temporaries_law k _ _ c.keys.ensures
