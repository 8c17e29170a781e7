use Rattle.pattern.proofs.KeyCases as law
use Rattle.pattern.proofs.keys.all_primitive.Goals as goal

pub returns : goal.returns
returns c = law.primitive_law _ _ c.keys.ensures
