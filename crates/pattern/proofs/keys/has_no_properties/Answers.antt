use Rattle.pattern.proofs.KeyCases as law
use Rattle.pattern.proofs.keys.has_no_properties.Goals as goal

pub returns : goal.returns
returns c = law.no_properties _ _ _ _ c.list.ensures
