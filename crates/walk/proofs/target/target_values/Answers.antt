use Rattle.walk.proofs.TargetWalk as law
use Rattle.walk.proofs.target.target_values.Goals as goal

pub returns : goal.returns
returns c = (c.target_properties.ensures.0, λ o. law.values_of _ _ _ _ _ c.less.ensures (c.target_properties.ensures.1 o))
