use Rattle.walk.proofs.Running.{runs_does}
use mathlib.Core.Path.{◌∙◌}
use Rattle.walk.proofs.HandRules as law
use Rattle.walk.proofs.hand.nested_hands.Goals as goal

pub returns-in-Replacing : goal.returns-in-Replacing
returns-in-Replacing c = (c.target_item.ensures.0 ∙ c.entry-u.ensures.1, λ o g k. law.nested_replacing _ _ _ _ _ _ c.in-Replacing.is c.places_in.ensures (runs_does (c.entry-u.ensures.0 o _)) (c.target_item.ensures.1 o) g k)

pub returns-in-Taking : goal.returns-in-Taking
returns-in-Taking c = (c.target_values.ensures.0 ∙ c.entry-u.ensures.1, λ o g k. law.nested_taking _ _ _ _ _ _ c.in-Taking.is c.places_in.ensures (runs_does (c.entry-u.ensures.0 o _)) (c.target_values.ensures.1 o) g k)
