use Rattle.walk.proofs.HandRules as law
use Rattle.walk.proofs.hand.places_in.Goals as goal

pub returns-in-Replacing : goal.returns-in-Replacing
returns-in-Replacing c = law.places_replacing _ _ _ _ _ c.in-Replacing.is c.target_count.ensures

pub returns-in-Taking : goal.returns-in-Taking
returns-in-Taking c = law.places_taking _ _ _ _ _ c.in-Taking.is c.object_count.ensures
