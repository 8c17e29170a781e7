use Rattle.walk.proofs.Running.{runs_does}
use Rattle.walk.proofs.HandKeys as law
use Rattle.walk.proofs.hand.object.Goals as goal

pub returns-in-Place : goal.returns-in-Place
returns-in-Place c = (c.make.ensures.1, λ o g k. law.object_made _ _ _ _ c.in-Place.is (runs_does (c.make.ensures.0 o _)))

pub returns-in-Keys : goal.returns-in-Keys
returns-in-Keys c = (c.each_key.ensures.0, λ o g k. law.object_keys _ _ _ _ c.in-Keys.is (c.each_key.ensures.1 o g k))

pub returns-in-Excluded : goal.returns-in-Excluded
returns-in-Excluded c = (c.exclude.ensures.0, λ o g k. law.object_excludes _ _ _ _ _ c.in-Excluded.is (c.exclude.ensures.1 o g k))
