use mathlib.Core.Logic.◌⊎◌.{inl, inr}
use mathlib.Core.Path.{refl}
use Rattle.walk.specs.Turns.{reach_of}
use Rattle.walk.proofs.reaches.enters.Goals as goal

pub returns-in-Anywhere : goal.returns-in-Anywhere
unfolding reach_of
returns-in-Anywhere c = elim c.in-Anywhere.is [ inl e ↦ rw e refl | inr e ↦ rw e refl ]

pub returns-in_default : goal.returns-in_default
unfolding reach_of
returns-in_default c = rw c.in_default.is refl
