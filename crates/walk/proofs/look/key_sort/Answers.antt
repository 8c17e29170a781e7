use mathlib.Core.Logic.◌⊎◌.{inl, inr}
use Rattle.walk.proofs.Lookups as law
use Rattle.walk.proofs.look.key_sort.Goals as goal

pub returns-then-peek-eq-STATIC_KEY : goal.returns-then-peek-eq-STATIC_KEY
returns-then-peek-eq-STATIC_KEY c = law.static_class _ _ _ _ c.if-left-gt0.true c.peek.ensures.value c.if-peek-eq-STATIC_KEY.true

pub returns-in-Name : goal.returns-in-Name
returns-in-Name c = elim c.in-Name.is [
  | inl (x, y, e) ↦ law.key_class _ _ _ _ _ c.transform_property_key.ensures e
  | inr (inl (x, y, e)) ↦ law.key_class _ _ _ _ _ c.transform_property_key.ensures e
  | inr (inr (inl (x, e))) ↦ law.key_class _ _ _ _ _ c.transform_property_key.ensures e
  | inr (inr (inr (inl (x, e)))) ↦ law.key_class _ _ _ _ _ c.transform_property_key.ensures e
  | inr (inr (inr (inr e))) ↦ law.key_class _ _ _ _ _ c.transform_property_key.ensures e
]

pub returns-in-Template : goal.returns-in-Template
returns-in-Template c = elim c.in-Template.is [ inl e ↦ law.key_class _ _ _ _ _ c.transform_property_key.ensures e | inr e ↦ law.key_class _ _ _ _ _ c.transform_property_key.ensures e ]

pub returns-in-Private : goal.returns-in-Private
returns-in-Private c = law.key_class _ _ _ _ _ c.transform_property_key.ensures c.in-Private.is

pub returns-in-Other : goal.returns-in-Other
returns-in-Other c = law.key_class _ _ _ _ _ c.transform_property_key.ensures c.in-Other.is
