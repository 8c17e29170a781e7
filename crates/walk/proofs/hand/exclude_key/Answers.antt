use mathlib.Core.Logic.◌⊎◌.{inl, inr}
use Rattle.walk.proofs.Running.{runs_does}
use Rattle.walk.proofs.SmallSteps.{does_excluded_string}
use mathlib.Core.Path.{refl}
use Rattle.walk.proofs.HandKeys as law
use Rattle.walk.proofs.hand.exclude_key.Goals as goal

pub returns-in-Name : goal.returns-in-Name
returns-in-Name c = (
  c.excluded_string-in-Name.ensures.1,
  λ o l. elim c.in-Name.is [
    | inl e ↦ law.name_does _ _ _ _ c.transform_property_key.ensures _ _ e (does_excluded_string _ _ _ (c.excluded_string-in-Name.ensures.0 o l))
    | inr e ↦ law.literal_does _ _ _ _ c.transform_property_key.ensures _ _ e (does_excluded_string _ _ _ (c.excluded_string-in-Name.ensures.0 o l))
  ],
)

pub returns-in-Number : goal.returns-in-Number
returns-in-Number c = (
  c.excluded_number.ensures.1,
  λ o l. elim c.in-Number.is [
    | inl e ↦ law.number_does _ _ _ _ c.transform_property_key.ensures _ e refl (runs_does (c.excluded_number.ensures.0 o l))
    | inr e ↦ law.number_does _ _ _ _ c.transform_property_key.ensures _ e refl (runs_does (c.excluded_number.ensures.0 o l))
  ],
)

pub returns-in-NoForm : goal.returns-in-NoForm
returns-in-NoForm c = (c.excluded_string.ensures.1, λ o l. law.formless_does _ _ _ _ c.transform_property_key.ensures c.in-NoForm.is (does_excluded_string _ _ _ (c.excluded_string.ensures.0 o l)))

pub returns-in-Template : goal.returns-in-Template
returns-in-Template c = (c.excluded_copy.ensures.1, λ o l. law.template_does _ _ _ _ c.transform_property_key.ensures _ c.in-Template.is c.skip.ensures (runs_does (c.excluded_copy.ensures.0 o l)))

pub returns-in-Private : goal.returns-in-Private
returns-in-Private c = (
  refl,
  λ o l. elim c.in-Private.is [
    | inl e ↦ law.private_does _ _ _ _ c.transform_property_key.ensures e
    | inr (inl e) ↦ law.again_does _ _ _ _ c.transform_property_key.ensures e
    | inr (inr e) ↦ law.other_does _ _ _ _ c.transform_property_key.ensures e
  ],
)
