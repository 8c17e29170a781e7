use mathlib.Core.Logic.◌⊎◌.{inl, inr}
use mathlib.Core.Path.{refl}
use Rattle.walk.proofs.SourcesRead as law
use Rattle.walk.proofs.pieces.string.Goals as goal

pub returns-in-Name : goal.returns-in-Name
returns-in-Name c = (
  c.string-in-Name.ensures.1,
  λ l k. elim c.in-Name.is [
    | inl e ↦ law.writes_name _ _ _ _ c.transform_property_key.ensures _ _ e (c.string-in-Name.ensures.0 l k)
    | inr e ↦ law.writes_form _ _ _ _ c.transform_property_key.ensures _ _ e (c.string-in-Name.ensures.0 l k)
  ],
)

pub returns-in-Number : goal.returns-in-Number
returns-in-Number c = (
  c.number.ensures.1,
  λ l k. elim c.in-Number.is [
    | inl e ↦ law.writes_number _ _ _ _ c.transform_property_key.ensures _ e (c.number.ensures.0 l k)
    | inr e ↦ law.writes_other _ _ _ _ c.transform_property_key.ensures _ e (c.number.ensures.0 l k)
  ],
)

pub returns-in-NoForm : goal.returns-in-NoForm
returns-in-NoForm c = (c.string.ensures.1, λ l k. law.writes_none _ _ _ _ c.transform_property_key.ensures c.in-NoForm.is (c.string.ensures.0 l k))

pub returns-in-Template : goal.returns-in-Template
returns-in-Template c = (
  refl,
  λ l k. elim c.in-Template.is [
    | inl e ↦ law.writes_nothing _ _ _ _ _ c.transform_property_key.ensures e (law.no_template _)
    | inr (inl e) ↦ law.writes_nothing _ _ _ _ _ c.transform_property_key.ensures e (law.no_private _)
    | inr (inr (inl e)) ↦ law.writes_nothing _ _ _ _ _ c.transform_property_key.ensures e (law.no_again _)
    | inr (inr (inr e)) ↦ law.writes_nothing _ _ _ _ _ c.transform_property_key.ensures e (law.no_other _)
  ],
)
