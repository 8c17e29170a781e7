use Rattle.walk.proofs.Running.{runs_does}
use mathlib.Core.Path.{refl, ◌∙◌}
use Rattle.walk.proofs.HandKeys as law
use Rattle.walk.proofs.hand.one_key.Goals as goal

pub returns-then-is_other : goal.returns-then-is_other
returns-then-is_other c = (c.make.ensures.1, λ o. law.key_made_lem _ _ _ _ _ _ c.less-below.ensures c.step-k.ensures _ c.is_other.ensures c.if-is_other.true c.in-Made.is (runs_does (c.make.ensures.0 o _)))

pub returns-then-is_other-2 : goal.returns-then-is_other-2
returns-then-is_other-2 c = (
  c.listed_copy.ensures.1 ∙ c.listed_temporary.ensures.1 ∙ c.listed2.ensures.1,
  λ o. law.key_listed _ _ _ _ _ _ c.less-below.ensures c.step-k.ensures _ _ c.is_other-in-Listed.ensures c.if-is_other-2.true c.in-Listed.is c.skip.ensures (runs_does (c.listed2.ensures.0 o _)) (runs_does (c.listed_temporary.ensures.0 o)) (runs_does (c.listed_copy.ensures.0 o _)),
)

pub returns-else-is_other : goal.returns-else-is_other
returns-else-is_other c = (refl, λ o. law.key_unmade _ _ _ _ _ _ c.less-below.ensures c.step-k.ensures _ c.is_other.ensures c.if-is_other.false c.in-Made.is)

pub returns-else-is_other-2 : goal.returns-else-is_other-2
returns-else-is_other-2 c = (refl, λ o. law.key_unlisted _ _ _ _ _ _ c.less-below.ensures c.step-k.ensures _ c.is_other-in-Listed.ensures c.if-is_other-2.false c.in-Listed.is)

pub returns-in-Excluded : goal.returns-in-Excluded
returns-in-Excluded c = (c.exclude_key.ensures.0, λ o. law.key_excluded _ _ _ _ _ _ c.less-below.ensures c.step-k.ensures c.in-Excluded.is (c.exclude_key.ensures.1 o _))
