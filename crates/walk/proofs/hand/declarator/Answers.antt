use Rattle.walk.proofs.Running.{runs_does}
use mathlib.Core.Path.{refl, ◌∙◌}
use Rattle.walk.proofs.HandRules as law
use Rattle.walk.proofs.hand.declarator.Goals as goal

pub returns-then-not-is_lowered : goal.returns-then-not-is_lowered
returns-then-not-is_lowered c = (refl, λ o g k. law.declarator_passed _ _ _ _ c.is_lowered.ensures c.args.mode c.if-not-is_lowered.true)

pub returns-then-is_name : goal.returns-then-is_name
returns-then-is_name c = (c.pattern_makes.ensures.0, λ o. rw c.in-Made.is (law.declarator_named _ _ _ _ c.is_lowered.ensures _ _ c.less-below.ensures c.step-id.ensures c.if-not-is_lowered.false _ _ c.skip.ensures c.is_name.ensures c.if-is_name.true (c.pattern_makes.ensures.1 o)))

pub returns-else-is_name : goal.returns-else-is_name
returns-else-is_name c = (
  c.pattern_makes-in-Made.ensures.0 ∙ c.make.ensures.1,
  λ o. rw c.in-Made.is (law.declarator_valued _ _ _ _ c.is_lowered.ensures _ _ c.less-below.ensures c.step-id.ensures c.if-not-is_lowered.false _ _ _ c.skip.ensures c.is_name.ensures c.if-is_name.false c.cell.ensures (runs_does (c.make.ensures.0 o _)) (c.pattern_makes-in-Made.ensures.1 o)),
)

pub returns-in-Excluded : goal.returns-in-Excluded
returns-in-Excluded c = (c.over.ensures.0, λ o. rw c.in-Excluded.is (law.declarator_excluded _ _ _ _ c.is_lowered.ensures _ _ c.less-below.ensures c.step-id.ensures c.if-not-is_lowered.false _ (c.over.ensures.1 o)))
