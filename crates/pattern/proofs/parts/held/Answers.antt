use native.Mathlib.Omega.{arith}
use Rattle.pattern.proofs.Fields as law
use Rattle.pattern.proofs.parts.held.Goals as goal

pub returns-in-1 : goal.returns-in-1
returns-in-1 c = law.held_child _ _ _ c.in-1.is

pub returns-in-2 : goal.returns-in-2
returns-in-2 c = law.held_chosen _ _ _ c.in-2.is

pub returns-in-3 : goal.returns-in-3
returns-in-3 c = law.held_many _ _ _ _ _ c.wide_at.ensures.value c.step.ensures c.in-3.is

pub returns-in-4 : goal.returns-in-4
returns-in-4 c = law.held_gaps _ _ _ _ _ c.wide_at-in-4.ensures.value c.step-in-4.ensures c.in-4.is

pub returns-in-5 : goal.returns-in-5
returns-in-5 c = law.held_text _ _ _ _ c.text.ensures c.in-5.is

pub returns-in_default : goal.returns-in_default
returns-in_default c = law.held_number _ _ _ (omega arith)
