use Rattle.walk.proofs.Running.{runs_does}
use mathlib.Core.Path.{◌∙◌}
use native.Mathlib.Omega.{arith}
use Rattle.pattern.proofs.CountsFit.{limited_below}
use Rattle.walk.proofs.HandRules as law
use Rattle.walk.proofs.hand.top_hands.Goals as goal

pub overflow_add-n : goal.overflow_add-n
overflow_add-n c = let h = limited_below _ _ c.plus-n.ensures in omega arith

pub returns : goal.returns
returns c = (
  c.exclude.ensures.0 ∙ c.each_key-u.ensures.0 ∙ c.target_values-u.ensures.0 ∙ c.listed_temporary-u.ensures.1 ∙ c.listed2.ensures.1 ∙ c.entry.ensures.1,
  λ o g k. law.top_does _ _ _ _ _ _ _ _ _ c.object_count.ensures c.key_temporaries.ensures c.plus-n.ensures c.cell.ensures (runs_does (c.entry.ensures.0 o _)) (runs_does (c.listed2.ensures.0 o _)) (runs_does (c.listed_temporary-u.ensures.0 o)) (c.target_values-u.ensures.1 o) (c.each_key-u.ensures.1 o) (c.exclude.ensures.1 o) g k,
)
