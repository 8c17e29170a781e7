use Rattle.walk.proofs.SmallSteps.{does_excluded_head}
use mathlib.Core.Path.{refl, ◌∙◌}
use Rattle.walk.proofs.HandKeys as law
use Rattle.walk.proofs.hand.exclude.Goals as goal

pub returns-then-hoisted : goal.returns-then-hoisted
returns-then-hoisted c = (c.each_key.ensures.0 ∙ c.excluded_head-u.ensures.1, λ o. law.exclude_does _ _ _ _ _ c.hoisted.ensures _ _ c.if-hoisted.true c.excluded_keys-k.ensures c.cell.ensures (does_excluded_head _ _ (c.excluded_head-u.ensures.0 o _)) (c.each_key.ensures.1 o))

pub returns : goal.returns
returns c = (refl, λ o g k. law.exclude_none _ _ _ _ _ c.hoisted.ensures c.if-hoisted.false)
