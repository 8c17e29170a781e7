use mathlib.Core.Path.{refl}
use Rattle.walk.proofs.HandMoves as law
use Rattle.walk.proofs.Emits.{good_none}
use Rattle.walk.proofs.hand.move_makes.Goals as goal

pub returns-then-left-eq0 : goal.returns-then-left-eq0
returns-then-left-eq0 c = (refl, λ o l g s. good_none _ _ _ c.if-left-eq0.true g)

pub returns-then-has_nested_object_rest : goal.returns-then-has_nested_object_rest
returns-then-has_nested_object_rest c = (c.makes.ensures.0, λ o l. law.moves_some _ _ _ _ _ c.less-below.ensures c.step-id.ensures _ c.has_nested_object_rest.ensures c.if-has_nested_object_rest.true (c.makes.ensures.1 o l))

pub returns : goal.returns
returns c = (refl, λ o l. law.moves_none _ _ _ _ _ c.less-below.ensures c.step-id.ensures _ c.has_nested_object_rest.ensures c.if-has_nested_object_rest.false)
