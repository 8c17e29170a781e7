use native.Mathlib.Omega.{arith}
use Rattle.pattern.proofs.DeclaratorsCounted as law
use Rattle.pattern.proofs.declarators.pattern_declarators.Goals as goal

pub returns-then-left-eq0 : goal.returns-then-left-eq0
returns-then-left-eq0 c = law.pattern_none _ _ _ c.if-left-eq0.true

pub returns-then-stands : goal.returns-then-stands
returns-then-stands c = law.object_rest_lem _ _ _ _ c.if-left-eq0.false c.peek-kind.ensures.value _ _ _ c.in-34.is c.rests.ensures c.made-n.ensures c.stands.ensures c.if-stands.true

pub returns-then-has_no_properties : goal.returns-then-has_no_properties
returns-then-has_no_properties c = law.object_empty _ _ _ _ c.if-left-eq0.false c.peek-kind.ensures.value _ _ _ _ c.in-34.is c.rests.ensures c.made-n.ensures c.stands.ensures c.if-stands.false c.has_no_properties.ensures c.if-has_no_properties.true

pub returns-else-has_no_properties : goal.returns-else-has_no_properties
returns-else-has_no_properties c = law.object_filled _ _ _ _ c.if-left-eq0.false c.peek-kind.ensures.value _ _ _ _ _ c.in-34.is c.rests.ensures c.made-n.ensures c.stands.ensures c.if-stands.false c.has_no_properties.ensures c.if-has_no_properties.false c.plus.ensures

pub returns-in-36 : goal.returns-in-36
returns-in-36 c = law.array_one _ _ _ _ c.if-left-eq0.false c.peek-kind.ensures.value _ _ _ c.in-36.is c.rests-in-36.ensures c.made.ensures c.plus-in-36.ensures

pub returns-in_default : goal.returns-in_default
returns-in_default c = law.other_none _ _ _ _ c.if-left-eq0.false c.peek-kind.ensures.value (omega arith) (omega arith)
