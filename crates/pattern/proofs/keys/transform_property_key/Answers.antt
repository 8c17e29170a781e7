use native.Mathlib.Omega.{arith}
use Rattle.pattern.proofs.KeyCases as law
use Rattle.pattern.proofs.Fields as fields
use Rattle.pattern.proofs.keys.transform_property_key.Goals as goal

pub returns-then-left-eq0 : goal.returns-then-left-eq0
returns-then-left-eq0 c = law.becomes _ _ _ _ (law.key_none _ _ _ c.if-left-eq0.true)

pub returns-then-stands : goal.returns-then-stands
returns-then-stands c = law.becomes _ _ _ _ (law.key_bound _ _ _ _ c.if-left-eq0.false c.peek-kind.ensures.value _ c.in-18.is c.stands.ensures c.if-stands.true)

pub returns-then-quasis-eq1 : goal.returns-then-quasis-eq1
returns-then-quasis-eq1 c = law.becomes _ _ _ _ (law.key_template _ _ _ _ c.if-left-eq0.false c.peek-kind.ensures.value _ c.in-23.is c.list-quasis.ensures c.if-quasis-eq1.true)

pub returns-then-peek-eq1 : goal.returns-then-peek-eq1
returns-then-peek-eq1 c = law.becomes _ _ _ _ (law.key_name_lem _ _ _ _ c.if-left-eq0.false c.peek-kind.ensures.value _ _ c.in-38.is (fields.name_at_lem _ _ _ _ _ _ _ _ c.if-left-eq0.false c.peek-kind.ensures.value c.in-38.is c.step.ensures c.peek.ensures.value c.if-peek-eq1.true c.step-then-peek-eq1.ensures c.text.ensures) (law.key_is c.named.ensures))

pub returns-else-stands : goal.returns-else-stands
returns-else-stands c = law.becomes _ _ _ _ (law.key_free _ _ _ _ c.if-left-eq0.false c.peek-kind.ensures.value _ c.in-18.is c.stands.ensures c.if-stands.false)

pub returns-in-20 : goal.returns-in-20
returns-in-20 c = law.becomes _ _ _ _ (law.key_temporary_lem _ _ _ _ c.if-left-eq0.false c.peek-kind.ensures.value c.in-20.is)

pub returns-in-22 : goal.returns-in-22
returns-in-22 c = law.becomes _ _ _ _ (law.key_literal _ _ _ _ c.if-left-eq0.false c.peek-kind.ensures.value _ c.in-22.is (λ k. law.key_is (c.literal.ensures k)))

pub returns-else-quasis-eq1 : goal.returns-else-quasis-eq1
returns-else-quasis-eq1 c = law.becomes _ _ _ _ (law.key_several _ _ _ _ c.if-left-eq0.false c.peek-kind.ensures.value _ c.in-23.is c.list-quasis.ensures c.if-quasis-eq1.false)

pub returns-else-peek-eq1 : goal.returns-else-peek-eq1
returns-else-peek-eq1 c = law.becomes _ _ _ _ (law.key_name_lem _ _ _ _ c.if-left-eq0.false c.peek-kind.ensures.value _ _ c.in-38.is c.field.ensures (law.key_is c.named-in-38.ensures))

pub returns-in-39 : goal.returns-in-39
returns-in-39 c = law.becomes _ _ _ _ (law.key_private _ _ _ _ c.if-left-eq0.false c.peek-kind.ensures.value c.in-39.is)

pub returns-in_default : goal.returns-in_default
returns-in_default c = law.becomes _ _ _ _ (law.key_other _ _ _ _ c.if-left-eq0.false c.peek-kind.ensures.value (omega arith) (omega arith) (omega arith) (omega arith) (omega arith) (omega arith))
