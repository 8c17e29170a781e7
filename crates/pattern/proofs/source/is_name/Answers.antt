use mathlib.Core.Logic.◌⊎◌.{inl, inr}
use native.Mathlib.Omega.{arith}
use Rattle.pattern.proofs.SourceReads as law
use Rattle.pattern.proofs.source.is_name.Goals as goal

pub returns-then-left-eq0 : goal.returns-then-left-eq0
returns-then-left-eq0 c = law.name_none _ _ _ c.if-left-eq0.true

pub returns-in-18 : goal.returns-in-18
returns-in-18 c = elim c.in-18.is [
  | inl e ↦ law.name_reference _ _ _ _ c.if-left-eq0.false c.peek-kind.ensures.value e
  | inr e ↦ law.name_temporary _ _ _ _ c.if-left-eq0.false c.peek-kind.ensures.value e
]

pub returns-in_default : goal.returns-in_default
returns-in_default c = law.name_other _ _ _ _ c.if-left-eq0.false c.peek-kind.ensures.value (grind arith) (grind arith)
