use native.Mathlib.Omega.{arith}
use mathlib.Core.Logic.◌⊎◌.{inl, inr}
use mathlib.Core.Path.{ap}
use Rattle.walk.specs.Turns.{calls_number}
use Rattle.walk.proofs.LiteralHeads as law
use Rattle.walk.proofs.literal.mode_next.Goals as goal

pub returns-then-is_spread : goal.returns-then-is_spread
returns-then-is_spread c = law.mode_spread _ _ _ c.is_spread.ensures c.if-is_spread.true

pub returns-in-NoCall : goal.returns-in-NoCall
returns-in-NoCall c = law.mode_none _ _ _ c.is_spread.ensures c.if-is_spread.false (ap calls_number c.in-NoCall.is)

pub returns-in-NothingPending : goal.returns-in-NothingPending
returns-in-NothingPending c = law.mode_other _ _ _ c.is_spread.ensures c.if-is_spread.false (λ z. elim c.in-NothingPending.is [
  | inl e ↦ omega (arith, z, ap calls_number e)
  | inr e ↦ omega (arith, z, ap calls_number e)
])
