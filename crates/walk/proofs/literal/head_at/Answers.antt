use native.Mathlib.Omega.{arith}
use mathlib.Core.Logic.◌⊎◌.{inl, inr}
use mathlib.Core.Path.{refl, ap}
use Rattle.walk.specs.Turns.{calls_number}
use Rattle.walk.proofs.LiteralHeads as law
use Rattle.walk.proofs.literal.head_at.Goals as goal

pub returns-then-not-is_spread : goal.returns-then-not-is_spread
returns-then-not-is_spread c = ((λ l k. law.head_none _ _ _ c.is_spread.ensures c.if-not-is_spread.true), refl)

pub returns-in-SomePending : goal.returns-in-SomePending
returns-in-SomePending c = ((λ l k. law.head_four _ _ _ c.is_spread.ensures c.if-not-is_spread.false (ap calls_number c.in-SomePending.is) (c.call.ensures.0 l k)), c.call.ensures.1)

pub returns-in-NoCall : goal.returns-in-NoCall
returns-in-NoCall c = (
  (λ l k. law.head_two _ _ _ c.is_spread.ensures c.if-not-is_spread.false (λ z. elim c.in-NoCall.is [
    | inl e ↦ omega (arith, z, ap calls_number e)
    | inr e ↦ omega (arith, z, ap calls_number e)
  ]) (c.call-in-NoCall.ensures.0 l k)),
  c.call-in-NoCall.ensures.1,
)
