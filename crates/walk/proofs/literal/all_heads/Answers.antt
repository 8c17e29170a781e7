use native.Mathlib.Omega.{arith}
use mathlib.Core.Logic.◌⊎◌.{inl, inr}
use mathlib.Core.Path.{ap, ◌∙◌}
use Rattle.walk.specs.Turns.{calls_number}
use Rattle.walk.proofs.LiteralHeads as law
use Rattle.walk.proofs.literal.all_heads.Goals as goal

pub returns-in-SomePending : goal.returns-in-SomePending
returns-in-SomePending c = ((λ l k. law.heads_last _ _ _ _ _ _ c.after.ensures.1 (ap calls_number c.in-SomePending.is) (c.call.ensures.0 l k) (c.inner_heads.ensures.0 l k)), c.inner_heads.ensures.1 ∙ c.call.ensures.1)

pub returns-in-NoCall : goal.returns-in-NoCall
returns-in-NoCall c = (
  (λ l k. law.heads_inner _ _ _ _ _ _ c.after.ensures.1 (λ z. elim c.in-NoCall.is [
    | inl e ↦ omega (arith, z, ap calls_number e)
    | inr e ↦ omega (arith, z, ap calls_number e)
  ]) (c.inner_heads-in-NoCall.ensures.0 l k)),
  c.inner_heads-in-NoCall.ensures.1,
)
