use Rattle.ordering.proofs.Sides as law
use mathlib.Core.Logic.{inl, inr}
use mathlib.Core.Path.{refl, sym, ◌∙◌}
use Rattle.ordering.proofs.side.advance.Goals as goal

pub returns-in-Some : goal.returns-in-Some
returns-in-Some c = (c.next.ensures.0, c.place-placed.ensures.0, λ es g. law.side_number _ _ _ _ _ es g c.next.ensures.0 _ c.next.ensures.1 c.in-Next.e _ c.in-Next.is _ c.opens_temporary-temporary.ensures c.if-side.true _ (λ tree. sym c.in-Some.is ∙ c.number_in.ensures tree) _ _ c.place-placed.ensures.1)

pub returns-in_default : goal.returns-in_default
returns-in_default c = (c.next.ensures.0, refl, λ es g. law.side_other _ _ _ _ _ es g c.next.ensures.0 _ c.next.ensures.1 c.in-Next.e _ c.in-Next.is _ c.opens_temporary-temporary.ensures c.if-side.true (λ tree. sym c.in_default.is ∙ c.number_in.ensures tree))

pub returns-else-side : goal.returns-else-side
returns-else-side c = (c.next.ensures.0, refl, λ es g. law.side_elsewhere _ _ _ _ _ es g c.next.ensures.0 _ c.next.ensures.1 c.in-Next.e _ c.in-Next.is _ c.opens_temporary-temporary.ensures c.if-side.false)

pub returns-in-Done : goal.returns-in-Done
returns-in-Done c = (
  c.next.ensures.0,
  refl,
  λ es g. (elim c.in-Done.is [
    | inl w ↦ law.side_done _ _ _ _ _ es g c.next.ensures.0 _ c.next.ensures.1 w
    | inr (inl w) ↦ law.side_refused _ _ _ _ _ es g c.next.ensures.0 _ c.next.ensures.1 w
    | inr (inr w) ↦ law.side_full _ _ _ _ _ es g c.next.ensures.0 _ c.next.ensures.1 w
  ]),
)
