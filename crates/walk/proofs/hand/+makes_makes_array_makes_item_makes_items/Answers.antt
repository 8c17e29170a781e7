use mathlib.Core.Logic.◌⊎◌.{inl, inr}
use Rattle.walk.proofs.TurnsLeft.{none_gone, one_gone}
use Rattle.walk.proofs.Running.{runs_does}
use mathlib.Core.Path.{refl, sym, ◌∙◌}
use native.Mathlib.Omega.{arith}
use Rattle.walk.proofs.Running.{does_as}
use Rattle.walk.proofs.HandMoves as law
use Rattle.walk.proofs.Emits.{good_none}
use Rattle.walk.proofs.Hands as hands
use Rattle.walk.proofs.hand.+makes_makes_array_makes_item_makes_items.Goals as goal

pub makes-returns-then-left-eq0 : goal.makes-returns-then-left-eq0
makes-returns-then-left-eq0 t c = (refl, λ o l g. good_none _ _ _ c.if-left-eq0.true g)

pub makes-returns-in-34 : goal.makes-returns-in-34
makes-returns-in-34 t c = (
  c.make.ensures.1,
  λ o l g. elim c.in-34.is [
    | inl e ↦ law.makes_34 _ _ _ _ c.peek-kind.ensures.value e (runs_does (c.make.ensures.0 o l)) g
    | inr e ↦ law.makes_37 _ _ _ _ c.peek-kind.ensures.value e (runs_does (c.make.ensures.0 o l)) g
  ],
)

pub makes-returns-in-36 : goal.makes-returns-in-36
makes-returns-in-36 t c = (c.makes_array.ensures.0, λ o l g. c.makes_array.ensures.1 o l g (sym c.peek-kind.ensures.value ∙ c.in-36.is))

pub makes-returns-in_default : goal.makes-returns-in_default
makes-returns-in_default t c = (refl, λ o l g. law.makes_nothing _ _ _ _ c.peek-kind.ensures.value (grind arith) (grind arith) (grind arith) g)

pub makes_array-returns-then-left-eq0 : goal.makes_array-returns-then-left-eq0
makes_array-returns-then-left-eq0 t c = (refl, λ o l g k. good_none _ _ _ c.if-left-eq0.true g)

pub makes_array-returns-then-has_second : goal.makes_array-returns-then-has_second
makes_array-returns-then-has_second t c = (
  c.makes.ensures.0 ∙ c.makes_items-u.ensures.0,
  λ o l g k. law.makes_rest _ _ _ _ _ _ _ c.less-below.ensures c.step-q.ensures c.step-first.ensures c.wide_at-n.ensures _ c.has_second.ensures _ c.if-has_second.true c.skip_items.ensures (c.makes_items-u.ensures.1 o l) (c.makes.ensures.1 o l) g k,
)

pub makes_array-returns : goal.makes_array-returns
makes_array-returns t c = (
  c.makes_items-u.ensures.0,
  λ o l g k. law.makes_items_lem _ _ _ _ _ _ _ c.less-below.ensures c.step-q.ensures c.step-first.ensures c.wide_at-n.ensures _ c.has_second.ensures c.if-has_second.false (c.makes_items-u.ensures.1 o l) g k,
)

pub makes_item-returns-then-peek-eq0 : goal.makes_item-returns-then-peek-eq0
makes_item-returns-then-peek-eq0 t c = (refl, λ o l g. hands.hole_does _ _ _ _ c.peek.ensures c.if-peek-eq0.true)

pub makes_item-returns : goal.makes_item-returns
makes_item-returns t c = (c.makes.ensures.0, λ o l g. hands.item_does _ _ _ _ _ c.peek.ensures c.if-peek-eq0.false (c.makes.ensures.1 o l) g)

pub makes_items-loop-init : goal.makes_items-loop-init
makes_items-loop-init t c = (refl, refl, λ o l g. rw none_gone (hands.any_start _ _ _ _ _ _ _ g))

pub makes_items-loop-preserved : goal.makes_items-loop-preserved
makes_items-loop-preserved t c = (
  omega (arith, c.loop.invariant.0, c.makes_item-u.auto.work),
  c.makes_item-u.ensures.0 ∙ c.loop.invariant.1,
  λ o l g. rw one_gone (hands.left_more _ _ _ _ _ _ _ _ _ _ (omega (arith, c.loop-test.true)) c.skip_item-p.ensures (c.loop.invariant.2 o l g) (λ x y. c.makes_item-u.ensures.1 o l x)),
)

pub makes_items-returns : goal.makes_items-returns
makes_items-returns t c = (c.loop.invariant.1, λ o l g. does_as (hands.left_end _ _ _ _ _ _ _ _ _ (omega (arith, c.loop-test.false)) (c.loop.invariant.2 o l g)) (law.makes_turn _ _))
