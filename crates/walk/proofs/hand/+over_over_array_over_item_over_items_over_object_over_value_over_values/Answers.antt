use mathlib.Core.Path.{refl, sym, ◌∙◌}
use native.Mathlib.Omega.{arith}
use Rattle.walk.proofs.TurnsLeft.{none_gone, one_gone}
use Rattle.walk.proofs.Opened.{kind_byte}
use Rattle.walk.proofs.Emits.{good_none}
use Rattle.walk.proofs.Hands as law
use Rattle.walk.proofs.QuietValues as quiets
use Rattle.walk.proofs.hand.+over_over_array_over_item_over_items_over_object_over_value_over_values.Goals as goal

pub over-returns-then-left-eq0 : goal.over-returns-then-left-eq0
over-returns-then-left-eq0 t c = (refl, λ o g. good_none _ _ _ c.if-left-eq0.true g)

pub over-returns-in-34 : goal.over-returns-in-34
over-returns-in-34 t c = (c.over_object.ensures.0, λ o g. c.over_object.ensures.1 o g (sym c.peek-kind.ensures.value ∙ c.in-34.is))

pub over-returns-in-36 : goal.over-returns-in-36
over-returns-in-36 t c = (c.over_array.ensures.0, λ o g. c.over_array.ensures.1 o g (sym c.peek-kind.ensures.value ∙ c.in-36.is))

pub over-returns-in-37 : goal.over-returns-in-37
over-returns-in-37 t c = (c.over.ensures.0, λ o g. law.default_does _ _ _ _ _ _ _ c.less.ensures c.step.ensures (c.over.ensures.1 o) (sym c.peek-kind.ensures.value ∙ c.in-37.is) g)

pub over-returns-in_default : goal.over-returns-in_default
over-returns-in_default t c = (refl, λ o g. law.leaf_does _ _ _ _ _ _ c.peek-kind.ensures.value (omega arith) (omega arith) (omega arith) g)

pub over_array-returns-then-left-eq0 : goal.over_array-returns-then-left-eq0
over_array-returns-then-left-eq0 t c = (refl, λ o g k. good_none _ _ _ c.if-left-eq0.true g)

pub over_array-returns : goal.over_array-returns
over_array-returns t c = (c.over_items.ensures.0, λ o g k. law.array_does _ _ _ _ _ _ _ c.less.ensures c.step-q.ensures c.step.ensures c.wide_at.ensures _ _ (c.over_items.ensures.1 o) g k)

pub over_item-returns-then-peek-eq0 : goal.over_item-returns-then-peek-eq0
over_item-returns-then-peek-eq0 t c = (refl, λ o g. law.hole_does _ _ _ _ c.peek.ensures c.if-peek-eq0.true)

pub over_item-returns : goal.over_item-returns
over_item-returns t c = (c.over.ensures.0, λ o g. law.item_does _ _ _ _ _ c.peek.ensures c.if-peek-eq0.false (c.over.ensures.1 o) g)

pub over_items-loop-init : goal.over_items-loop-init
over_items-loop-init t c = (refl, refl, refl, λ o g. rw none_gone (law.any_start _ _ _ _ _ _ _ g))

pub over_items-loop-preserved : goal.over_items-loop-preserved
over_items-loop-preserved t c = (
  omega (arith, c.loop.invariant.0, c.over_item-u.auto.list),
  omega (arith, c.loop.invariant.1, c.over_item-u.auto.work),
  c.over_item-u.ensures.0 ∙ c.loop.invariant.2,
  λ o g. rw one_gone (law.left_more _ _ _ _ _ _ _ _ _ _ (omega (arith, c.loop-test.true)) c.skip_item-p.ensures (c.loop.invariant.3 o g) (λ x y. c.over_item-u.ensures.1 o x)),
)

pub over_items-returns : goal.over_items-returns
over_items-returns t c = (c.loop.invariant.2, λ o g. law.left_end _ _ _ _ _ _ _ _ _ (omega (arith, c.loop-test.false)) (c.loop.invariant.3 o g))

pub over_object-returns-then-replaces : goal.over_object-returns-then-replaces
over_object-returns-then-replaces t c = (
  c.object.ensures.0 ∙ c.over_values-u.ensures.0,
  λ o g k. law.own_does _ _ _ _ _ _ _ c.less.ensures c.step-q.ensures c.step.ensures c.wide_at.ensures _ _ _ c.replaces.ensures (c.over_values-u.ensures.1 o) c.if-replaces.true (c.object.ensures.1 o) g k,
)

pub over_object-returns : goal.over_object-returns
over_object-returns t c = (
  c.over_values-u.ensures.0,
  λ o g k. law.values_do _ _ _ _ _ _ _ c.less.ensures c.step-q.ensures c.step.ensures c.wide_at.ensures _ _ _ c.replaces.ensures (c.over_values-u.ensures.1 o) c.if-replaces.false g k,
)

pub over_value-returns-then-left-eq0 : goal.over_value-returns-then-left-eq0
over_value-returns-then-left-eq0 t c = (refl, λ o g k. good_none _ _ _ c.if-left-eq0.true g)

pub over_value-returns-then-quiet : goal.over_value-returns-then-quiet
over_value-returns-then-quiet t c = (refl, λ o g k. quiets.all_quiet _ _ _ _ _ _ c.quiet.ensures c.if-quiet.true g)

pub over_value-returns : goal.over_value-returns
over_value-returns t c = (c.over.ensures.0, λ o g k. law.value_does _ _ _ _ _ _ _ _ c.less-below.ensures c.step.ensures c.skip-x.ensures (c.over.ensures.1 o) g k)

pub over_values-loop-init : goal.over_values-loop-init
over_values-loop-init t c = (refl, refl, refl, λ o g a. rw none_gone (law.left_start _ _ _ _ _ _ _ _ g a))

pub over_values-loop-preserved : goal.over_values-loop-preserved
over_values-loop-preserved t c = (
  omega (arith, c.loop.invariant.0, c.over_value-u.auto.list),
  omega (arith, c.loop.invariant.1, c.over_value-u.auto.work),
  c.over_value-u.ensures.0 ∙ c.loop.invariant.2,
  λ o g a. rw one_gone (law.solid_more _ _ _ _ _ _ _ _ _ (omega (arith, c.loop-test.true)) c.skip-p.ensures (c.loop.invariant.3 o g a) (λ x y. c.over_value-u.ensures.1 o x (kind_byte _ _ _ _ x y))),
)

pub over_values-returns : goal.over_values-returns
over_values-returns t c = (c.loop.invariant.2, λ o g a. law.left_end _ _ _ _ _ _ _ _ _ (omega (arith, c.loop-test.false)) (c.loop.invariant.3 o g a))
