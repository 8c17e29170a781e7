-- ---- an item, or any target
-- ---- an object
-- ---- a property
use mathlib.Core.Path.{refl, ◌∙◌}
use mathlib.Core.Bool.{false}
use native.Mathlib.Omega.{arith}
use Rattle.walk.proofs.TurnsLeft.{none_gone, one_gone}
use Rattle.walk.proofs.Running.{runs_does}
use Rattle.walk.proofs.Emits.{good_none}
use Rattle.walk.proofs.Lookups.{denied, undenied}
use Rattle.walk.specs.Whole.{hole_at}
use Rattle.walk.proofs.TargetWalk as law
use Rattle.walk.proofs.QuietValues as quiets
use Rattle.walk.proofs.target.+target_item_target_object_target_property.Goals as goal

pub target_item-returns-then-left-eq0 : goal.target_item-returns-then-left-eq0
target_item-returns-then-left-eq0 t c = (refl, λ o h g. law.item_else _ _ _ _ (λ x. good_none _ _ _ c.if-left-eq0.true x) h g)

pub target_item-overflow_sub-below : goal.target_item-overflow_sub-below
target_item-overflow_sub-below t c = omega (arith, c.if-left-eq0.false)

pub target_item-returns-then-not-enters : goal.target_item-returns-then-not-enters
target_item-returns-then-not-enters t c = (refl, λ o h g. law.item_solid _ _ _ _ _ c.peek-kind.ensures.value (law.no_zero _ _ c.in-36.is (omega arith)) (law.array_passed _ _ _ _ _ _ refl c.peek-kind.ensures.value c.in-36.is (denied _ _ c.enters.ensures c.if-not-enters.true)) h g)

pub target_item-loop-init : goal.target_item-loop-init
target_item-loop-init t c = (refl, refl, refl, λ o. rw none_gone (law.items_start _ _ _ _ _ _ c.step-q.ensures c.wide_at-n.ensures c.step-p.ensures))

pub target_item-loop-preserved : goal.target_item-loop-preserved
target_item-loop-preserved t c = (
  omega (arith, c.loop.invariant.0, c.target_item-u.auto.list),
  omega (arith, c.loop.invariant.1, c.target_item-u.auto.work),
  c.target_item-u.ensures.0 ∙ c.loop.invariant.2,
  λ o. rw one_gone (law.items_more _ _ _ _ _ _ (omega (arith, c.loop-test.true)) c.skip_item-p.ensures (c.loop.invariant.3 o) (c.target_item-u.ensures.1 o)),
)

pub target_item-returns-in-34 : goal.target_item-returns-in-34
target_item-returns-in-34 t c = (c.target_object.ensures.0, λ o h g. law.item_solid _ _ _ _ _ c.peek-kind.ensures.value (law.no_zero _ _ c.in-34.is (omega arith)) (law.by_object _ _ _ _ _ _ refl c.peek-kind.ensures.value c.in-34.is (c.target_object.ensures.1 o)) h g)

pub target_item-returns-after-loop : goal.target_item-returns-after-loop
target_item-returns-after-loop t c = (c.loop.invariant.2, λ o h g. law.item_solid _ _ _ _ _ c.peek-kind.ensures.value (law.no_zero _ _ c.in-36.is (omega arith)) (law.items_end _ _ _ _ _ _ refl c.peek-kind.ensures.value _ _ c.in-36.is (undenied _ _ c.enters.ensures c.if-not-enters.false) (omega (arith, c.loop-test.false)) (c.loop.invariant.3 o)) h g)

pub target_item-returns-in-37 : goal.target_item-returns-in-37
target_item-returns-in-37 t c = (c.target_item.ensures.0, λ o h g. law.item_solid _ _ _ _ _ c.peek-kind.ensures.value (law.no_zero _ _ c.in-37.is (omega arith)) (law.by_default _ _ _ _ _ _ refl c.peek-kind.ensures.value _ c.in-37.is c.step.ensures (c.target_item.ensures.1 o)) h g)

pub target_item-returns-in_default : goal.target_item-returns-in_default
target_item-returns-in_default t c = (refl, λ o h g. law.item_else _ _ _ _ (law.by_leaf _ _ _ _ _ _ refl c.peek-kind.ensures.value (omega arith) (omega arith) (omega arith)) h g)

pub target_object-returns-then-not-counts : goal.target_object-returns-then-not-counts
target_object-returns-then-not-counts t c = (refl, λ o g k. law.object_passed _ _ _ _ _ c.has_second.ensures c.if-has_second.true (denied _ _ c.counts.ensures c.if-not-counts.true) g k)

pub target_object-returns-then-has_second : goal.target_object-returns-then-has_second
target_object-returns-then-has_second t c = (c.listed_temporary.ensures.1 ∙ c.listed2.ensures.1, λ o g k. law.object_found _ _ _ _ _ c.has_second.ensures c.if-has_second.true (undenied _ _ c.counts.ensures c.if-not-counts.false) (runs_does (c.listed2.ensures.0 o _)) (runs_does (c.listed_temporary.ensures.0 o)) g k)

pub target_object-returns : goal.target_object-returns
target_object-returns t c = (c.target_properties.ensures.0, λ o g k. law.object_plain _ _ _ _ _ c.has_second.ensures c.if-has_second.false (c.target_properties.ensures.1 o) g k)

pub target_properties-loop-init : goal.target_properties-loop-init
target_properties-loop-init t c = (refl, refl, refl, λ o. rw none_gone (law.values_start _ _ _ _ _ _ _ c.step-q.ensures c.wide_at-n.ensures c.step-p.ensures))

pub target_properties-loop-preserved : goal.target_properties-loop-preserved
target_properties-loop-preserved t c = (
  omega (arith, c.loop.invariant.0, c.target_property-u.auto.list),
  omega (arith, c.loop.invariant.1, c.target_property-u.auto.work),
  c.target_property-u.ensures.0 ∙ c.loop.invariant.2,
  λ o. rw one_gone (law.values_more _ _ _ _ _ _ _ _ (omega (arith, c.loop-test.true)) c.skip-p.ensures c.less.ensures (c.loop.invariant.3 o) (c.target_property-u.ensures.1 o)),
)

pub target_properties-returns : goal.target_properties-returns
target_properties-returns t c = (c.loop.invariant.2, λ o g k. law.values_all _ _ _ _ _ _ _ (omega arith) (omega (arith, c.loop-test.false)) (c.loop.invariant.3 o) g k)

pub target_property-returns-then-quiet : goal.target_property-returns-then-quiet
target_property-returns-then-quiet t c = (refl, λ o g k. quiets.reach_quiet _ _ _ _ _ _ c.quiet.ensures c.if-quiet.true g)

pub target_property-returns : goal.target_property-returns
unfolding hole_at
target_property-returns t c = (c.target_item.ensures.0, λ o g k. law.property_by _ _ _ _ _ _ c.step.ensures c.skip-x.ensures (λ x. c.target_item.ensures.1 o false (λ z. x)) g k)
