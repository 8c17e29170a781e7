-- ---- the values of an object
-- ---- a target
use mathlib.Core.Bool.{true}
use mathlib.Core.Path.{sym, ◌∙◌}
use native.Mathlib.Omega.{arith}
use Rattle.pattern.proofs.NodeParts as places
use Rattle.pattern.proofs.Searches as search
use Rattle.walk.proofs.TurnsLeft.{none_gone, one_gone}
use Rattle.walk.proofs.Lookups.{denied, undenied}
use Rattle.walk.proofs.TargetCounts as law
use Rattle.walk.proofs.target.+object_count_target_count.Goals as goal
use Rattle.walk.proofs.target.+object_count_target_count.Goals.{object_count-else-peek-gt-OTHER_EXPRESSION, object_count-then-peek-gt-OTHER_EXPRESSION}

pub object_count-returns-then-left-eq0 : goal.object_count-returns-then-left-eq0
object_count-returns-then-left-eq0 t c = law.inside_none _ _ _ _ c.if-left-eq0.true

pub object_count-loop-init : goal.object_count-loop-init
object_count-loop-init t c = rw none_gone (law.values_start _ _ _ _ _ c.list-run.ensures)

pub object_count-target_count-requires : goal.object_count-target_count-requires
object_count-target_count-requires t c = (let h = search.value_falls _ _ _ _ c.if-left-eq0.false c.value-v.ensures in omega arith, tt)

pub object_count-loop-preserved : goal.object_count-loop-preserved
object_count-loop-preserved t c = rw one_gone ((elim c.if-peek-gt-OTHER_EXPRESSION.branch [ object_count-then-peek-gt-OTHER_EXPRESSION w ↦ rw w.k-is (law.values_more _ _ _ _ _ _ _ _ _ _ _ _ (omega (arith, c.loop-test.true)) c.value-v.ensures w.target_count.ensures c.skip-p.ensures w.plus-k.ensures c.loop.invariant) | object_count-else-peek-gt-OTHER_EXPRESSION w ↦ rw w.k-is (law.values_passed _ _ _ _ _ _ _ _ _ _ _ (omega (arith, c.loop-test.true)) c.value-v.ensures c.peek.ensures.value w.if-peek-gt-OTHER_EXPRESSION.false c.skip-p.ensures c.loop.invariant) ]))

pub object_count-returns : goal.object_count-returns
object_count-returns t c = law.values_end _ _ _ _ _ _ _ _ (omega (arith, c.loop-test.false)) c.loop.invariant

pub target_count-returns-then-left-eq0 : goal.target_count-returns-then-left-eq0
target_count-returns-then-left-eq0 t c = law.count_none _ _ _ _ c.if-left-eq0.true

pub target_count-returns-then-stands : goal.target_count-returns-then-stands
target_count-returns-then-stands t c = law.count_found _ _ _ _ _ c.if-left-eq0.false c.peek-kind.ensures.value _ _ c.in-34.is c.stands.ensures c.if-stands.true c.found.ensures

pub target_count-returns-then-not-enters : goal.target_count-returns-then-not-enters
target_count-returns-then-not-enters t c = law.count_passed _ _ _ _ _ c.if-left-eq0.false c.peek-kind.ensures.value c.in-36.is (denied _ _ c.enters.ensures c.if-not-enters.true)

pub target_count-loop-init : goal.target_count-loop-init
target_count-loop-init t c = rw none_gone (law.items_start _ _ _ _ c.if-left-eq0.false c.peek-kind.ensures.value _ c.in-36.is c.list-run.ensures)

pub target_count-target_count-requires : goal.target_count-target_count-requires
target_count-target_count-requires t c = (let h = places.item_below _ _ _ true _ c.if-left-eq0.false c.item-e.ensures in omega arith, tt)

pub target_count-loop-preserved : goal.target_count-loop-preserved
target_count-loop-preserved t c = rw one_gone (law.items_more _ _ _ _ _ _ _ _ _ _ _ (omega (arith, c.loop-test.true)) c.item-e.ensures (c.target_count.ensures ∙ law.by_one _) c.skip_item-p.ensures c.plus-k.ensures c.loop.invariant)

pub target_count-target_count-requires-in-37 : goal.target_count-target_count-requires-in-37
target_count-target_count-requires-in-37 t c = (let h = places.child_falls _ _ _ 0 _ c.if-left-eq0.false c.child-l.ensures in omega arith, tt)

pub target_count-returns-else-stands : goal.target_count-returns-else-stands
target_count-returns-else-stands t c = law.count_values _ _ _ _ _ c.if-left-eq0.false c.peek-kind.ensures.value _ _ c.in-34.is c.stands.ensures c.if-stands.false (c.object_count.ensures ∙ law.values_object _ _ _ _ (sym c.peek-kind.ensures.value ∙ c.in-34.is))

pub target_count-returns-after-loop : goal.target_count-returns-after-loop
target_count-returns-after-loop t c = law.count_entered _ _ _ _ _ c.if-left-eq0.false c.peek-kind.ensures.value _ c.in-36.is (undenied _ _ c.enters.ensures c.if-not-enters.false) (law.items_end _ _ _ _ _ _ _ (omega (arith, c.loop-test.false)) c.loop.invariant)

pub target_count-returns-in-37 : goal.target_count-returns-in-37
target_count-returns-in-37 t c = law.count_left _ _ _ _ _ c.if-left-eq0.false c.peek-kind.ensures.value _ _ c.in-37.is c.child-l.ensures c.target_count-in-37.ensures

pub target_count-returns-in_default : goal.target_count-returns-in_default
target_count-returns-in_default t c = law.count_other _ _ _ _ _ c.if-left-eq0.false c.peek-kind.ensures.value (omega arith) (omega arith) (omega arith)
