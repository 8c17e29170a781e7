use mathlib.Core.Bool.{true}
use native.Mathlib.Omega.{arith}
use Rattle.pattern.proofs.CappedSums.{tally_empty}
use Rattle.pattern.proofs.RestsFound as law
use Rattle.pattern.proofs.NodeParts as places
use Rattle.pattern.proofs.Searches as search
use Rattle.pattern.proofs.rests.+rests.Goals as goal
use Rattle.pattern.proofs.rests.+rests.Goals.{else-peek-gt-OTHER_EXPRESSION, then-peek-gt-OTHER_EXPRESSION}

pub returns-then-left-eq0 : goal.returns-then-left-eq0
returns-then-left-eq0 t c = λ k. law.rests_none _ k _ _ _ c.if-left-eq0.true (tally_empty _ c.default.ensures)

pub loop-init : goal.loop-init
loop-init t c = law.values_start _ _ _ _ c.if-left-eq0.false c.peek-kind.ensures.value _ _ c.in-34.is c.list-run.ensures (tally_empty _ c.default-t.ensures)

pub rests-requires : goal.rests-requires
rests-requires t c = (let h = search.value_falls _ _ _ _ c.if-left-eq0.false c.value-v.ensures in omega arith, tt)

pub loop-preserved : goal.loop-preserved
loop-preserved t c = (elim c.if-peek-gt-OTHER_EXPRESSION.branch [ then-peek-gt-OTHER_EXPRESSION w ↦ rw w.t-is (law.value_more _ _ _ _ _ _ _ _ _ _ _ _ c.loop-test.true c.value-v.ensures w.rests.ensures c.skip-p.ensures w.both-t.ensures c.loop.invariant) | else-peek-gt-OTHER_EXPRESSION w ↦ rw w.t-is (law.value_passed _ _ _ _ _ _ _ _ _ _ _ c.loop-test.true c.value-v.ensures c.peek.ensures.value w.if-peek-gt-OTHER_EXPRESSION.false c.skip-p.ensures c.loop.invariant) ])

pub loop-2-init : goal.loop-2-init
loop-2-init t c = law.items_start _ _ _ _ c.if-left-eq0.false c.peek-kind.ensures.value _ _ c.in-36.is c.list-run-in-36.ensures (tally_empty _ c.default-t-in-36.ensures)

pub rests-requires-in-loop-2 : goal.rests-requires-in-loop-2
rests-requires-in-loop-2 t c = (let h = places.item_below _ _ _ true _ c.if-left-eq0.false c.item-e.ensures in omega arith, tt)

pub loop-2-preserved : goal.loop-2-preserved
loop-2-preserved t c = law.item_more _ _ _ _ _ _ _ _ _ _ _ _ c.loop-2-test.true c.item-e.ensures c.rests-in-loop-2.ensures c.skip_item-p.ensures c.both-t-in-loop-2.ensures c.loop-2.invariant

pub rests-requires-in-37 : goal.rests-requires-in-37
rests-requires-in-37 t c = (let h = places.child_falls _ _ _ 0 _ c.if-left-eq0.false c.child-l.ensures in omega arith, tt)

pub returns-after-loop : goal.returns-after-loop
returns-after-loop t c = λ k. law.object_end _ _ _ _ c.if-left-eq0.false c.peek-kind.ensures.value k _ _ _ _ _ _ _ c.in-34.is c.loop-test.false c.loop.invariant c.own.ensures c.both.ensures

pub returns-after-loop-2 : goal.returns-after-loop-2
returns-after-loop-2 t c = λ k. law.array_end _ _ _ _ c.if-left-eq0.false c.peek-kind.ensures.value k _ _ _ _ _ c.in-36.is c.loop-2-test.false c.loop-2.invariant

pub returns-in-37 : goal.returns-in-37
returns-in-37 t c = λ k. law.default_left _ _ _ _ c.if-left-eq0.false c.peek-kind.ensures.value k _ _ c.in-37.is c.child-l.ensures c.rests-in-37.ensures

pub returns-in_default : goal.returns-in_default
returns-in_default t c = λ k. law.leaf_none _ _ _ _ c.if-left-eq0.false c.peek-kind.ensures.value k _ (omega arith) (omega arith) (omega arith) (tally_empty _ c.default-in_default.ensures)
