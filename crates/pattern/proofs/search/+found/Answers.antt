use mathlib.Core.Path.{◌∙◌}
use mathlib.Core.Bool.{true, false}
use native.Mathlib.Omega.{arith}
use Rattle.lowering.specs.Patterns.{value}
use Rattle.pattern.proofs.NodeParts as places
use Rattle.pattern.proofs.Searches as law
use Rattle.pattern.proofs.search.+found.Goals as goal
use Rattle.pattern.proofs.search.+found.Goals.{else-not-below_array-via-then-not-below_array+else-stands, else-not-below_array-via-else-not-below_array}

pub returns-then-left-eq0 : goal.returns-then-left-eq0
returns-then-left-eq0 t c = law.sought_none _ _ _ _ c.if-left-eq0.true

pub returns-then-stands : goal.returns-then-stands
returns-then-stands t c = law.sought_rest _ _ _ _ c.if-left-eq0.false c.peek-kind.ensures.value _ _ c.in-34.is c.if-not-below_array.true c.stands.ensures c.if-stands.true

pub loop-init : goal.loop-init
loop-init t c = (elim c.else-not-below_array.branch [ else-not-below_array-via-then-not-below_array+else-stands w ↦ law.begun_bare _ _ _ _ c.if-left-eq0.false c.peek-kind.ensures.value _ _ c.in-34.is c.list-run.ensures _ w.stands.ensures w.if-stands.false | else-not-below_array-via-else-not-below_array w ↦ law.begun_deep _ _ _ _ c.if-left-eq0.false c.peek-kind.ensures.value _ _ c.in-34.is c.list-run.ensures w.if-not-below_array.false ])

pub found-requires : goal.found-requires
found-requires t c = (let h = law.value_falls _ _ _ _ c.if-left-eq0.false c.value-v.ensures in omega arith, tt)

pub returns-then-found : goal.returns-then-found
returns-then-found t c = law.value_yes _ (law.sought _) (law.sought_blank _) (law.sought_nothing _) _ _ _ _ _ _ c.loop-test.true c.value-v.ensures c.found.ensures c.if-found.true ∙ c.loop.invariant

pub loop-preserved : goal.loop-preserved
loop-preserved t c = law.value_more _ (law.sought _) (law.sought_blank _) (law.sought_nothing _) _ _ _ _ _ _ c.loop-test.true c.value-v.ensures c.found.ensures _ c.if-found.false c.skip-p.ensures ∙ c.loop.invariant

pub loop-2-init : goal.loop-2-init
loop-2-init t c = law.sought_items _ _ _ _ c.if-left-eq0.false c.peek-kind.ensures.value _ _ c.in-36.is c.list-run-in-36.ensures

pub found-requires-in-loop-2 : goal.found-requires-in-loop-2
found-requires-in-loop-2 t c = (let h = places.item_below _ _ _ true _ c.if-left-eq0.false c.item-e.ensures in omega arith, tt)

pub returns-then-found-2 : goal.returns-then-found-2
returns-then-found-2 t c = law.item_yes _ (law.sought _) (law.sought_empty _) _ _ _ _ true _ _ c.loop-2-test.true c.item-e.ensures c.found-in-loop-2.ensures _ c.if-found-2.true ∙ c.loop-2.invariant

pub loop-2-preserved : goal.loop-2-preserved
loop-2-preserved t c = law.item_more _ (law.sought _) (law.sought_empty _) _ _ _ _ true _ _ c.loop-2-test.true c.item-e.ensures c.found-in-loop-2.ensures _ _ c.if-found-2.false c.skip_item-p.ensures ∙ c.loop-2.invariant

pub found-requires-in-36 : goal.found-requires-in-36
found-requires-in-36 t c = (let h = places.child_falls _ _ _ 1 _ c.if-left-eq0.false c.child-rest.ensures in omega arith, tt)

pub found-requires-in-37 : goal.found-requires-in-37
found-requires-in-37 t c = (let h = places.child_falls _ _ _ 0 _ c.if-left-eq0.false c.child-l.ensures in omega arith, tt)

pub returns-after-loop : goal.returns-after-loop
returns-after-loop t c = law.any_end _ (λ q. law.sought _ (value q)) _ false _ _ _ c.loop-test.false ∙ c.loop.invariant

pub returns-after-loop-2 : goal.returns-after-loop-2
returns-after-loop-2 t c = law.items_done _ (law.sought _) _ _ _ _ _ _ _ _ c.loop-2-test.false c.child-rest.ensures c.found-in-36.ensures ∙ c.loop-2.invariant

pub returns-in-37 : goal.returns-in-37
returns-in-37 t c = law.sought_left _ _ _ _ c.if-left-eq0.false c.peek-kind.ensures.value _ _ _ c.in-37.is c.child-l.ensures c.found-in-37.ensures

pub returns-in_default : goal.returns-in_default
returns-in_default t c = law.sought_leaf _ _ _ _ c.if-left-eq0.false c.peek-kind.ensures.value _ (omega arith) (omega arith) (omega arith)
