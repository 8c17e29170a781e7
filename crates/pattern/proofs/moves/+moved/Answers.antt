use mathlib.Core.Logic.◌⊎◌.{inl, inr}
use mathlib.Core.Bool.{true}
use native.Mathlib.Omega.{arith}
use Rattle.pattern.proofs.MovesCounted as law
use Rattle.pattern.proofs.NodeParts as places
use Rattle.pattern.proofs.moves.+moved.Goals as goal

pub returns-then-left-eq0 : goal.returns-then-left-eq0
returns-then-left-eq0 t c = law.moved_none _ _ _ c.if-left-eq0.true

pub loop-init : goal.loop-init
loop-init t c = law.items_start _ _ _ _ c.if-left-eq0.false c.peek-kind.ensures.value _ c.in-36.is c.list-run.ensures

pub moved-requires : goal.moved-requires
moved-requires t c = (let h = places.item_below _ _ _ true _ c.if-left-eq0.false c.item-e.ensures in omega arith, tt)

pub loop-preserved : goal.loop-preserved
loop-preserved t c = law.item_more _ _ _ _ _ _ _ _ _ _ _ _ c.loop-test.true c.item-e.ensures c.moved.ensures c.skip_item-p.ensures c.plus-t.ensures c.loop.invariant

pub moved-requires-in-36 : goal.moved-requires-in-36
moved-requires-in-36 t c = (let h = places.child_falls _ _ _ 1 _ c.if-left-eq0.false c.child-rest.ensures in omega arith, tt)

pub returns-in-34 : goal.returns-in-34
returns-in-34 t c = elim c.in-34.is [
  | inl e ↦ law.moved_object _ _ _ _ c.if-left-eq0.false c.peek-kind.ensures.value e
  | inr e ↦ law.moved_default _ _ _ _ c.if-left-eq0.false c.peek-kind.ensures.value e
]

pub returns-after-loop : goal.returns-after-loop
returns-after-loop t c = law.array_end _ _ _ _ c.if-left-eq0.false c.peek-kind.ensures.value _ _ _ _ _ _ _ _ c.in-36.is c.loop-test.false c.loop.invariant c.child-rest.ensures c.moved-in-36.ensures c.plus.ensures

pub returns-in_default : goal.returns-in_default
returns-in_default t c = law.moved_leaf _ _ _ _ c.if-left-eq0.false c.peek-kind.ensures.value (grind arith) (grind arith) (grind arith)
