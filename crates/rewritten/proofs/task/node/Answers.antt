use Rattle.rewritten.proofs.Ahead as ahead
use Rattle.rewritten.proofs.TablesRight as law
use lib.ListN.{length}
use mathlib.Core.Path.{refl}
use mathlib.Core.Logic.{inl, inr}
use Prim.Native.Nat.{◌<◌}
use native.Mathlib.Omega.{arith}
use Rattle.rewritten.specs.Numbers.{plan_numbers, map_numbers}
use Rattle.rewritten.proofs.task.node.Goals as goal
use Rattle.rewritten.proofs.task.node.Goals.{then-map-gt63-via-then-map-gt63, then-map-gt63-via-else-map-gt63+then-number_at-map-eq0}

pub returns-then-kind-gt63 : goal.returns-then-kind-gt63
returns-then-kind-gt63 c = (λ _ _ _. law.no_such_kind _ _ _ _ c.peek-kind.ensures c.if-kind-gt63.true, ahead.coded_none 1, λ n. absurd (n refl))

pub returns-then-form-eq0 : goal.returns-then-form-eq0
returns-then-form-eq0 c = (λ e _ _. ahead.node_wrong _ _ _ _ _ c.peek-kind.ensures (c.form_at-form.ensures e) c.if-form-eq0.true, ahead.coded_none 1, λ n. absurd (n refl))

pub overflow_add-at : goal.overflow_add-at
overflow_add-at c = let h : c.args.at < length c.args.tree.now = c.peek-kind.ensures.within (omega (arith, c.if-kind-gt63.false)) in omega arith

pub returns-then-form-eq-STATIC_KEY : goal.returns-then-form-eq-STATIC_KEY
unfolding map_numbers plan_numbers
returns-then-form-eq-STATIC_KEY c = (
  λ e _ _. (elim c.if-form-eq-STATIC_KEY.either [
    | inl i ↦ law.leaf_fits _ _ _ _ c.peek-kind.ensures _ (c.form_at-form.ensures e) c.if-form-eq0.false _ c.peek-map.ensures 18 1 1 672 i c.if-map-eq1.true (omega arith) refl refl refl
    | inr (inl i) ↦ law.leaf_fits _ _ _ _ c.peek-kind.ensures _ (c.form_at-form.ensures e) c.if-form-eq0.false _ c.peek-map.ensures 19 1 1 672 i.1 c.if-map-eq1.true (omega arith) refl refl refl
    | inr (inr i) ↦ law.leaf_fits _ _ _ _ c.peek-kind.ensures _ (c.form_at-form.ensures e) c.if-form-eq0.false _ c.peek-map.ensures 38 1 1 672 i.2 c.if-map-eq1.true (omega arith) refl refl refl
  ]),
  ahead.coded 1 672 (omega arith),
  λ _. law.both_stand _ _ _ c.peek-map.ensures (omega (arith, c.if-map-eq1.true)),
)

pub returns-then-form-eq-LITERAL : goal.returns-then-form-eq-LITERAL
unfolding map_numbers plan_numbers
returns-then-form-eq-LITERAL c = (λ e _ _. law.leaf_fits _ _ _ _ c.peek-kind.ensures _ (c.form_at-form.ensures e) c.if-form-eq0.false _ c.peek-map.ensures 22 7 3 0x2a0a8306 c.if-form-eq-LITERAL.true c.if-map-eq7.true (omega arith) refl refl refl, ahead.coded 1 0x2a0a8306 (omega arith), λ _. law.both_stand _ _ _ c.peek-map.ensures (omega (arith, c.if-map-eq7.true)))

pub returns-then-map-gt63 : goal.returns-then-map-gt63
returns-then-map-gt63 c = (
  λ e _ f. (elim c.then-map-gt63.branch [
    | then-map-gt63-via-then-map-gt63 w ↦ law.map_too_high _ _ _ _ c.peek-kind.ensures _ (c.form_at-form.ensures e) c.if-form-eq0.false _ c.peek-map.ensures w.if-map-gt63.true
    | then-map-gt63-via-else-map-gt63+then-number_at-map-eq0 w ↦ law.map_unfit _ _ _ _ c.peek-kind.ensures _ (c.form_at-form.ensures e) c.if-form-eq0.false _ c.peek-map.ensures (omega (arith, w.if-map-gt63.false)) _ f _ w.number_at.ensures w.if-number_at-map-eq0.true
  ]),
  ahead.coded_none 1,
  λ n. absurd (n refl),
)

pub returns : goal.returns
returns c = (λ e f g. law.map_fits _ _ _ _ c.peek-kind.ensures _ (c.form_at-form.ensures e) c.if-form-eq0.false _ c.peek-map.ensures (omega (arith, c.if-map-gt63.false)) _ g _ c.number_at.ensures c.if-number_at-map-eq0.false _ f _ c.number_at-2.ensures _ c.planned.ensures.1, ahead.coded 1 _ (omega arith), λ _. law.both_stand _ _ _ c.peek-map.ensures (omega (arith, c.if-map-gt63.false)))
