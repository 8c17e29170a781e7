use Rattle.ordering.proofs.Pairs as law
use mathlib.Core.Path.{refl, sym, ◌∙◌}
use native.Mathlib.Omega.{arith}
use Rattle.ordering.proofs.compare.compare.Goals as goal
use Rattle.ordering.proofs.compare.compare.Goals.{then-frames-lt16384-via-then-frames-lt16384, then-frames-lt16384-via-else-frames-lt16384+then-others-lt16384, then-frames-lt16384-via-else-frames-lt16384+else-others-lt16384+then-table-lt65536, then-frames-lt16384-via-else-frames-lt16384+else-others-lt16384+else-table-lt65536+then-places-lt65536, then-frames-lt16384-via-else-frames-lt16384+else-others-lt16384+else-table-lt65536+else-places-lt65536+then-is_refused}

pub returns-then-frames-lt16384 : goal.returns-then-frames-lt16384
returns-then-frames-lt16384 c = λ a b d e. (elim c.then-frames-lt16384.branch [
  | then-frames-lt16384-via-then-frames-lt16384 w ↦ absurd (omega (arith, a, w.if-frames-lt16384.true))
  | then-frames-lt16384-via-else-frames-lt16384+then-others-lt16384 w ↦ absurd (omega (arith, b, w.if-others-lt16384.true))
  | then-frames-lt16384-via-else-frames-lt16384+else-others-lt16384+then-table-lt65536 w ↦ absurd (omega (arith, d, w.if-table-lt65536.true))
  | then-frames-lt16384-via-else-frames-lt16384+else-others-lt16384+else-table-lt65536+then-places-lt65536 w ↦ absurd (omega (arith, e, w.if-places-lt65536.true))
  | then-frames-lt16384-via-else-frames-lt16384+else-others-lt16384+else-table-lt65536+else-places-lt65536+then-is_refused w ↦ law.answers_by _ _ _ (law.refused_either _ _ (sym w.is_refused.ensures ∙ w.if-is_refused.true))
])

pub loop-e-init : goal.loop-e-init
loop-e-init c = (law.going_start c.args.first.now c.args.second.now c.args.frames.now c.args.others.now _ _ (sym c.is_refused.ensures ∙ c.if-is_refused.false) c.if-frames-lt16384.false c.if-others-lt16384.false (omega (arith, c.fill.ensures.len, c.if-table-lt65536.false)) (law.all_zero _ _ (c.fill.ensures.after (λ y e. e))) (omega (arith, c.fill-2.ensures.len, c.if-places-lt65536.false)) (law.all_zero _ _ (c.fill-2.ensures.after (λ y e. e))) _ _ c.begin.ensures c.begin.ensures, refl, refl, refl, refl)

pub returns-then-is_ne : goal.returns-then-is_ne
returns-then-is_ne c = λ _ _ _ _. law.answers_by _ _ _ (law.pair_parts _ _ _ _ _ _ _ _ _ c.loop-e.invariant.0 _ _ _ _ _ _ (c.advance-m.ensures.2 _ c.loop-e.invariant.0.left) (c.advance-n.ensures.2 _ c.loop-e.invariant.0.right) _ _ _ _ c.in-Some-Some.is-0 c.in-Some-Some.is-1 c.by_event-order.result c.by_event-order.ensures (sym c.is_ne.ensures ∙ c.if-is_ne.true))

pub loop-e-smaller : goal.loop-e-smaller
loop-e-smaller c = law.pair_falls _ _ _ _ _ _ _ _ _ c.loop-e.invariant.0 _ _ _ _ _ _ (c.advance-m.ensures.2 _ c.loop-e.invariant.0.left) (c.advance-n.ensures.2 _ c.loop-e.invariant.0.right) _ _ _ _ c.in-Some-Some.is-0 c.in-Some-Some.is-1

pub loop-e-preserved : goal.loop-e-preserved
loop-e-preserved c = (law.pair_equal _ _ _ _ _ _ _ _ _ c.loop-e.invariant.0 _ _ _ _ _ _ (c.advance-m.ensures.2 _ c.loop-e.invariant.0.left) (c.advance-n.ensures.2 _ c.loop-e.invariant.0.right) _ _ _ _ c.in-Some-Some.is-0 c.in-Some-Some.is-1 c.by_event-order.result c.by_event-order.ensures (sym c.is_ne.ensures ∙ c.if-is_ne.false), c.advance-m.ensures.0 ∙ c.loop-e.invariant.1, c.advance-n.ensures.0 ∙ c.loop-e.invariant.2, c.advance-m.ensures.1 ∙ c.loop-e.invariant.3, c.advance-n.ensures.1 ∙ c.loop-e.invariant.4)

pub returns-in-Some-None : goal.returns-in-Some-None
returns-in-Some-None c = λ _ _ _ _. law.answers_by _ _ _ (law.second_ends _ _ _ _ _ _ _ _ _ c.loop-e.invariant.0 _ _ _ _ _ _ (c.advance-m.ensures.2 _ c.loop-e.invariant.0.left) (c.advance-n.ensures.2 _ c.loop-e.invariant.0.right) _ _ c.in-Some-None.is-0 c.in-Some-None.is-1)

pub returns-in-None-Some : goal.returns-in-None-Some
returns-in-None-Some c = λ _ _ _ _. law.answers_by _ _ _ (law.first_ends _ _ _ _ _ _ _ _ _ c.loop-e.invariant.0 _ _ _ _ _ _ (c.advance-m.ensures.2 _ c.loop-e.invariant.0.left) (c.advance-n.ensures.2 _ c.loop-e.invariant.0.right) _ _ c.in-None-Some.is-0 c.in-None-Some.is-1)

pub returns-in-None-None : goal.returns-in-None-None
returns-in-None-None c = λ _ _ _ _. law.answers_by _ _ _ (law.both_end _ _ _ _ _ _ _ _ _ c.loop-e.invariant.0 _ _ _ _ _ _ (c.advance-m.ensures.2 _ c.loop-e.invariant.0.left) (c.advance-n.ensures.2 _ c.loop-e.invariant.0.right) c.in-None-None.is-0 c.in-None-None.is-1)
