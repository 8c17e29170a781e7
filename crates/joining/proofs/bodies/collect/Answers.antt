use mathlib.Core.Path.{sym, ◌∙◌}
use native.Mathlib.Omega.{arith}
use Rattle.joining.proofs.TablesFilled as law
use Rattle.joining.proofs.bodies.collect.Goals as goal
use Rattle.joining.proofs.bodies.collect.Goals.{then-tree-gt32768-via-then-tree-gt32768, then-tree-gt32768-via-else-tree-gt32768+then-frames-lt16384, then-tree-gt32768-via-else-tree-gt32768+else-frames-lt16384+then-seen-lt65536}

pub returns-then-tree-gt32768 : goal.returns-then-tree-gt32768
returns-then-tree-gt32768 c = λ n. elim c.then-tree-gt32768.branch [
  | then-tree-gt32768-via-then-tree-gt32768 w ↦ law.toured_none (law.tour_long c.args.tree.now w.if-tree-gt32768.true)
  | then-tree-gt32768-via-else-tree-gt32768+then-frames-lt16384 w ↦ absurd (omega (arith, n.enough, w.if-frames-lt16384.true))
  | then-tree-gt32768-via-else-tree-gt32768+else-frames-lt16384+then-seen-lt65536 w ↦ absurd (omega (arith, n.marks, w.if-seen-lt65536.true))
]

pub loop-bodies-init : goal.loop-bodies-init
loop-bodies-init c = law.touring_start _ _ _ _ _ _ _ c.if-tree-gt32768.false (omega (arith, c.clear.ensures.0, c.if-seen-lt65536.false)) c.clear.ensures.1 _ c.begin-cursor.ensures

pub returns-then-at-tree : goal.returns-then-at-tree
returns-then-at-tree c = λ n. law.tour_whole _ _ _ _ _ _ _ _ _ _ _ _ _ _ _ _ c.loop-bodies.invariant c.if-tree-gt32768.false (sym c.is_closed.ensures ∙ c.if-is_closed.true) c.if-deep-eq0.true c.if-at-tree.true (law.ready _ _ _ _ _ _ n _ _ _ c.clear.ensures (law.cleared _ _ (c.fill.ensures.after (λ y e. e))) (law.cleared _ _ (c.fill-2.ensures.after (λ y e. e))))

pub returns-then-deep-eq0 : goal.returns-then-deep-eq0
returns-then-deep-eq0 c = λ n. law.toured_none (law.tour_part _ _ _ _ _ _ _ _ _ _ _ _ _ _ _ _ c.loop-bodies.invariant c.if-tree-gt32768.false (sym c.is_closed.ensures ∙ c.if-is_closed.true) c.if-deep-eq0.true c.if-at-tree.false)

pub loop-bodies-smaller-then-is_closed : goal.loop-bodies-smaller-then-is_closed
loop-bodies-smaller-then-is_closed c = omega (arith, c.if-deep-eq0.false)

pub loop-bodies-preserved-then-is_closed : goal.loop-bodies-preserved-then-is_closed
loop-bodies-preserved-then-is_closed c = law.tour_closed _ _ _ _ _ _ _ _ _ _ _ _ _ _ _ _ c.loop-bodies.invariant c.if-tree-gt32768.false (sym c.is_closed.ensures ∙ c.if-is_closed.true) c.if-deep-eq0.false _ c.frame_at.ensures

pub returns-then-what-eq0 : goal.returns-then-what-eq0
returns-then-what-eq0 c = λ n. law.toured_none (law.tour_refused _ _ _ _ _ _ _ _ _ _ _ _ _ _ _ _ c.loop-bodies.invariant c.if-tree-gt32768.false (sym c.is_closed.ensures ∙ c.if-is_closed.false) _ c.look-what.ensures c.if-what-eq0.true)

pub add-bodies-requires : goal.add-bodies-requires
add-bodies-requires c = (law.touring_deep _ _ _ _ _ _ _ _ _ _ _ _ _ _ _ _ c.loop-bodies.invariant c.if-tree-gt32768.false, c.if-what-eq0.false)

pub loop-bodies-smaller : goal.loop-bodies-smaller
loop-bodies-smaller c = law.tour_falls _ _ _ _ _ _ _ _ _ _ _ _ _ _ _ _ c.loop-bodies.invariant c.if-tree-gt32768.false (sym c.is_closed.ensures ∙ c.if-is_closed.false) _ c.look-what.ensures c.if-what-eq0.false c.if-frames-lt16384.false _ c.is_new_ahead.ensures _ c.rest_of.ensures _ c.moved-cursor.ensures.1 _ c.moved-cursor.ensures.2

pub loop-bodies-preserved : goal.loop-bodies-preserved
loop-bodies-preserved c = law.tour_ahead _ _ _ _ _ _ _ _ _ _ _ _ _ _ _ _ c.loop-bodies.invariant c.if-tree-gt32768.false (sym c.is_closed.ensures ∙ c.if-is_closed.false) _ c.look-what.ensures c.if-what-eq0.false c.if-frames-lt16384.false _ c.is_new_ahead.ensures _ c.rest_of.ensures _ c.moved-cursor.ensures.1 _ c.moved-cursor.ensures.2 c.moved-cursor.ensures.0 c.if-is_new_ahead.true _ _ _ _ _ _ _ c.note_ahead.ensures c.add-bodies.ensures c.note_ahead.auto.seen c.add-bodies.auto.around c.add-bodies.auto.earlier c.add-bodies.auto.holds c.add-bodies.auto.before

pub returns-else-is_new_ahead : goal.returns-else-is_new_ahead
returns-else-is_new_ahead c = λ n. law.toured_none (law.tour_twice _ _ _ _ _ _ _ _ _ _ _ _ _ _ _ _ c.loop-bodies.invariant c.if-tree-gt32768.false (sym c.is_closed.ensures ∙ c.if-is_closed.false) _ c.look-what.ensures c.if-what-eq0.false c.if-frames-lt16384.false _ c.is_new_ahead.ensures c.if-is_new_ahead.false)
