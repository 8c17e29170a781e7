use Rattle.rewritten.proofs.Moves as moves
use Rattle.rewritten.proofs.MarksReader as law
use mathlib.Core.Path.{refl, ◌∙◌}
use native.Mathlib.Omega.{arith}
use Rattle.rewritten.proofs.read.read.Goals as goal
use Rattle.rewritten.proofs.read.read.Goals.{then-tree-gt32768-via-then-tree-gt32768, then-tree-gt32768-via-else-tree-gt32768+then-frames-lt16384, then-tree-gt32768-via-else-tree-gt32768+else-frames-lt16384+then-seen-lt65536, then-what-eq0-via-then-what-eq0, then-what-eq0-via-else-what-eq0+then-not-is_new_ahead}

pub returns-then-tree-gt32768 : goal.returns-then-tree-gt32768
returns-then-tree-gt32768 c = λ a b. (elim c.then-tree-gt32768.branch [
  | then-tree-gt32768-via-then-tree-gt32768 w ↦ law.too_long c.args.tree.now w.if-tree-gt32768.true
  | then-tree-gt32768-via-else-tree-gt32768+then-frames-lt16384 w ↦ absurd (omega (arith, a, w.if-frames-lt16384.true))
  | then-tree-gt32768-via-else-tree-gt32768+else-frames-lt16384+then-seen-lt65536 w ↦ absurd (omega (arith, b, w.if-seen-lt65536.true))
])

pub loop-at-init : goal.loop-at-init
loop-at-init c = (law.reading_start c.args.tree.now c.args.frames.now _ c.if-tree-gt32768.false (omega (arith, c.clear.ensures.0, c.if-seen-lt65536.false)) c.clear.ensures.1 _ c.begin-cursor.ensures, refl)

pub returns-then-deep-eq0 : goal.returns-then-deep-eq0
returns-then-deep-eq0 c = λ _ _. law.closed_ends _ _ _ _ _ _ c.loop-at.invariant.0 (moves.found_true c.is_closed.ensures c.if-is_closed.true) c.if-deep-eq0.true

pub loop-at-preserved-then-is_closed : goal.loop-at-preserved-then-is_closed
loop-at-preserved-then-is_closed c = (law.closed_next _ _ _ _ _ _ c.loop-at.invariant.0 (moves.found_true c.is_closed.ensures c.if-is_closed.true) c.if-deep-eq0.false _ c.frame_at.ensures, c.loop-at.invariant.1)

pub returns-then-what-eq0 : goal.returns-then-what-eq0
returns-then-what-eq0 c = λ _ _. (elim c.then-what-eq0.branch [
  | then-what-eq0-via-then-what-eq0 w ↦ law.ahead_refused _ _ _ _ _ _ c.loop-at.invariant.0 (moves.found_true c.is_closed.ensures c.if-is_closed.false) _ c.look-what.ensures w.if-what-eq0.true
  | then-what-eq0-via-else-what-eq0+then-not-is_new_ahead w ↦ law.ahead_twice _ _ _ _ _ _ c.loop-at.invariant.0 (moves.found_true c.is_closed.ensures c.if-is_closed.false) _ c.look-what.ensures w.if-what-eq0.false c.if-tree-gt32768.false c.if-frames-lt16384.false _ w.is_new_ahead.ensures w.if-not-is_new_ahead.true
])

pub loop-at-smaller : goal.loop-at-smaller
loop-at-smaller c = law.ahead_falls _ _ _ _ _ _ c.loop-at.invariant.0 (moves.found_true c.is_closed.ensures c.if-is_closed.false) _ c.look-what.ensures c.if-what-eq0.false c.if-tree-gt32768.false c.if-frames-lt16384.false _ c.is_new_ahead.ensures _ c.rest_of.ensures _ c.moved-cursor.ensures.1 _ c.moved-cursor.ensures.2

pub loop-at-preserved : goal.loop-at-preserved
loop-at-preserved c = (law.ahead_next _ _ _ _ _ _ c.loop-at.invariant.0 (moves.found_true c.is_closed.ensures c.if-is_closed.false) _ c.look-what.ensures c.if-what-eq0.false c.if-tree-gt32768.false c.if-frames-lt16384.false _ c.is_new_ahead.ensures _ c.rest_of.ensures _ c.moved-cursor.ensures.1 _ c.moved-cursor.ensures.2 c.moved-cursor.ensures.0 c.if-not-is_new_ahead.false _ c.note_ahead.ensures, c.note_ahead.auto.seen ∙ c.loop-at.invariant.1)
