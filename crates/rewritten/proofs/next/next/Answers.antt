use Rattle.rewritten.proofs.Ahead as law
use Rattle.rewritten.proofs.Moves as moves
use mathlib.Core.Path.{refl}
use native.Mathlib.Omega.{arith}
use borrow.Author.Tests.{lt-ltb, le-ltb}
use Rattle.rewritten.proofs.next.next.Goals as goal

pub returns-then-is_closed : goal.returns-then-is_closed
returns-then-is_closed c = (refl, moves.closed_top _ _ _ _ _ _ _ (moves.found_true c.is_closed.ensures c.if-is_closed.true) refl (moves.step_is c.close.ensures))

pub overflow_add-at : goal.overflow_add-at
overflow_add-at c = omega (arith, law.within _ c.args.frames.now _ c.args.cursor.deep _ (moves.found_true c.is_closed.ensures c.if-is_closed.false) _ c.look-what.ensures 1 c.in-1.is (λ z. absurd (omega arith)))

pub overflow_add-result : goal.overflow_add-result
overflow_add-result c = omega (arith, law.within _ c.args.frames.now _ c.args.cursor.deep _ (moves.found_true c.is_closed.ensures c.if-is_closed.false) _ c.look-what.ensures 3 c.in-3.is (λ z. absurd (omega arith)))

pub returns-then-deep-frames : goal.returns-then-deep-frames
returns-then-deep-frames c = (c.moved-c.ensures.0, law.next_goes _ c.args.frames.now _ _ _ (moves.found_true c.is_closed.ensures c.if-is_closed.false) _ c.look-what.ensures _ c.rest_of.ensures _ c.moved-c.ensures.1 _ c.moved-c.ensures.2 1 c.in-1.is (λ z. absurd (omega arith)) _ (rw (c.peek-kind.ensures.value, c.peek.ensures.value) refl) (rw (lt-ltb _ _ (rw c.moved-c.ensures.0 at c.if-deep-frames.true)) refl))

pub returns-else-deep-frames : goal.returns-else-deep-frames
returns-else-deep-frames c = (c.moved-c.ensures.0, law.next_full _ c.args.frames.now _ _ _ (moves.found_true c.is_closed.ensures c.if-is_closed.false) _ c.look-what.ensures _ c.rest_of.ensures _ c.moved-c.ensures.1 1 c.in-1.is (rw (le-ltb _ _ (rw c.moved-c.ensures.0 at c.if-deep-frames.false)) refl))

pub returns-then-deep-frames-2 : goal.returns-then-deep-frames-2
returns-then-deep-frames-2 c = (c.moved-c.ensures.0, law.next_goes _ c.args.frames.now _ _ _ (moves.found_true c.is_closed.ensures c.if-is_closed.false) _ c.look-what.ensures _ c.rest_of.ensures _ c.moved-c.ensures.1 _ c.moved-c.ensures.2 2 c.in-2.is (λ z. absurd (omega arith)) _ refl (rw (lt-ltb _ _ (rw c.moved-c.ensures.0 at c.if-deep-frames-2.true)) refl))

pub returns-else-deep-frames-2 : goal.returns-else-deep-frames-2
returns-else-deep-frames-2 c = (c.moved-c.ensures.0, law.next_full _ c.args.frames.now _ _ _ (moves.found_true c.is_closed.ensures c.if-is_closed.false) _ c.look-what.ensures _ c.rest_of.ensures _ c.moved-c.ensures.1 2 c.in-2.is (rw (le-ltb _ _ (rw c.moved-c.ensures.0 at c.if-deep-frames-2.false)) refl))

pub returns-in-3 : goal.returns-in-3
returns-in-3 c = (c.moved-c.ensures.0, law.next_goes _ c.args.frames.now _ _ _ (moves.found_true c.is_closed.ensures c.if-is_closed.false) _ c.look-what.ensures _ c.rest_of.ensures _ c.moved-c.ensures.1 _ c.moved-c.ensures.2 3 c.in-3.is (λ z. absurd (omega arith)) _ refl refl)

pub returns-in-4 : goal.returns-in-4
returns-in-4 c = (c.moved-c.ensures.0, law.next_goes _ c.args.frames.now _ _ _ (moves.found_true c.is_closed.ensures c.if-is_closed.false) _ c.look-what.ensures _ c.rest_of.ensures _ c.moved-c.ensures.1 _ c.moved-c.ensures.2 4 c.in-4.is (λ z. absurd (omega arith)) _ refl refl)

pub returns-in-5 : goal.returns-in-5
returns-in-5 c = (c.moved-c.ensures.0, law.next_goes _ c.args.frames.now _ _ _ (moves.found_true c.is_closed.ensures c.if-is_closed.false) _ c.look-what.ensures _ c.rest_of.ensures _ c.moved-c.ensures.1 _ c.moved-c.ensures.2 5 c.in-5.is (λ z. absurd (omega arith)) _ refl refl)

pub returns-in-6 : goal.returns-in-6
returns-in-6 c = (c.moved-c.ensures.0, law.next_goes _ c.args.frames.now _ _ _ (moves.found_true c.is_closed.ensures c.if-is_closed.false) _ c.look-what.ensures _ c.rest_of.ensures _ c.moved-c.ensures.1 _ c.moved-c.ensures.2 6 c.in-6.is (λ z. absurd (omega arith)) _ refl refl)

pub returns-in-7 : goal.returns-in-7
returns-in-7 c = (c.moved-c.ensures.0, law.next_goes _ c.args.frames.now _ _ _ (moves.found_true c.is_closed.ensures c.if-is_closed.false) _ c.look-what.ensures _ c.rest_of.ensures _ c.moved-c.ensures.1 _ c.moved-c.ensures.2 7 c.in-7.is (λ z. absurd (omega arith)) _ refl refl)

pub returns-in_default : goal.returns-in_default
returns-in_default c = (c.moved-c.ensures.0, law.next_refused _ c.args.frames.now _ _ _ (moves.found_true c.is_closed.ensures c.if-is_closed.false) _ c.look-what.ensures _ c.rest_of.ensures _ c.moved-c.ensures.1 c.in_default.in_default-own.rest)
