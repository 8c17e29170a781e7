use native.Mathlib.Omega.{arith}
use Rattle.joining.proofs.Listing as law
use Rattle.joining.proofs.entries.read.Goals as goal

pub returns-then-list-gt16384 : goal.returns-then-list-gt16384
returns-then-list-gt16384 c = λ met k a b. (law.answers_lost (law.list_long _ c.if-list-gt16384.true met), tt)

pub returns-then-end-list : goal.returns-then-end-list
returns-then-end-list c = λ met k a b. (law.answers_at (law.list_whole _ c.if-list-gt16384.false met _ _ (law.at_ends _ _ _ _ c.in_ok-at.was (c.entries.ensures.1 met k a c.if-list-gt16384.false b).0) _ _ (law.at_ends _ _ _ _ c.in_ok-end.was (c.declarators.ensures.1 (law.at_ends _ _ _ _ c.in_ok-at.was (c.entries.ensures.1 met k a c.if-list-gt16384.false b).0).met (law.at_ends _ _ _ _ c.in_ok-at.was (c.entries.ensures.1 met k a c.if-list-gt16384.false b).0).known (omega (arith, a, c.entries.auto.frames)) (omega (arith, c.if-list-gt16384.false)))) c.if-end-list.true), law.at_then _ _ _ c.in_ok-at.was (c.entries.ensures.1 met k a c.if-list-gt16384.false b).1)

pub returns-else-end-list : goal.returns-else-end-list
returns-else-end-list c = λ met k a b. (law.answers_lost (law.list_short _ c.if-list-gt16384.false met _ _ (law.at_ends _ _ _ _ c.in_ok-at.was (c.entries.ensures.1 met k a c.if-list-gt16384.false b).0) _ _ (law.at_ends _ _ _ _ c.in_ok-end.was (c.declarators.ensures.1 (law.at_ends _ _ _ _ c.in_ok-at.was (c.entries.ensures.1 met k a c.if-list-gt16384.false b).0).met (law.at_ends _ _ _ _ c.in_ok-at.was (c.entries.ensures.1 met k a c.if-list-gt16384.false b).0).known (omega (arith, a, c.entries.auto.frames)) (omega (arith, c.if-list-gt16384.false)))) c.if-end-list.false), tt)

pub returns-in_err-end : goal.returns-in_err-end
returns-in_err-end c = λ met k a b. (law.none_answers _ _ _ c.from_residual-in_err-end.ensures (law.list_last_lost _ c.if-list-gt16384.false met _ _ (law.at_ends _ _ _ _ c.in_ok-at.was (c.entries.ensures.1 met k a c.if-list-gt16384.false b).0) (law.missing_ends _ _ _ c.in_err-end.was (c.declarators.ensures.1 (law.at_ends _ _ _ _ c.in_ok-at.was (c.entries.ensures.1 met k a c.if-list-gt16384.false b).0).met (law.at_ends _ _ _ _ c.in_ok-at.was (c.entries.ensures.1 met k a c.if-list-gt16384.false b).0).known (omega (arith, a, c.entries.auto.frames)) (omega (arith, c.if-list-gt16384.false))))), law.none_if _ _ c.from_residual-in_err-end.ensures)

pub returns-in_err-at : goal.returns-in_err-at
returns-in_err-at c = λ met k a b. (law.none_answers _ _ _ c.from_residual.ensures (law.list_lost _ c.if-list-gt16384.false met (law.missing_ends _ _ _ c.in_err-at.was (c.entries.ensures.1 met k a c.if-list-gt16384.false b).0)), law.none_if _ _ c.from_residual.ensures)
