use mathlib.Core.Path.{sym, ◌∙◌}
use native.Mathlib.Omega.{arith}
use Rattle.printer.proofs.StepTurns as law
use Rattle.printer.proofs.step.hold_stop.Goals as goal

pub returns-then-is_quasis : goal.returns-then-is_quasis
returns-then-is_quasis c = λ l m g t. rw (sym (c.is_quasis.ensures l m) ∙ c.if-is_quasis.true) (c.hold.ensures (omega arith) g t)

pub returns : goal.returns
returns c = λ l m g t. rw (sym (c.is_quasis.ensures l m) ∙ c.if-is_quasis.false) (law.none_held t _ _)
