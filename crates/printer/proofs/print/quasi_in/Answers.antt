use mathlib.Core.Path.{refl, sym, ◌∙◌}
use Rattle.printer.specs.Stacks.{write}
use Rattle.printer.proofs.print.quasi_in.Goals as goal

pub returns-then-is_filled : goal.returns-then-is_filled
returns-then-is_filled c = λ h. c.quasi.ensures ∙ rw (c.next_in.ensures, sym (c.is_filled.ensures h) ∙ c.if-is_filled.true) refl

pub returns : goal.returns
unfolding write
returns c = λ h. rw (sym (c.is_filled.ensures h) ∙ c.if-is_filled.false) refl
