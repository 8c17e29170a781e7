use mathlib.Core.Path.{refl, sym, ◌∙◌}
use Rattle.printer.specs.Stacks.{write}
use Rattle.printer.proofs.print.left_in.Goals as goal

pub returns-then-leaves : goal.returns-then-leaves
returns-then-leaves c = λ h. c.left_over.ensures ∙ rw (c.next_in.ensures, sym (c.leaves.ensures h) ∙ c.if-leaves.true) refl

pub returns : goal.returns
unfolding write
returns c = λ h. rw (sym (c.leaves.ensures h) ∙ c.if-leaves.false) refl
