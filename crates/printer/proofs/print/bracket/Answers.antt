use mathlib.Core.Path.{refl, ◌∙◌}
use Rattle.printer.specs.Stacks.{write}
use Rattle.printer.proofs.print.bracket.Goals as goal

pub returns-then-stands : goal.returns-then-stands
unfolding write
returns-then-stands c = c.put.ensures ∙ rw c.if-stands.true refl

pub returns : goal.returns
unfolding write
returns c = rw c.if-stands.false refl
