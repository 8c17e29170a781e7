use mathlib.Core.Path.{refl, sym, ◌∙◌}
use borrow.Author.Tests.{eq-eqb, ne_eqb}
use Rattle.printer.specs.Places.{number_bytes}
use Rattle.printer.specs.Stacks.{write}
use Rattle.printer.proofs.step.number_bytes.Goals as goal

pub returns-then-kind_in-eq-TEMPORARY : goal.returns-then-kind_in-eq-TEMPORARY
unfolding number_bytes
returns-then-kind_in-eq-TEMPORARY c = c.decimal.ensures ∙ rw (eq-eqb _ _ (sym c.kind_in.ensures ∙ c.if-kind_in-eq-TEMPORARY.true)) refl

pub returns : goal.returns
unfolding number_bytes write
returns c = rw (ne_eqb _ _ (λ e. c.if-kind_in-eq-TEMPORARY.false (c.kind_in.ensures ∙ e))) refl
