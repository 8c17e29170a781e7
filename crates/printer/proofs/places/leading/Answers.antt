use mathlib.Core.Path.{refl, sym, ◌∙◌}
use borrow.Author.Tests.{eq-eqb, ne_eqb}
use Rattle.printer.specs.Places.{leading}
use Rattle.printer.proofs.places.leading.Goals as goal

pub returns-then-list_in-eq1 : goal.returns-then-list_in-eq1
unfolding leading
returns-then-list_in-eq1 c = λ k m h g f. rw (c.separator.ensures h, eq-eqb _ _ (sym c.list_in.ensures ∙ c.if-list_in-eq1.true)) refl

pub returns : goal.returns
unfolding leading
returns c = λ k m h g f. rw (c.choose.ensures, g, f, ne_eqb _ _ (λ e. c.if-list_in-eq1.false (c.list_in.ensures ∙ e))) refl
