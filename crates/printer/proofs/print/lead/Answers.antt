use mathlib.Core.Path.{refl, sym, ap, ◌∙◌}
use borrow.Author.Tests.{eq-eqb, ne_eqb}
use Rattle.printer.specs.Layout.{word, words}
use Rattle.printer.specs.Places.{leading}
use Rattle.printer.specs.Stacks.{Buffer, put, write}
use Rattle.printer.proofs.print.lead.Goals as goal

pub returns-then-is_parted : goal.returns-then-is_parted
unfolding leading word words write
returns-then-is_parted c = λ w k n hm ho hz. c.put.ensures ∙ ap (λ (b : Buffer). put b 32) c.put-a.ensures ∙ rw (eq-eqb _ _ (sym c.list_in.ensures ∙ c.if-list_in-eq1.true), c.is_parted.ensures hm, c.if-is_parted.true) refl

pub returns-then-list_in-eq1 : goal.returns-then-list_in-eq1
unfolding leading word words write
returns-then-list_in-eq1 c = λ w k n hm ho hz. rw (eq-eqb _ _ (sym c.list_in.ensures ∙ c.if-list_in-eq1.true), c.is_parted.ensures hm, c.if-is_parted.false) refl

pub returns : goal.returns
unfolding leading
returns c = λ w k n hm ho hz. c.say_any.ensures w ∙ rw (c.choose.ensures, ho, ← hz, ne_eqb _ _ (λ e. c.if-list_in-eq1.false (c.list_in.ensures ∙ e))) refl
