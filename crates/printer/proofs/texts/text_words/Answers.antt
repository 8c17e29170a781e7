use lib.ListN.{take, drop}
use mathlib.Core.Path.{refl, sym, ap, ◌∙◌}
use borrow.Author.Tests.{eq-eqb, ne_eqb}
use Rattle.printer.specs.Stacks.{Buffer, write}
use Rattle.printer.proofs.PiecesWritten.{write_append}
use Rattle.printer.specs.Places.{text_bytes}
use Rattle.printer.proofs.texts.text_words.Goals as goal

pub returns-then-kind-eq-LITERAL : goal.returns-then-kind-eq-LITERAL
unfolding text_bytes
returns-then-kind-eq-LITERAL c = λ s w. c.literal.ensures ∙ rw (eq-eqb _ _ (sym c.kind_in-kind.ensures ∙ c.if-kind-eq-LITERAL.true)) refl

pub returns-then-kind-eq-MEMBER : goal.returns-then-kind-eq-MEMBER
unfolding text_bytes
returns-then-kind-eq-MEMBER c = λ s w. c.member.ensures ∙ rw (ne_eqb _ _ (λ e. c.if-kind-eq-LITERAL.false (c.kind_in-kind.ensures ∙ e)), eq-eqb _ _ (sym c.kind_in-kind.ensures ∙ c.if-kind-eq-MEMBER.true)) refl

pub returns-then-kind-eq-STATIC_KEY : goal.returns-then-kind-eq-STATIC_KEY
unfolding text_bytes
returns-then-kind-eq-STATIC_KEY c = λ s w. c.key.ensures ∙ rw (ne_eqb _ _ (λ e. c.if-kind-eq-LITERAL.false (c.kind_in-kind.ensures ∙ e)), ne_eqb _ _ (λ e. c.if-kind-eq-MEMBER.false (c.kind_in-kind.ensures ∙ e)), eq-eqb _ _ (sym c.kind_in-kind.ensures ∙ c.if-kind-eq-STATIC_KEY.true)) refl

pub returns : goal.returns
unfolding text_bytes
returns c = λ s w. c.copy.ensures ∙ ap (λ (b : Buffer). write b (take c.args.n (drop c.args.at c.args.tree.now))) (c.lead-s.ensures s w) ∙ sym (write_append _ _ _) ∙ rw (ne_eqb _ _ (λ e. c.if-kind-eq-LITERAL.false (c.kind_in-kind.ensures ∙ e)), ne_eqb _ _ (λ e. c.if-kind-eq-MEMBER.false (c.kind_in-kind.ensures ∙ e)), ne_eqb _ _ (λ e. c.if-kind-eq-STATIC_KEY.false (c.kind_in-kind.ensures ∙ e))) refl
