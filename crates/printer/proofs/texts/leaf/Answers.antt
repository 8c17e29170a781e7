use mathlib.Core.Path.{refl, sym, ap, ◌∙◌}
use native.Mathlib.Omega.{arith}
use borrow.Author.Tests.{eq-eqb, ne_eqb}
use Rattle.printer.proofs.TextsRead as law
use Rattle.printer.specs.Stacks.{is_empty}
use Rattle.printer.proofs.texts.leaf.Goals as goal
use Rattle.printer.proofs.texts.leaf.Goals.{else-code-eq-LITERAL-via-else-code-eq-LITERAL, else-code-eq-LITERAL-via-then-code-eq-LITERAL+else-is_empty}

pub returns-then-code-eq-STATIC_KEY : goal.returns-then-code-eq-STATIC_KEY
returns-then-code-eq-STATIC_KEY c = λ h. c.key.ensures ∙ rw (law.text_read c.args.tree.now c.args.p _ _ (law.within_short _ h) c.wide_at-n.ensures.value, eq-eqb _ _ c.if-code-eq-STATIC_KEY.true) refl

pub overflow_add-at-then-is_empty : goal.overflow_add-at-then-is_empty
overflow_add-at-then-is_empty c = omega (arith, c.wide_at-n.ensures.bound)

pub returns-then-is_empty : goal.returns-then-is_empty
returns-then-is_empty c = λ h. c.quoted.ensures (omega (arith, c.wide_at-n.ensures.bound)) ∙ rw (law.text_end c.args.tree.now c.args.p _ _ (law.within_short _ h) c.wide_at-n.ensures.value, ne_eqb _ _ c.if-code-eq-STATIC_KEY.false, eq-eqb _ _ c.if-code-eq-LITERAL.true, ap is_empty (sym (law.text_read c.args.tree.now c.args.p _ _ (law.within_short _ h) c.wide_at-n.ensures.value)) ∙ sym c.is_empty.ensures ∙ c.if-is_empty.true) refl

pub returns : goal.returns
returns c = λ h. c.copy.ensures ∙ rw (law.text_read c.args.tree.now c.args.p _ _ (law.within_short _ h) c.wide_at-n.ensures.value, ne_eqb _ _ c.if-code-eq-STATIC_KEY.false) (elim c.else-code-eq-LITERAL.branch [ else-code-eq-LITERAL-via-then-code-eq-LITERAL+else-is_empty w ↦ rw (eq-eqb _ _ w.if-code-eq-LITERAL.true, ap is_empty (sym (law.text_read c.args.tree.now c.args.p _ _ (law.within_short _ h) c.wide_at-n.ensures.value)) ∙ sym w.is_empty.ensures ∙ w.if-is_empty.false) refl | else-code-eq-LITERAL-via-else-code-eq-LITERAL w ↦ rw (ne_eqb _ _ w.if-code-eq-LITERAL.false) refl ])
