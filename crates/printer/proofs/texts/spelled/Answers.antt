use mathlib.Core.Path.{sym, ◌∙◌}
use Rattle.printer.specs.Stacks.{frame_in}
use Rattle.printer.proofs.Spelling as law
use Rattle.printer.proofs.texts.spelled.Goals as goal
use Rattle.printer.proofs.texts.spelled.Goals.{else-kind_in-eq-LITERAL-via-then-kind_in-eq-LITERAL+else-seen_in-eq0, else-kind_in-eq-LITERAL-via-else-kind_in-eq-LITERAL}

pub returns-then-is_empty : goal.returns-then-is_empty
returns-then-is_empty c = c.seen_in.ensures ∙ law.spelled_empty (frame_in c.args.f) _ (sym c.is_empty.ensures ∙ c.if-is_empty.true)

pub returns-then-seen_in-eq0 : goal.returns-then-seen_in-eq0
returns-then-seen_in-eq0 c = law.spelled_first (frame_in c.args.f) _ (sym c.is_empty.ensures ∙ c.if-is_empty.false) (sym c.kind_in.ensures ∙ c.if-kind_in-eq-LITERAL.true) (sym c.seen_in-then-kind_in-eq-LITERAL.ensures ∙ c.if-seen_in-eq0.true)

pub returns-else-kind_in-eq-LITERAL : goal.returns-else-kind_in-eq-LITERAL
returns-else-kind_in-eq-LITERAL c = c.seen_in-else-kind_in-eq-LITERAL.ensures ∙ (elim c.else-kind_in-eq-LITERAL.branch [
  | else-kind_in-eq-LITERAL-via-then-kind_in-eq-LITERAL+else-seen_in-eq0 w ↦ law.spelled_again (frame_in c.args.f) _ (sym c.kind_in.ensures ∙ w.if-kind_in-eq-LITERAL.true) (λ e. w.if-seen_in-eq0.false (w.seen_in-then-kind_in-eq-LITERAL.ensures ∙ e))
  | else-kind_in-eq-LITERAL-via-else-kind_in-eq-LITERAL w ↦ law.spelled_other (frame_in c.args.f) _ (λ e. w.if-kind_in-eq-LITERAL.false (c.kind_in.ensures ∙ e))
])
