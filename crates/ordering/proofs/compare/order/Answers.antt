use Rattle.ordering.proofs.Pairs as law
use mathlib.Core.Path.{◌∙◌}
use Rattle.ordering.proofs.compare.order.Goals as goal

pub returns-then-eq : goal.returns-then-eq
returns-then-eq c = law.answers_by _ _ _ (c.then_some.ensures ∙ law.same_answer _ _ c.if-eq.ensures _ c.is_rewritten.ensures)
