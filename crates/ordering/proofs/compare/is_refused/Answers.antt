use mathlib.Core.Path.{refl, sym}
use Rattle.ordering.specs.Outcome.{is_refused}
use Rattle.ordering.proofs.compare.is_refused.Goals as goal

pub returns-then-not-is_rewritten : goal.returns-then-not-is_rewritten
unfolding is_refused
returns-then-not-is_rewritten c = rw (sym c.is_rewritten.ensures, c.if-not-is_rewritten.true) refl

pub returns-else-not-is_rewritten : goal.returns-else-not-is_rewritten
unfolding is_refused
returns-else-not-is_rewritten c = rw (sym c.is_rewritten.ensures, c.if-not-is_rewritten.false, sym c.is_rewritten-else-not-is_rewritten.ensures) refl
