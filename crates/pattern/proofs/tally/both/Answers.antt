use mathlib.Core.Path.{ap, ◌∙◌}
use Rattle.pattern.proofs.CappedSums as law
use Rattle.pattern.specs.Refusals.{refusal_number}
use Rattle.pattern.proofs.tally.both.Goals as goal

pub returns : goal.returns
returns c = law.both_made _ _ _ c.plus.ensures c.plus-2.ensures c.plus-3.ensures (ap refusal_number c.or.ensures ∙ law.or_refusal _ _) c.plus-4.ensures c.plus-5.ensures
