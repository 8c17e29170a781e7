use mathlib.Core.Path.{refl, ◌∙◌}
use Rattle.walk.proofs.Running as law
use Rattle.walk.proofs.walk.Walk.refuse.Goals as goal

pub returns-then-self-eq0 : goal.returns-then-self-eq0
returns-then-self-eq0 c = (((λ l w. law.by_refusal _ _ _ _ _ (c.from.ensures ∙ law.first_refusal_lem _ c.args.n c.if-self-eq0.true) (c.put2-sink.ensures l w))), refl)

pub returns-else-self-eq0 : goal.returns-else-self-eq0
returns-else-self-eq0 c = (((λ l w. law.by_refusal _ _ _ _ _ (law.later_refusal _ _ c.if-self-eq0.false) (c.put2-sink.ensures l w))), refl)
