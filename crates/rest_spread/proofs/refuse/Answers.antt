use Rattle.rest_spread.proofs.LoweringEntry as law
use Rattle.rest_spread.proofs.refuse.Goals as goal

pub returns : goal.returns
returns c = law.refused_by_number c.args.refusal _ _ _ _ _ _ _ _ c.from.ensures c.abandon.ensures
