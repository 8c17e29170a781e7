use Rattle.result.proofs.Looking as law
use Rattle.result.proofs.rest_spread_leftover.Goals as goal

pub returns : goal.returns
returns c = rw (← c.leftover.ensures) (law.told_byte _)
