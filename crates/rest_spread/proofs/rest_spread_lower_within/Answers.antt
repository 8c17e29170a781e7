use Rattle.rest_spread.proofs.LoweringEntry as law
use Rattle.rest_spread.proofs.rest_spread_lower_within.Goals as goal

pub returns-in-Ok : goal.returns-in-Ok
returns-in-Ok c = law.ends_lowered _ _ _ _ _ _ c.attempt.ensures _ c.in-Ok.is

pub returns-in-Err : goal.returns-in-Err
returns-in-Err c = law.ends_with _ _ _ _ _ _ c.attempt.ensures _ c.in-Err.is _ _ c.refuse.ensures (law.lent_kept _ _ _ _ _ _ c.attempt.auto.out c.attempt.auto.list c.attempt.auto.work)
