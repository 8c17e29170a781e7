-- `counting::rest_spread_calls` meets its contract.
use Rattle.counting.proofs.Figures.{refused, answered}
use Rattle.counting.proofs.rest_spread_calls.Goals as goal

pub returns-in-Ok : goal.returns-in-Ok
returns-in-Ok c = answered _ _ _ c.in-Ok.ensures.ok.0 c.in-Ok.ensures.ok.1

pub returns-in-Err : goal.returns-in-Err
returns-in-Err c = rw c.in-Err.ensures.err.1 (refused _ _ c.in-Err.ensures.err.0)
