use native.Mathlib.Omega.{arith}
use Rattle.walk.proofs.TurnsLeft.{none_gone, one_gone}
use Rattle.walk.proofs.Lookups as law
use Rattle.walk.proofs.look.moved_in.Goals as goal

pub loop-init : goal.loop-init
loop-init c = rw (none_gone c.args.count) (law.moved_start _ _ _ _)

pub loop-preserved : goal.loop-preserved
loop-preserved c = rw (one_gone c.args.count c.loop.counter) (law.moved_more _ _ _ _ _ _ _ _ _ _ (omega (arith, c.loop-test.true)) c.moved_from.ensures c.skip-p.ensures c.plus-k.ensures c.loop.invariant)

pub returns : goal.returns
returns c = law.moved_end _ _ _ _ _ _ _ (omega (arith, c.loop-test.false)) c.loop.invariant
