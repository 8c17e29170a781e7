-- `counting::ways` meets its contract: behind j turns `ways` is the ways to choose j of m.
use mathlib.Core.Path.{sym}
use native.Mathlib.Omega.{arith}
use Rattle.counting.proofs.Figures.{choose_none, way_fits, way_on}
use Rattle.counting.proofs.ways.Goals as goal

pub loop-j-init : goal.loop-j-init
loop-j-init c = sym (choose_none c.args.m)

pub overflow_mul-ways : goal.overflow_mul-ways
overflow_mul-ways c = let f = way_fits c.args.m c.loop-j.j c.loop-j.ways c.loop-j.invariant (omega arith) in
    omega arith

pub loop-j-preserved : goal.loop-j-preserved
loop-j-preserved c = way_on c.args.m c.loop-j.j c.loop-j.ways c.loop-j.invariant
