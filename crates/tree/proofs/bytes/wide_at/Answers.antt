use native.Mathlib.Omega.{arith}
use Rattle.tree.proofs.LeavesRead.{wide_out, wide_in_lem}
use Prim.Native.Nat.{◌<◌}
use lib.ListN.{length}
use Rattle.tree.proofs.bytes.wide_at.Goals as goal

pub returns-then-lo-eq256 : goal.returns-then-lo-eq256
returns-then-lo-eq256 c = wide_out _ _ _ c.peek-lo.ensures c.if-lo-eq256.true

pub overflow_add-at : goal.overflow_add-at
overflow_add-at c = let p = c.peek-lo.ensures in
    let h : c.args.at < length c.args.tree.now = p.within (omega arith) in
    omega arith

pub returns : goal.returns
returns c = wide_in_lem _ _ _ _ c.peek-lo.ensures c.if-lo-eq256.false c.peek.ensures
