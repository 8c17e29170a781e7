use Prim.Native.Nat.{◌-◌}
use Rattle.joining.specs.Writing.{Quiet}
use Rattle.joining.proofs.write.blocks.Given as goal

abbrev pub invariant-loop-i : goal.invariant-loop-i
invariant-loop-i l = Quiet l.more l.held l.start l.stop l.i

abbrev pub decreases-loop-i : goal.decreases-loop-i
decreases-loop-i l = l.stop - l.i
