use Rattle.joining.specs.Writing.{Quiet}
use Rattle.joining.proofs.write.quiet.Given as goal

abbrev pub invariant-loop-i : goal.invariant-loop-i
invariant-loop-i l = Quiet l.more l.held l.start l.stop l.i
