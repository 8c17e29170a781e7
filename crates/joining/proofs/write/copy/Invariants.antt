use Rattle.joining.proofs.BytesWritten as law
use Rattle.joining.proofs.write.copy.Given as goal

abbrev pub invariant-loop-i : goal.invariant-loop-i
invariant-loop-i l = law.Copying l.initial.out l.at l.from l.start l.stop l.out l.p l.i
