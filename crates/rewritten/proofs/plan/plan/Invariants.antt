use Rattle.rewritten.proofs.Frames as law
use Rattle.rewritten.proofs.plan.plan.Given as goal

abbrev pub invariant-loop-left : goal.invariant-loop-left
invariant-loop-left l = law.Planning l.row l.map l.left l.bits l.made l.scale

abbrev pub decreases-loop-left : goal.decreases-loop-left
decreases-loop-left l = l.left
