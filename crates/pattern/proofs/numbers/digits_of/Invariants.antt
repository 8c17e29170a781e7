use Rattle.pattern.proofs.NumberCases as law
use Rattle.pattern.proofs.numbers.digits_of.Given as goal

abbrev pub invariant-loop-n : goal.invariant-loop-n
invariant-loop-n l = law.Writing l.bytes l.v l.n l.i

abbrev pub decreases-loop-n : goal.decreases-loop-n
decreases-loop-n l = l.n
