use Rattle.pattern.proofs.NumberCases as law
use Rattle.pattern.proofs.numbers.value.Given as goal

abbrev pub invariant-loop-b : goal.invariant-loop-b
invariant-loop-b l = law.Reading l.hexadecimal l.digits l.base l.v l.b-index
