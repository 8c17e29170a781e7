use mathlib.Core.Path.{◌≡◌}
use mathlib.Core.Bool.{true}
use Rattle.joining.specs.Writing.{Calm}
use Rattle.joining.proofs.write.calm.Given as goal

abbrev pub invariant-loop-i : goal.invariant-loop-i
invariant-loop-i l = l.still ≡ true → Calm l.table l.start l.i
