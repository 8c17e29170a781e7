use mathlib.Core.Path.{◌≡◌}
use Rattle.counting.specs.Figures.{choose}
use Rattle.counting.proofs.ways.Given as goal

abbrev pub invariant-loop-j : goal.invariant-loop-j
invariant-loop-j l = l.ways ≡ choose l.m l.j
