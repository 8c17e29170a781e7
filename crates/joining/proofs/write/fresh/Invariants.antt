use Prim.Native.Nat.{◌-◌}
use mathlib.Core.Path.{◌≡◌}
use Rattle.joining.specs.Writing.{free_from, free_after}
use Rattle.joining.proofs.write.fresh.Given as goal

abbrev pub invariant-loop-m : goal.invariant-loop-m
invariant-loop-m l = free_from l.seen (65535 - l.m) l.m ≡ free_after l.seen l.mark
