use Prim.Native.Nat.{◌-◌}
use Rattle.joining.specs.Settle.{settles}
use Rattle.tree.specs.Read.{wide_at}
use mathlib.Core.Path.{◌≡◌}
use Rattle.joining.proofs.settle.settle.Given as goal

abbrev pub invariant-loop : goal.invariant-loop
invariant-loop l = settles l.tree l.list l.filed.earlier.now l.filed.holds.now l.filed.before.now l.filed.latest l.ends (l.end - l.counter) l.at l.more l.held ≡ settles l.tree l.list l.filed.earlier.now l.filed.holds.now l.filed.before.now l.filed.latest l.ends (wide_at l.list 0) 2 l.initial.more l.initial.held
