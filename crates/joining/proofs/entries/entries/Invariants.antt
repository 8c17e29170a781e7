use Prim.Native.Nat.{◌-◌}
use Rattle.joining.proofs.Listing as law
use Rattle.joining.proofs.entries.entries.Given as goal

abbrev pub invariant-loop : goal.invariant-loop
invariant-loop l = law.Listing l.list l.initial.frames l.initial.seen l.initial.ends l.frames l.seen l.ends (l.n - l.counter) l.at
