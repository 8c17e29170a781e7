use Prim.Native.Nat.{◌-◌}
use Rattle.tree.specs.Read.{wide_at}
use Rattle.joining.proofs.BytesWritten as law
use Rattle.joining.proofs.write.Source.vars.Given as goal

abbrev pub invariant-loop : goal.invariant-loop
invariant-loop l = law.Telling l.self.list.now l.self.ends.now l.self.seen.now l.mark l.initial.out l.initial.to.at (wide_at l.self.list.now 0) l.initial.to.mark l.out l.to.at l.to.mark l.at (l.end - l.counter)
