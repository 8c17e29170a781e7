use Prim.Native.Nat.{◌<◌}
use Rattle.joining.specs.Tables.{searched}
use Rattle.joining.proofs.FallingChains as law
use Rattle.joining.proofs.search.Filed.search.Given as goal

abbrev pub invariant-loop-statement : goal.invariant-loop-statement
invariant-loop-statement l = law.Inner l.tree l.self.earlier.now l.self.holds.now l.self.before.now l.mark (searched l.tree l.self.earlier.now l.self.holds.now l.self.before.now l.mark l.self.latest) l.list l.statement × (l.statement < 65536)

abbrev pub decreases-loop-statement : goal.decreases-loop-statement
decreases-loop-statement l = l.statement

abbrev pub invariant-containers : goal.invariant-containers
invariant-containers l = law.Outer l.tree l.self.earlier.now l.self.holds.now l.self.before.now l.mark (searched l.tree l.self.earlier.now l.self.holds.now l.self.before.now l.mark l.self.latest) l.list

abbrev pub decreases-containers : goal.decreases-containers
decreases-containers l = l.list
