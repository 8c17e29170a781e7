use mathlib.Core.Path.{◌≡◌}
use Rattle.joining.proofs.BytesWritten as law
use lib.ListN.{length}
use Prim.Native.Nat.{◌-◌, ◌≤◌}
use Rattle.joining.proofs.write.Source.rest.Given as goal

abbrev pub invariant-loop-p : goal.invariant-loop-p
invariant-loop-p l = (length l.self.tree.now ≤ 32768 → law.Passing l.self.tree.now l.self.list.now l.self.ends.now l.self.seen.now l.self.more.now l.self.held.now l.initial.out l.initial.to.at l.initial.to.mark l.out l.to.at l.to.mark l.skip l.p) × (length l.out ≡ length l.initial.out)

abbrev pub decreases-loop-p : goal.decreases-loop-p
decreases-loop-p l = length l.self.tree.now - l.p
