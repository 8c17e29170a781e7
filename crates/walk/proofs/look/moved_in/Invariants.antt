use Prim.Native.Nat.{◌-◌}
use Rattle.walk.proofs.Lookups as law
use Rattle.walk.proofs.look.moved_in.Given as goal

abbrev pub invariant-loop : goal.invariant-loop
invariant-loop l = law.MovedLeft l.t l.left l.count l.first (l.count - l.counter) l.p l.k
