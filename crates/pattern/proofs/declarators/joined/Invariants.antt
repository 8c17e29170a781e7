use Prim.Native.Nat.{◌-◌}
use Rattle.std.specs.List.{FoldsTo}
use Rattle.pattern.specs.Declarators.{starts, starts_in}
use Rattle.pattern.proofs.declarators.joined.Given as goal

-- what the calls that are left make of t, all of them make of what there was before the first
abbrev pub invariant-loop : goal.invariant-loop
invariant-loop g l =
    goal.F-IsAlwaysCallable g l.join
    × ((u : _) → FoldsTo (λ t p v. goal.F-post g l.join t l.below p v) l.t (starts l.tree l.below l.run.holes (l.run.count - l.counter) l.p) u
    → FoldsTo (λ t p v. goal.F-post g l.join t l.below p v) l.fn.none (starts_in l.fn.tree l.fn.left l.fn.at) u)
