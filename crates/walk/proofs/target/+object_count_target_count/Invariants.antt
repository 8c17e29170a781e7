use Rattle.walk.specs.Turns.{reach_of}
use Rattle.walk.proofs.TargetCounts as law
use Prim.Native.Nat.{◌+◌, ◌*◌, ◌-◌}
use Rattle.walk.proofs.target.+object_count_target_count.Given as goal

abbrev pub invariant-object_count-loop : goal.invariant-object_count-loop
invariant-object_count-loop l = law.ValuesLeft l.t (reach_of l.reach) l.left l.at l.below (l.end - l.counter) l.p l.k

abbrev pub invariant-target_count-loop : goal.invariant-target_count-loop
invariant-target_count-loop l = law.ItemsLeft l.t l.left l.at l.below (l.end - l.counter) l.p l.k

abbrev pub decreases-object_count : goal.decreases-object_count
decreases-object_count l = 2 * l.left

abbrev pub decreases-target_count : goal.decreases-target_count
decreases-target_count l = 2 * l.left + 1
