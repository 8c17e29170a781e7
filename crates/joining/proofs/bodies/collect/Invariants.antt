use Prim.Native.Nat.{◌+◌, ◌-◌}
use lib.ListN.{length}
use Rattle.joining.proofs.TablesFilled as law
use Rattle.joining.proofs.bodies.collect.Given as goal

abbrev pub invariant-loop-bodies : goal.invariant-loop-bodies
invariant-loop-bodies l = law.Touring l.tree l.initial.frames l.initial.seen l.initial.around l.initial.earlier l.initial.holds l.initial.before l.frames l.seen l.around l.earlier l.holds l.before l.cursor l.bodies.latest l.bodies.begun

abbrev pub decreases-loop-bodies : goal.decreases-loop-bodies
decreases-loop-bodies l = (length l.tree - l.cursor.at) + l.cursor.deep
