use Prim.Native.Nat.{◌-◌}
use mathlib.Core.Path.{◌≡◌}
use Rattle.pattern.proofs.Fields as law
use Rattle.tree.specs.Rows.{fields_in_of}
use Rattle.tree.specs.Look.{look_node}
use Rattle.lowering.specs.Parts.{stands}
use Rattle.pattern.proofs.parts.stands.Given as goal

abbrev pub invariant-loop : goal.invariant-loop
invariant-loop l = law.stands_by l.tree (fields_in_of l.r) l.m (l.i - l.counter) ≡ stands l.i (look_node l.tree l.left l.at).value
