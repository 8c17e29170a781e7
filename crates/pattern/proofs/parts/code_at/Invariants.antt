use Prim.Native.Nat.{◌-◌}
use mathlib.Core.Path.{◌≡◌}
use Rattle.tree.specs.Rows.{fields_in_of}
use Rattle.pattern.specs.Parts.{sort_at}
use Rattle.pattern.proofs.parts.code_at.Given as goal

abbrev pub invariant-loop : goal.invariant-loop
invariant-loop l = sort_at (fields_in_of l.r) (l.i - l.counter) ≡ sort_at (fields_in_of l.row) l.i
