-- Functions that call each other: what is asked of a member at the measure t, and of a member that it calls, whose measure is below t.
-- Assumes nothing.
use Prim.Native.Nat.{ℕ, ◌<◌}
use mathlib.Core.List.{List}
use borrow.Fn.Kind.{ParamKind}
use borrow.Fn.Kinds.{In}
use borrow.Fn.PlainCycle.{Measures, is, falls, and}

abbrev pub at_measure : {n : ℕ} (ps : List (ParamKind n)) → Measures n ps ℕ → In n ps → ℕ → In n ps
at_measure {n} ps μ P t = and n ps (is n ps μ t) P

abbrev pub below_measure : {n : ℕ} (ps : List (ParamKind n)) → Measures n ps ℕ → In n ps → ℕ → In n ps
below_measure {n} ps μ P t = and n ps (falls n ps ◌<◌ μ t) P
