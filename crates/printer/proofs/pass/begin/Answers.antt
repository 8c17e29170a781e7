use mathlib.Core.Path.{ap}
use Prim.Native.Nat.{ℕ}
use Rattle.printer.proofs.pass.begin.Goals as goal

pub returns : goal.returns
returns c = ap (λ (z : ℕ). record { top = z; level = 0; count = 0; spot = 0 }) c.begun.ensures
