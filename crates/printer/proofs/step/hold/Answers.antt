use mathlib.Core.Path.{◌≡◌}
use Prim.Native.Nat.{◌%◌}
use native.Mathlib.Omega.{arith}
use Rattle.printer.proofs.StepTurns as law
use Rattle.printer.proofs.step.hold.Goals as goal

pub returns-then-count-starts : goal.returns-then-count-starts
returns-then-count-starts c = λ h g t. let e : c.args.start % 65536 ≡ c.args.start = omega arith in rw e (law.one_held t _ _ _ g)

pub returns : goal.returns
returns c = λ h g t. absurd (omega (arith, g, c.if-count-starts.false))
