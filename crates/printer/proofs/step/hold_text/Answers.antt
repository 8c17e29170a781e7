use mathlib.Core.Path.{◌≡◌, sym, ◌∙◌}
use Prim.Native.Nat.{◌%◌}
use native.Mathlib.Omega.{arith}
use Rattle.printer.proofs.StepTurns as law
use Rattle.printer.proofs.step.hold_text.Goals as goal

pub returns-then-is_quasi : goal.returns-then-is_quasi
returns-then-is_quasi c = λ h g t. let e : c.args.p % 65535 ≡ c.args.p = omega arith in rw (sym c.is_quasi.ensures ∙ c.if-is_quasi.true, sym (law.cell_within t c.args.p), sym e) (c.hold.ensures (omega arith) g t)

pub returns : goal.returns
returns c = λ h g t. rw (sym c.is_quasi.ensures ∙ c.if-is_quasi.false) (law.none_held t _ _)
