use Rattle.printer.proofs.Named as law
use mathlib.Core.Path.{◌∙◌}
use native.Mathlib.Omega.{arith}
use Rattle.printer.proofs.names.make.Goals as goal

pub returns : goal.returns
returns c = λ h. law.same_table _ (c.loop-i.auto.table ∙ h) (λ k g. c.loop-i.invariant h k (omega (arith, g, h, c.loop-i-test.false)))
