use native.Mathlib.Omega.{arith}
use Rattle.walk.proofs.Lookups as law
use Rattle.walk.proofs.look.cell.Goals as goal

pub returns-then-at-ge16384 : goal.returns-then-at-ge16384
returns-then-at-ge16384 c = law.cell_beyond _ _ c.if-at-ge16384.true

pub returns-in-2 : goal.returns-in-2
returns-in-2 c = law.cell_one _ _ c.if-at-ge16384.false c.in-2.is

pub returns-in-3 : goal.returns-in-3
returns-in-3 c = law.cell_two _ _ c.if-at-ge16384.false c.in-3.is

pub returns-in_default : goal.returns-in_default
returns-in_default c = law.cell_here _ _ c.if-at-ge16384.false (omega arith) (omega arith)
