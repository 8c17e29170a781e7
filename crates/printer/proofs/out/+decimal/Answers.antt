use Rattle.printer.proofs.PiecesWritten as law
use Rattle.printer.specs.Stacks.{Buffer, put}
use mathlib.Core.Path.{ap, ◌∙◌}
use native.Mathlib.Omega.{arith}
use Prim.Native.Nat.{◌+◌, ◌%◌}
use Rattle.printer.proofs.out.+decimal.Goals as goal

pub overflow_add-n : goal.overflow_add-n
overflow_add-n t c = omega arith

pub overflow_cast-n : goal.overflow_cast-n
overflow_cast-n t c = omega arith

pub returns-then-n-lt10 : goal.returns-then-n-lt10
returns-then-n-lt10 t c = c.put.ensures ∙ law.decimal_digit _ _ c.if-n-lt10.true

pub returns : goal.returns
returns t c = c.put-2.ensures ∙ ap (λ (b : Buffer). put b (48 + c.args.n % 10)) c.decimal-s.ensures ∙ law.decimal_more _ _ c.if-n-lt10.false
