use mathlib.Core.Path.{◌≡◌, ◌∙◌}
use Prim.Native.Nat.{◌+◌, ◌-◌}
use native.Mathlib.Omega.{arith}
use Rattle.pattern.proofs.NumberCases as law
use Rattle.pattern.proofs.numbers.digit.Goals as goal

pub returns-in-48-to-57 : goal.returns-in-48-to-57
returns-in-48-to-57 c = c.from.ensures ∙ law.digit_decimal c.args.b (omega arith) (omega arith)

pub returns-in-65-to-70 : goal.returns-in-65-to-70
returns-in-65-to-70 c = let e : c.args.b - 65 + 10 ≡ c.args.b - 55 = omega arith in c.from-in-65-to-70.ensures ∙ e ∙ law.digit_capital c.args.b (omega arith) (omega arith)

pub returns-in-97-to-102 : goal.returns-in-97-to-102
returns-in-97-to-102 c = let e : c.args.b - 97 + 10 ≡ c.args.b - 87 = omega arith in c.from-in-97-to-102.ensures ∙ e ∙ law.digit_small c.args.b (omega arith) (omega arith)

pub returns-in_default : goal.returns-in_default
returns-in_default c = law.digit_below c.args.b (omega arith)

pub returns-in_default-2 : goal.returns-in_default-2
returns-in_default-2 c = law.digit_between c.args.b (omega arith) (omega arith)

pub returns-in_default-3 : goal.returns-in_default-3
returns-in_default-3 c = law.digit_behind c.args.b (omega arith) (omega arith)

pub returns-in_default-4 : goal.returns-in_default-4
returns-in_default-4 c = law.digit_above c.args.b (omega arith)
