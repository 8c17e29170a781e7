use mathlib.Core.Path.{sym, ap, ◌∙◌}
use native.Mathlib.Omega.{arith}
use Rattle.std.specs.Prelude.{option_map}
use Rattle.pattern.specs.declared.numbers.Spelling.TheVariants.{Decimal, Hexadecimal}
use Rattle.pattern.proofs.NumberCases as law
use Rattle.pattern.proofs.numbers.spelled.Goals as goal
use Rattle.pattern.proofs.numbers.spelled.Goals.{else-n-gt1-via-else-n-gt1, else-n-gt1-via-then-n-gt1+else-peek-eq48, else-n-gt2-via-else-n-gt2, else-n-gt2-via-then-n-gt2+else-peek-eq120}

pub returns-then-n-eq0 : goal.returns-then-n-eq0
returns-then-n-eq0 c = law.spelled_empty _ c.if-n-eq0.true

pub returns-in_err-hexadecimal : goal.returns-in_err-hexadecimal
returns-in_err-hexadecimal c = law.spelled_hexadecimal _ _ _ _ _ c.if-n-gt2.true c.peek.ensures c.if-peek-eq48.true c.peek-then-n-gt2.ensures c.if-peek-eq120.true c.value.ensures.value (law.hexadecimal_read _ _ c.value.ensures.low (c.from_residual.ensures ∙ ap (option_map Hexadecimal) (sym c.in_err-hexadecimal.was)))

pub returns-then-peek-eq120 : goal.returns-then-peek-eq120
returns-then-peek-eq120 c = law.spelled_hexadecimal _ _ _ _ _ c.if-n-gt2.true c.peek.ensures c.if-peek-eq48.true c.peek-then-n-gt2.ensures c.if-peek-eq120.true c.value.ensures.value (law.hexadecimal_read _ _ c.value.ensures.low (ap (option_map Hexadecimal) (sym c.in_ok-hexadecimal.was)))

pub returns-then-peek-eq48 : goal.returns-then-peek-eq48
returns-then-peek-eq48 c = (elim c.else-n-gt2.branch [ else-n-gt2-via-then-n-gt2+else-peek-eq120 w ↦ law.spelled_no_x _ _ _ w.if-n-gt2.true c.peek.ensures c.if-peek-eq48.true w.peek-then-n-gt2.ensures w.if-peek-eq120.false | else-n-gt2-via-else-n-gt2 w ↦ let h = w.if-n-gt2.false in let g = c.if-n-gt1.true in law.spelled_no_digit c.args.text.now _ (omega arith) c.peek.ensures c.if-peek-eq48.true ])

pub returns-in_err-decimal : goal.returns-in_err-decimal
returns-in_err-decimal c = (elim c.else-n-gt1.branch [ else-n-gt1-via-then-n-gt1+else-peek-eq48 w ↦ law.spelled_decimal _ _ _ _ w.if-n-gt1.true w.peek.ensures w.if-peek-eq48.false c.value-2.ensures.value (law.decimal_read _ _ c.value-2.ensures.low (c.from_residual-in_err-decimal.ensures ∙ ap (option_map Decimal) (sym c.in_err-decimal.was))) | else-n-gt1-via-else-n-gt1 w ↦ let h = w.if-n-gt1.false in let g = c.if-n-eq0.false in law.spelled_one c.args.text.now _ _ (omega arith) c.value-2.ensures.value (law.decimal_read _ _ c.value-2.ensures.low (c.from_residual-in_err-decimal.ensures ∙ ap (option_map Decimal) (sym c.in_err-decimal.was))) ])

pub returns : goal.returns
returns c = (elim c.else-n-gt1.branch [ else-n-gt1-via-then-n-gt1+else-peek-eq48 w ↦ law.spelled_decimal _ _ _ _ w.if-n-gt1.true w.peek.ensures w.if-peek-eq48.false c.value-2.ensures.value (law.decimal_read _ _ c.value-2.ensures.low (ap (option_map Decimal) (sym c.in_ok-decimal.was))) | else-n-gt1-via-else-n-gt1 w ↦ let h = w.if-n-gt1.false in let g = c.if-n-eq0.false in law.spelled_one c.args.text.now _ _ (omega arith) c.value-2.ensures.value (law.decimal_read _ _ c.value-2.ensures.low (ap (option_map Decimal) (sym c.in_ok-decimal.was))) ])
