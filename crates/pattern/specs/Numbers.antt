-- What a text is as a number, with the value of a number that is promised a string.
use Rattle.std.specs.Prelude.{ℕ, suc, Bool, false, cond, not, ◌&&◌, List, eqb, ltb, Option, Some, None}
use Rattle.lowering.specs.Numbers as numbers
use Rattle.lowering.specs.Numbers.{are_digits, value_from, spelling_of, highest_number}
use Rattle.pattern.specs.declared.numbers.Spelling.{Spelling}
use Rattle.pattern.specs.declared.numbers.Spelling.TheVariants.{Decimal, Hexadecimal}

-- decimal or hexadecimal, with the value; or another spelling, or a value for which no string is promised
pub data Numeral : Type 0 where
  decimal : ℕ → Numeral
  hexadecimal : ℕ → Numeral
  another : Numeral

-- the value of each case of the code's answer. Document 01 has no number for it: nothing is refused
abbrev pub spelling_value : Option Spelling → Numeral
spelling_value None = another
spelling_value (Some (Decimal v)) = decimal v
spelling_value (Some (Hexadecimal v)) = hexadecimal v

abbrev pub base_of : Bool → ℕ
base_of isHexadecimal = cond isHexadecimal 16 10

-- the value of digits behind others that have the value v; one above the highest if one is no digit or the value is higher
unfoldable pub value_in : ℕ → ℕ → List ℕ → ℕ
value_in base v ds = cond (are_digits base ds && not (ltb highest_number (value_from base v ds))) (value_from base v ds) (suc highest_number)

-- a number by its value, if that is not too high
unfoldable pub decimal_in : ℕ → Numeral
decimal_in v = cond (ltb highest_number v) another (decimal v)

unfoldable pub hexadecimal_in : ℕ → Numeral
hexadecimal_in v = cond (ltb highest_number v) another (hexadecimal v)

unfoldable pub spelled_as_of : List ℕ → Numeral
spelled_as_of bs =
    elim (spelling_of bs) [
      | numbers.Spelling.decimal ds ↦ decimal_in (value_from 10 0 ds)
      | numbers.Spelling.hexadecimal ds ↦ hexadecimal_in (value_from 16 0 ds)
      | numbers.Spelling.another ↦ another
    ]

-- whether that is the string of the value v
abbrev pub is_string_of : ℕ → Numeral → Bool
is_string_of v (decimal u) = eqb u v
is_string_of v (hexadecimal u) = false
is_string_of v another = false
