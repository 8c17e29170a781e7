-- The string of a number, by its spelling (request 8): which spellings are meant, the value of one, the decimal digits of a value.
use Rattle.std.specs.Prelude.{ℕ, zero, suc, ◌+◌, ◌-◌, ◌*◌, ◌/◌, ◌%◌, Bool, true, false, cond, ◌&&◌, List, [], ◌∷◌, ◌++◌, eqb, ltb}
use Rattle.std.proofs.Math.Option.{Option, none, some}

-- ---- digits, `0` to `9`, `A` to `F`, `a` to `f`

-- the value of a digit; of a byte that is none, 16
unfoldable pub digit_of : ℕ → ℕ
digit_of b =
    cond (ltb b 48) 16 (cond (ltb b 58) (b - 48)
    (cond (ltb b 65) 16 (cond (ltb b 71) (b - 55)
    (cond (ltb b 97) 16 (cond (ltb b 103) (b - 87) 16)))))

-- whether all bytes are digits of the base, 10 or 16
unfoldable pub are_digits : ℕ → List ℕ → Bool
are_digits base [] = true
are_digits base (b ∷ bs) = ltb (digit_of b) base && are_digits base bs

-- the value of digits, behind others that have the value v
unfoldable pub value_from : ℕ → ℕ → List ℕ → ℕ
value_from base v [] = v
value_from base v (b ∷ bs) = value_from base (v * base + digit_of b) bs

-- ---- spellings: 'decimal digits without a leading zero, or `0`, or `0x` and hexadecimal digits'

pub data Spelling : Type 0 where
  decimal hexadecimal : List ℕ → Spelling  -- the digits
  another : Spelling

-- of one byte
unfoldable pub spelling_of_one : ℕ → Spelling
spelling_of_one b = cond (are_digits 10 (b ∷ [])) (decimal (b ∷ [])) another

-- behind a `0`: a small `x` and at least one digit
unfoldable pub spelling_behind_zero : List ℕ → Spelling
spelling_behind_zero [] = another
spelling_behind_zero (x ∷ []) = another
spelling_behind_zero (x ∷ b ∷ bs) = cond (eqb x 120 && are_digits 16 (b ∷ bs)) (hexadecimal (b ∷ bs)) another

unfoldable pub spelling_of : List ℕ → Spelling
spelling_of [] = another
spelling_of (b ∷ []) = spelling_of_one b
spelling_of (b ∷ c ∷ bs) =
    cond (eqb b 48) (spelling_behind_zero (c ∷ bs))
    (cond (are_digits 10 (b ∷ c ∷ bs)) (decimal (b ∷ c ∷ bs)) another)

-- ---- strings

-- the digits of n / 10, then that of n % 10. The number is how many there may be; there is always one that is enough
unfoldable pub digits_up_to : ℕ → ℕ → List ℕ
digits_up_to zero n = []
digits_up_to (suc most) n = elim (ltb n 10) [ true ↦ (48 + n) ∷ [] | false ↦ digits_up_to most (n / 10) ++ ((48 + n % 10) ∷ []) ]

unfoldable pub digits_of : ℕ → List ℕ
digits_of n = digits_up_to (suc n) n

-- 'up to 9,007,199,254,740,991'
abbrev pub highest_number : ℕ
highest_number = 9007199254740991

unfoldable pub string_of : ℕ → Option (List ℕ)
string_of v = cond (ltb highest_number v) none (some (digits_of v))

-- the string that is promised for a spelling, if one is
unfoldable pub number_string : List ℕ → Option (List ℕ)
number_string bs = elim (spelling_of bs) [ decimal ds ↦ string_of (value_from 10 0 ds) | hexadecimal ds ↦ string_of (value_from 16 0 ds) | another ↦ none ]
