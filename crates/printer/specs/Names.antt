-- Which bytes may stand in a name, and how a text stands in quotes.
use Rattle.std.specs.Prelude.{ℕ, zero, suc, ◌+◌, ◌*◌, ◌/◌, ◌%◌, ◌^◌, List, [], ◌∷◌, ◌++◌, Bool, true, false, cond, ◌||◌, ◌&&◌, ltb, leb, eqb, get_or}

-- ASCII letters, `$` and `_`
unfoldable pub may_begin : ℕ → Bool
may_begin b = (leb 65 b && leb b 90) || ((leb 97 b && leb b 122) || (eqb b 36 || eqb b 95))

-- and digits
unfoldable pub may_follow : ℕ → Bool
may_follow b = may_begin b || (leb 48 b && leb b 57)

unfoldable pub all_follow : List ℕ → Bool
all_follow [] = true
all_follow (b ∷ bs) = cond (may_follow b) (all_follow bs) false

-- the table of 256 entries, two bits each: bit 2 (b mod 4) of byte b div 4 for the first place, the bit above it for later ones
unfoldable pub name_bytes : List ℕ
name_bytes =
    0 ∷ 0 ∷ 0 ∷ 0 ∷ 0 ∷ 0 ∷ 0 ∷ 0 ∷ 0 ∷ 3 ∷ 0 ∷ 0 ∷ 170 ∷ 170 ∷ 10 ∷ 0 ∷
    252 ∷ 255 ∷ 255 ∷ 255 ∷ 255 ∷ 255 ∷ 63 ∷ 192 ∷ 252 ∷ 255 ∷ 255 ∷ 255 ∷ 255 ∷ 255 ∷ 63 ∷ 0 ∷
    0 ∷ 0 ∷ 0 ∷ 0 ∷ 0 ∷ 0 ∷ 0 ∷ 0 ∷ 0 ∷ 0 ∷ 0 ∷ 0 ∷ 0 ∷ 0 ∷ 0 ∷ 0 ∷
    0 ∷ 0 ∷ 0 ∷ 0 ∷ 0 ∷ 0 ∷ 0 ∷ 0 ∷ 0 ∷ 0 ∷ 0 ∷ 0 ∷ 0 ∷ 0 ∷ 0 ∷ 0 ∷ []

unfoldable pub entry_in_of : List ℕ → ℕ → ℕ
entry_in_of table b = get_or table (b / 4) 0 / 2 ^ (2 * (b % 4)) % 4

-- the bits of a byte by the rule, and the table by it
unfoldable pub bits_of : ℕ → ℕ
bits_of b = cond (may_begin b) 3 (cond (may_follow b) 2 0)

-- the same rule, as the generator tests it
unfoldable pub rule_bits : ℕ → ℕ
rule_bits b =
    cond (ltb 64 b) (cond (ltb b 91) 3 (cond (eqb b 95) 3 (cond (ltb 96 b) (cond (ltb b 123) 3 0) 0)))
    (cond (eqb b 36) 3 (cond (ltb 47 b) (cond (ltb b 58) 2 0) 0))

unfoldable pub table_byte : ℕ → ℕ
table_byte i = bits_of (4 * i) + (4 * bits_of (4 * i + 1) + (16 * bits_of (4 * i + 2) + 64 * bits_of (4 * i + 3)))

-- n bytes of it, from byte i on
unfoldable pub table_from : ℕ → ℕ → List ℕ
table_from zero i = []
table_from (suc n) i = table_byte i ∷ table_from n (suc i)

-- a name that is left bare: it has a byte, and every byte may stand where it does
unfoldable pub bare : List ℕ → Bool
bare [] = false
bare (b ∷ bs) = cond (may_begin b) (all_follow bs) false

-- a hexadecimal digit, lower case
unfoldable pub hex_digit : ℕ → ℕ
hex_digit d = cond (ltb d 10) (48 + d) (87 + d)

-- `"`, `\` and bytes below 32 are written as `\x` and two digits
unfoldable pub needs_escape : ℕ → Bool
needs_escape b = ltb b 32 || (eqb b 34 || eqb b 92)

unfoldable pub escaped_byte : ℕ → List ℕ
escaped_byte b = cond (needs_escape b) (92 ∷ 120 ∷ hex_digit (b / 16) ∷ hex_digit (b % 16) ∷ []) (b ∷ [])

unfoldable pub escaped : List ℕ → List ℕ
escaped [] = []
escaped (b ∷ bs) = escaped_byte b ++ escaped bs

-- in double quotes
unfoldable pub in_quotes : List ℕ → List ℕ
in_quotes bs = 34 ∷ (escaped bs ++ (34 ∷ []))

-- ---- decimal

unfoldable pub decimal_from : ℕ → ℕ → List ℕ
decimal_from zero n = []
decimal_from (suc f) n = elim (ltb n 10) [ true ↦ (48 + n) ∷ [] | false ↦ decimal_from f (n / 10) ++ ((48 + n % 10) ∷ []) ]

unfoldable pub decimal : ℕ → List ℕ
decimal n = decimal_from (suc n) n
