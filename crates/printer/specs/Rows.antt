-- The layout as numbers, which the code has in place of lists.
use Rattle.std.specs.Prelude.{ℕ, ◌+◌, ◌*◌, ◌/◌, ◌%◌, ◌≡◌, List, [], ◌∷◌, eqb, take, drop}
use Rattle.printer.specs.Layout.{word, head_of, lead_of, manner_of}
use Rattle.printer.specs.Places.{is_statement, is_wrapped}

-- numbers of a list, so many to a digit, the first lowest
unfoldable pub packed : ℕ → List ℕ → ℕ
packed base [] = 0
packed base (x ∷ xs) = x + base * packed base xs

-- a word's bytes, eight to a number
unfoldable pub low_of : ℕ → ℕ
low_of i = packed 256 (take 8 (word i))

unfoldable pub middle_of : ℕ → ℕ
middle_of i = packed 256 (take 8 (drop 8 (word i)))

unfoldable pub high_of : ℕ → ℕ
high_of i = packed 256 (drop 16 (word i))

-- r is the entry of a kind: its head, and which sort of node it is
pub record Sorted (kind note r : ℕ) : Type 0 where
  pub head : r % 128 ≡ head_of kind
  pub statement : eqb (r / 2097152 % 2) 1 ≡ is_statement kind note
  pub wrapped : eqb (r / 4194304 % 2) 1 ≡ is_wrapped kind note

-- r is the entry of a field: what leads it, and its manner
pub record Slotted (kind field r : ℕ) : Type 0 where
  pub lead : r % 128 ≡ lead_of kind field
  pub manner : r / 128 ≡ manner_of kind field

-- ---- the tables that are lent

-- of each kind: head, tail and end of the list, seven binary digits each; a statement; in parentheses. A Function again from 64 on,
-- by its byte
unfoldable pub sort_numbers : List ℕ
sort_numbers =
    0 ∷ 0 ∷ 0x202145 ∷ 0x201080 ∷ 0x203864 ∷ 0 ∷ 0x200004 ∷ 0x200004
    ∷ 0x200065 ∷ 0x20004f ∷ 0 ∷ 0x2010d2 ∷ 0x202c80 ∷ 0x201080 ∷ 0x1cb8ef ∷ 0
    ∷ 0x2145 ∷ 0x5cc040 ∷ 0 ∷ 0 ∷ 0x66 ∷ 0x67 ∷ 0 ∷ 0x4025cb
    ∷ 0x402141 ∷ 0x74 ∷ 0x19 ∷ 0x400000 ∷ 0x400000 ∷ 0x400a80 ∷ 0x400000 ∷ 0x400ac0
    ∷ 0x5d9e43 ∷ 0x400a80 ∷ 0x2141 ∷ 0 ∷ 0x1dde43 ∷ 0 ∷ 0 ∷ 0x4c
    ∷ 0x402153 ∷ 0x3875 ∷ 0x2156 ∷ 0x202157 ∷ 0 ∷ 0 ∷ 0 ∷ 0
    ∷ 0 ∷ 0 ∷ 0 ∷ 0 ∷ 0 ∷ 0 ∷ 0 ∷ 0
    ∷ 0 ∷ 0 ∷ 0 ∷ 0 ∷ 0 ∷ 0 ∷ 0 ∷ 0
    ∷ 0x1cb8ef ∷ 0x3cb8ef ∷ 0x5cb8ef ∷ 0x1cb8ef
    ∷ []

-- of each field, eight to a kind: what leads it, seven binary digits, and its manner
unfoldable pub slot_numbers : List ℕ
slot_numbers =
    0 ∷ 0 ∷ 0 ∷ 0 ∷ 0 ∷ 0 ∷ 0 ∷ 0
    ∷ 0x80 ∷ 0 ∷ 0 ∷ 0 ∷ 0 ∷ 0 ∷ 0 ∷ 0
    ∷ 0 ∷ 0x80 ∷ 0 ∷ 0 ∷ 0 ∷ 0 ∷ 0 ∷ 0
    ∷ 0 ∷ 0 ∷ 0 ∷ 0 ∷ 0 ∷ 0 ∷ 0 ∷ 0
    ∷ 0 ∷ 0 ∷ 0x580 ∷ 0 ∷ 0 ∷ 0 ∷ 0 ∷ 0
    ∷ 0 ∷ 0xf ∷ 0 ∷ 0 ∷ 0 ∷ 0 ∷ 0 ∷ 0
    ∷ 0 ∷ 0x480 ∷ 0x12 ∷ 0x69 ∷ 0x46a ∷ 0 ∷ 0 ∷ 0
    ∷ 0 ∷ 0x480 ∷ 0x4d ∷ 0x415 ∷ 0 ∷ 0 ∷ 0 ∷ 0
    ∷ 0 ∷ 0x480 ∷ 0x4e ∷ 0x415 ∷ 0 ∷ 0 ∷ 0 ∷ 0
    ∷ 0 ∷ 0 ∷ 0x50 ∷ 0x51 ∷ 0 ∷ 0 ∷ 0 ∷ 0
    ∷ 0x1c0 ∷ 0 ∷ 0 ∷ 0 ∷ 0 ∷ 0 ∷ 0 ∷ 0
    ∷ 0 ∷ 0x47 ∷ 0 ∷ 0 ∷ 0 ∷ 0 ∷ 0 ∷ 0
    ∷ 0 ∷ 0 ∷ 0x3c0 ∷ 0 ∷ 0 ∷ 0 ∷ 0 ∷ 0
    ∷ 0 ∷ 0 ∷ 0 ∷ 0 ∷ 0 ∷ 0 ∷ 0 ∷ 0
    ∷ 0 ∷ 0 ∷ 0x47 ∷ 0x5c0 ∷ 0x26c ∷ 0x47 ∷ 0 ∷ 0
    ∷ 0 ∷ 0xf ∷ 0 ∷ 0 ∷ 0 ∷ 0 ∷ 0 ∷ 0
    ∷ 0x100 ∷ 0x80 ∷ 0 ∷ 0 ∷ 0 ∷ 0 ∷ 0 ∷ 0
    ∷ 0x580 ∷ 0x26c ∷ 0x48 ∷ 0 ∷ 0 ∷ 0 ∷ 0 ∷ 0
    ∷ 0 ∷ 0 ∷ 0 ∷ 0 ∷ 0 ∷ 0 ∷ 0 ∷ 0
    ∷ 0 ∷ 0 ∷ 0 ∷ 0 ∷ 0 ∷ 0 ∷ 0 ∷ 0
    ∷ 0 ∷ 0 ∷ 0 ∷ 0 ∷ 0 ∷ 0 ∷ 0 ∷ 0
    ∷ 0 ∷ 0 ∷ 0 ∷ 0 ∷ 0 ∷ 0 ∷ 0 ∷ 0
    ∷ 0 ∷ 0 ∷ 0 ∷ 0 ∷ 0 ∷ 0 ∷ 0 ∷ 0
    ∷ 0x500 ∷ 0x300 ∷ 0 ∷ 0 ∷ 0 ∷ 0 ∷ 0 ∷ 0
    ∷ 0x580 ∷ 0 ∷ 0 ∷ 0 ∷ 0 ∷ 0 ∷ 0 ∷ 0
    ∷ 0x280 ∷ 0x66d ∷ 0 ∷ 0 ∷ 0 ∷ 0 ∷ 0 ∷ 0
    ∷ 0 ∷ 0 ∷ 0 ∷ 0 ∷ 0 ∷ 0 ∷ 0 ∷ 0
    ∷ 0 ∷ 0 ∷ 0x68 ∷ 0 ∷ 0 ∷ 0 ∷ 0 ∷ 0
    ∷ 0x580 ∷ 0 ∷ 0 ∷ 0 ∷ 0 ∷ 0 ∷ 0 ∷ 0
    ∷ 0 ∷ 0x5c0 ∷ 0 ∷ 0 ∷ 0 ∷ 0 ∷ 0 ∷ 0
    ∷ 0 ∷ 0 ∷ 0 ∷ 0 ∷ 0 ∷ 0 ∷ 0 ∷ 0
    ∷ 0 ∷ 0 ∷ 0 ∷ 0 ∷ 0 ∷ 0 ∷ 0 ∷ 0
    ∷ 0x580 ∷ 0 ∷ 0 ∷ 0 ∷ 0 ∷ 0 ∷ 0 ∷ 0
    ∷ 0 ∷ 0x3c0 ∷ 0 ∷ 0 ∷ 0 ∷ 0 ∷ 0 ∷ 0
    ∷ 0x580 ∷ 0x6c ∷ 0 ∷ 0 ∷ 0 ∷ 0 ∷ 0 ∷ 0
    ∷ 0x280 ∷ 0x1b ∷ 0 ∷ 0 ∷ 0 ∷ 0 ∷ 0 ∷ 0
    ∷ 0x580 ∷ 0x6c ∷ 0 ∷ 0 ∷ 0 ∷ 0 ∷ 0 ∷ 0
    ∷ 0 ∷ 0xf ∷ 0 ∷ 0 ∷ 0 ∷ 0 ∷ 0 ∷ 0
    ∷ 0 ∷ 0 ∷ 0 ∷ 0 ∷ 0 ∷ 0 ∷ 0 ∷ 0
    ∷ 0 ∷ 0 ∷ 0 ∷ 0 ∷ 0 ∷ 0 ∷ 0 ∷ 0
    ∷ 0x47 ∷ 0x54 ∷ 0xd5 ∷ 0 ∷ 0 ∷ 0 ∷ 0 ∷ 0
    ∷ 0x280 ∷ 0x66e ∷ 0 ∷ 0 ∷ 0 ∷ 0 ∷ 0 ∷ 0
    ∷ 0x80 ∷ 0 ∷ 0 ∷ 0 ∷ 0 ∷ 0 ∷ 0 ∷ 0
    ∷ 0 ∷ 0 ∷ 0x49 ∷ 0 ∷ 0 ∷ 0 ∷ 0 ∷ 0
    ∷ 0x58 ∷ 0xeb ∷ 0 ∷ 0 ∷ 0 ∷ 0 ∷ 0 ∷ 0
    ∷ 0 ∷ 0 ∷ 0 ∷ 0 ∷ 0 ∷ 0 ∷ 0 ∷ 0
    ∷ 0 ∷ 0 ∷ 0 ∷ 0 ∷ 0 ∷ 0 ∷ 0 ∷ 0
    ∷ 0 ∷ 0 ∷ 0 ∷ 0 ∷ 0 ∷ 0 ∷ 0 ∷ 0
    ∷ 0 ∷ 0 ∷ 0 ∷ 0 ∷ 0 ∷ 0 ∷ 0 ∷ 0
    ∷ 0 ∷ 0 ∷ 0 ∷ 0 ∷ 0 ∷ 0 ∷ 0 ∷ 0
    ∷ 0 ∷ 0 ∷ 0 ∷ 0 ∷ 0 ∷ 0 ∷ 0 ∷ 0
    ∷ 0 ∷ 0 ∷ 0 ∷ 0 ∷ 0 ∷ 0 ∷ 0 ∷ 0
    ∷ 0 ∷ 0 ∷ 0 ∷ 0 ∷ 0 ∷ 0 ∷ 0 ∷ 0
    ∷ 0 ∷ 0 ∷ 0 ∷ 0 ∷ 0 ∷ 0 ∷ 0 ∷ 0
    ∷ 0 ∷ 0 ∷ 0 ∷ 0 ∷ 0 ∷ 0 ∷ 0 ∷ 0
    ∷ 0 ∷ 0 ∷ 0 ∷ 0 ∷ 0 ∷ 0 ∷ 0 ∷ 0
    ∷ 0 ∷ 0 ∷ 0 ∷ 0 ∷ 0 ∷ 0 ∷ 0 ∷ 0
    ∷ 0 ∷ 0 ∷ 0 ∷ 0 ∷ 0 ∷ 0 ∷ 0 ∷ 0
    ∷ 0 ∷ 0 ∷ 0 ∷ 0 ∷ 0 ∷ 0 ∷ 0 ∷ 0
    ∷ 0 ∷ 0 ∷ 0 ∷ 0 ∷ 0 ∷ 0 ∷ 0 ∷ 0
    ∷ 0 ∷ 0 ∷ 0 ∷ 0 ∷ 0 ∷ 0 ∷ 0 ∷ 0
    ∷ 0 ∷ 0 ∷ 0 ∷ 0 ∷ 0 ∷ 0 ∷ 0 ∷ 0
    ∷ 0 ∷ 0 ∷ 0 ∷ 0 ∷ 0 ∷ 0 ∷ 0 ∷ 0
    ∷ 0 ∷ 0 ∷ 0 ∷ 0 ∷ 0 ∷ 0 ∷ 0 ∷ 0
    ∷ []

-- the first eight bytes of each word
unfoldable pub word_numbers : List ℕ
word_numbers =
    0 ∷ 0x20726176 ∷ 0x2074656c ∷ 0x2074736e6f63
    ∷ 0x2820726f66 ∷ 0x6961776120726f66 ∷ 0x6665725f ∷ 0x6564756c6378655f
    ∷ 0x65756c61765f ∷ 0x79656b5f ∷ 0x70537463656a624f ∷ 0x73646e65747845
    ∷ 0x65447463656a624f ∷ 0x69577463656a624f ∷ 0x7265706f72506f54 ∷ 0x203d20
    ∷ 0x203d3f20 ∷ 0x203b203b ∷ 0x203b ∷ 0x29203b203b
    ∷ 0x29203b ∷ 0x29 ∷ 0x29 ∷ 0x3a746c7561666564
    ∷ 0xa3a ∷ 0x2e2e2e ∷ 0x2e2e2e202c ∷ 0x203a
    ∷ 0 ∷ 0x203d20 ∷ 0 ∷ 0x6e6f6974636e7566
    ∷ 0 ∷ 0x3b ∷ 0 ∷ 0
    ∷ 0x3b ∷ 0 ∷ 0 ∷ 0
    ∷ 0x29 ∷ 0 ∷ 0 ∷ 0x20746567
    ∷ 0x20746573 ∷ 0x2074657320746567 ∷ 0x20636974617473 ∷ 0x6720636974617473
    ∷ 0x7320636974617473 ∷ 0x6720636974617473 ∷ 0 ∷ 0x29
    ∷ 0xa ∷ 0xa29 ∷ 0xa3b ∷ 0xa3b29
    ∷ 0x2029 ∷ 0x202929 ∷ 0x29 ∷ 0x2929
    ∷ 0x5d ∷ 0x5d29 ∷ 0x7d ∷ 0x7d29
    ∷ 0x28 ∷ 0x7b ∷ 0x7d ∷ 0x5b
    ∷ 0x2c ∷ 0xa7b ∷ 0x202c ∷ 0x20
    ∷ 0x203e3d20 ∷ 0xa7b2029 ∷ 0x7b24 ∷ 0x60
    ∷ 0x23 ∷ 0x206e6920 ∷ 0x20666f20 ∷ 0x20797274
    ∷ 0x20686374616320 ∷ 0x796c6c616e696620 ∷ 0x6e7275746572 ∷ 0x7373616c63
    ∷ 0x73646e6574786520 ∷ 0xa7b20 ∷ 0x7b20636974617473 ∷ 0x2820686374697773
    ∷ 0x2065736163 ∷ 0x3b29 ∷ 0x2e ∷ 0x225b
    ∷ 0x5d22 ∷ 0x22 ∷ 0 ∷ 0
    ∷ 0 ∷ 0 ∷ 0 ∷ 0
    ∷ 0 ∷ 0 ∷ 0 ∷ 0
    ∷ 0 ∷ 0 ∷ 0 ∷ 0
    ∷ 0 ∷ 0 ∷ 0 ∷ 0
    ∷ 0 ∷ 0 ∷ 0 ∷ 0
    ∷ 0 ∷ 0 ∷ 0 ∷ 0
    ∷ 0 ∷ 0 ∷ 0 ∷ 0
    ∷ 0 ∷ 0 ∷ 0 ∷ 0
    ∷ []
