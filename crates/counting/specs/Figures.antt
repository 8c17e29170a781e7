-- The figures of request 14: how many patterns of length n give c nested calls.
use Rattle.std.specs.Prelude.{ℕ, zero, suc, ◌+◌, ◌*◌, cond, ltb}

-- the ways to choose k of n
unfoldable pub choose : ℕ → ℕ → ℕ
choose zero zero = 1
choose zero (suc k) = 0
choose (suc n) zero = 1
choose (suc n) (suc k) = choose n k + choose n (suc k)

-- 1 for c = 0; 1 for c = 1 and n at least 1; from there on twice the ways to choose c - 1 of n - 1, none of them for c above n
unfoldable pub figure : ℕ → ℕ → ℕ
figure zero zero = 1
figure zero (suc c) = 0
figure (suc n) zero = 1
figure (suc n) (suc zero) = 1
figure (suc n) (suc (suc c)) = 2 * choose n (suc c)

-- f 0 + .. + f (n - 1)
unfoldable pub total : (ℕ → ℕ) → ℕ → ℕ
total f zero = 0
total f (suc n) = total f n + f n

-- ---- what the entry answers

-- the longest patterns that it counts
abbrev pub longest : ℕ
longest = 32

-- the number of its refusal
abbrev pub pattern_too_long : ℕ
pattern_too_long = 14

abbrev pub answer_of : ℕ → ℕ
answer_of n = cond (ltb longest n) pattern_too_long 0

unfoldable pub number_of : ℕ → ℕ → ℕ
number_of n c = cond (ltb longest n) 0 (figure n c)
