-- How many turns a loop has left, as a loop that counts upwards has it: at the start, and after one more turn.
-- Assumes nothing.
use mathlib.Core.Path.{◌≡◌}
use Prim.Native.Nat.{ℕ, ◌+◌, ◌-◌}
use native.Mathlib.Omega.{arith}

pub none_gone : (n : ℕ) → n - 0 ≡ n
none_gone n = omega arith

pub one_gone : (n k : ℕ) → n - (k + 1) ≡ n - k - 1
one_gone n k = omega arith
