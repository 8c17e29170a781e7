-- A text by its position: its length, and so many bytes behind it.
-- Assumes nothing.
use mathlib.Core.Path.{◌≡◌, ap, ◌∙◌}
use Prim.Native.Nat.{ℕ, zero, suc, ◌+◌, ◌%◌, ◌<◌}
use native.Mathlib.Omega.{arith}
use native.Mathlib.Decide.{dec_lt}
use lib.ListN.{get_or, take, drop}
use mathlib.Core.List.{List}
use borrow.Author.Tests.{lt-ltb, le-ltb}
use Rattle.tree.specs.Read.{wide_at}
use Rattle.printer.specs.Stacks.{text_at_of}
use Rattle.printer.specs.Turns.{start_of}

pub text_read : (tree : List ℕ) (p q n : ℕ) → q ≡ p → n ≡ wide_at tree q → take n (drop (q + 2) tree) ≡ text_at_of tree p
unfolding text_at_of
text_read tree p q n e d = ap (λ (m : ℕ). take m (drop (q + 2) tree)) d ∙ ap (λ (r : ℕ). take (wide_at tree r) (drop (r + 2) tree)) e

-- where the next text stands
pub text_end : (tree : List ℕ) (p q n : ℕ) → q ≡ p → n ≡ wide_at tree q → q + 2 + n ≡ p + 2 + wide_at tree p
text_end tree p q n e d = let w : wide_at tree q ≡ wide_at tree p = ap (wide_at tree) e in omega (arith, w, d, e)

pub within_short : (p : ℕ) → p < 65536 → p % 65536 ≡ p
within_short p h = omega arith

pub within_long : (p : ℕ) → p < 262144 → p % 262144 ≡ p
within_long p h = omega arith

-- what short numbers hold of starts is short
pub start_short : (starts : List ℕ) (count next : ℕ) → ((i : ℕ) → get_or starts i 0 < 65536) → start_of starts count next < 65536
start_short starts count zero h = omega arith
start_short starts count (suc i) h = elim (dec_lt i count) [
  | yes g ↦ rw (lt-ltb i count g) (h i)
  | no g ↦ rw (le-ltb i count (omega arith)) (omega arith)
]
