-- A table of the temporaries that were met, by their numbers.
use Rattle.std.specs.Prelude.{ℕ, ◌+◌, ◌<◌, ◌≤◌, ◌≡◌, List, cond, eqb, length, get_or, set}
use Rattle.equal.specs.Met.{place_in}
use Rattle.ordering.specs.declared.place.Placed.{Placed}

-- it has the place of each number that was met, 0 at the others
pub record Knows (table numbers : List ℕ) : Type 0 where
  pub size : 65536 ≤ length table
  pub at : (x : ℕ) → x < 65536 → get_or table x 0 ≡ place_in numbers x

-- a number gets its place: the one that the table has, or the next
pub record PlacedAs (table later : List ℕ) (met n : ℕ) (r : Placed) : Type 0 where
  pub place : r.place ≡ cond (eqb (get_or table n 0) 0) (met + 1) (get_or table n 0)
  pub count : r.met ≡ cond (eqb (get_or table n 0) 0) (met + 1) met
  pub noted : later ≡ cond (eqb (get_or table n 0) 0) (set table n (met + 1)) table
