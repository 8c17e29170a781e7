-- Less, equal or greater: the number and the word of each, and how texts are compared.
use Rattle.std.specs.Prelude.{ℕ, ℤ, pos, negsuc, List, [], ◌∷◌}
use Rattle.std.specs.declared.cmp.Ordering.{Ordering}
use Rattle.std.specs.declared.cmp.Ordering.TheVariants.{Less, Equal, Greater}
use Rattle.std.specs.Ordering.{nat_cmp}
use Rattle.std.specs.Cmp.Lexicographic.{slice_cmp}
-- the first, unless it is equal; the other way round; numbers by their value; item by item, a list before one that it begins
pub use Rattle.std.specs.Ordering.{ordering_then as or_else, ordering_reverse as turn, nat_cmp as by_value, is_eq as is_equal}
pub use Rattle.std.specs.Cmp.Lexicographic.{slice_cmp as lexical}

abbrev pub by_text : List ℕ → List ℕ → Ordering
by_text bs cs = slice_cmp nat_cmp bs cs

-- its number, as the entry answers it: -1, 0 or 1
abbrev pub number_of : Ordering → ℤ
number_of Less = negsuc 0
number_of Equal = pos 0
number_of Greater = pos 1

-- its word in ASCII, as the program prints it
abbrev pub word_of : Ordering → List ℕ
word_of Less = 108 ∷ 101 ∷ 115 ∷ 115 ∷ []  -- less
word_of Equal = 101 ∷ 113 ∷ 117 ∷ 97 ∷ 108 ∷ []  -- equal
word_of Greater = 103 ∷ 114 ∷ 101 ∷ 97 ∷ 116 ∷ 101 ∷ 114 ∷ []  -- greater
