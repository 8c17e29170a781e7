-- Tables by byte position: chains of positions that fall, and the search along them.
use Rattle.std.specs.Prelude.{ℕ, zero, suc, ◌+◌, List, [], ◌∷◌, cond, eqb, ltb, get_or, set, Option, Some, None}
use Rattle.tree.specs.Read.{wide_at}
use Rattle.joining.specs.declared.search.Place.{Place}

-- a number of 16 bits put into a table; a greater one is not, nor past the end
unfoldable pub stored : List ℕ → ℕ → ℕ → List ℕ
stored table i n = cond (ltb n 65536) (set table i n) table

-- the entry at i, if it is a position before it; else 0
unfoldable pub backward : List ℕ → ℕ → ℕ
backward table i = cond (ltb (get_or table i 0) i) (get_or table i 0) 0

-- i, the position before it, and so on to 0, which is none; there are at most as many as the first number says
unfoldable pub chain_of : List ℕ → ℕ → ℕ → List ℕ
chain_of table zero i = []
chain_of table (suc most) zero = []
chain_of table (suc most) (suc i) = suc i ∷ chain_of table most (backward table (suc i))

-- the whole chain from i on
abbrev pub chain : List ℕ → ℕ → List ℕ
chain table i = chain_of table i i

abbrev pub place : ℕ → ℕ → Place
place p s = record { list = p; statement = s }

module _ (tree : List ℕ) (mark : ℕ) where
  -- the first of some statements of a list that has the mark; else what comes of the other lists
  unfoldable pub among_statements : ℕ → List ℕ → Option Place → Option Place
  among_statements p [] rest = rest
  among_statements p (s ∷ ss) rest = cond (eqb (wide_at tree (s + 2)) mark) (Some (place p s)) (among_statements p ss rest)

  unfoldable pub among_lists : List ℕ → List ℕ → List ℕ → Option Place
  among_lists holds before [] = None
  among_lists holds before (p ∷ ps) = among_statements p (chain before (get_or holds p 0)) (among_lists holds before ps)

-- the lists from the latest one on back, in each the statements from its last one on back: where the mark is, if it is anywhere
unfoldable pub searched : List ℕ → List ℕ → List ℕ → List ℕ → ℕ → ℕ → Option Place
searched tree earlier holds before mark latest = among_lists tree mark holds before (chain earlier latest)
