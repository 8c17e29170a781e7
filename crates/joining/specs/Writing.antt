-- What is written, read off the tables.
use Rattle.std.specs.Prelude.{ℕ, zero, suc, ◌+◌, ◌-◌, ◌%◌, ◌<◌, ◌≤◌, max, ◌≡◌, List, [], ◌∷◌, ◌++◌, Bool, true, false, cond, eqb, ltb, length, get_or, take, drop}
use Rattle.tree.specs.Tree.{wide_bytes}
use Rattle.tree.specs.Read.{byte_at, wide_at}
use Rattle.drawing.specs.Pen.{put, reach}

-- the bytes from a position up to another, as far as there are any
unfoldable pub part : ℕ → ℕ → List ℕ → List ℕ
part start stop l = take (stop - start) (drop start l)

-- the bytes of a Declaration: its mark, its kind, those of its declarator list
unfoldable pub declared : ℕ → ℕ → List ℕ → List ℕ
declared m kind ds = 4 ∷ 7 ∷ (wide_bytes (m % 65536) ++ (kind ∷ ds))

-- the first number above m that is not taken, no further than so many; the table has 1 at each that is
unfoldable pub free_from : List ℕ → ℕ → ℕ → ℕ
free_from seen zero m = m
free_from seen (suc most) m = cond (eqb (byte_at seen (suc m)) 1) (free_from seen most (suc m)) (suc m)

-- no further than 65,535
unfoldable pub free_after : List ℕ → ℕ → ℕ
free_after seen m = free_from seen (65535 - m) m

-- bytes were written from a position of a slice on: the position and the slice after them
abbrev pub Copied : List ℕ → ℕ → List ℕ → ℕ → List ℕ → Type 0
Copied l at xs at' l' = (at' ≡ reach (length l) at xs) × (l' ≡ put l at xs)

-- the `var`s of a mark
module _ (list seen : List ℕ) (mark : ℕ) where
  -- an entry, which has its end; `last` is the mark that was given last
  unfoldable pub var_bytes : ℕ → ℕ → ℕ → List ℕ
  var_bytes at end last = cond (eqb (wide_at list at) mark) (declared (free_after seen last) 1 (part (at + 2) end list)) []

  unfoldable pub var_last : ℕ → ℕ → ℕ
  var_last at last = cond (eqb (wide_at list at) mark) (free_after seen last) last

-- so many entries of the list, from a position on
module _ (list ends seen : List ℕ) (mark : ℕ) where
  unfoldable pub vars_bytes : ℕ → ℕ → ℕ → List ℕ
  vars_bytes zero at last = []
  vars_bytes (suc n) at last = var_bytes list seen mark at (get_or ends at 0) last ++ vars_bytes n (get_or ends at 0) (var_last list seen mark at last)

  unfoldable pub vars_last : ℕ → ℕ → ℕ → ℕ
  vars_last zero at last = last
  vars_last (suc n) at last = vars_last n (get_or ends at 0) (var_last list seen mark at last)

-- what is written for each byte of the tree, by the tables: how many statements are new in a list at its count, and which statements have new ones before them
module _ (tree list ends seen held : List ℕ) where
  unfoldable pub before_bytes : ℕ → ℕ → List ℕ
  before_bytes p last = cond (ltb 0 (get_or held p 0)) (vars_bytes list ends seen (wide_at tree (p + 2)) (wide_at list 0) 2 last) []

  unfoldable pub before_last : ℕ → ℕ → ℕ
  before_last p last = cond (ltb 0 (get_or held p 0)) (vars_last list ends seen (wide_at tree (p + 2)) (wide_at list 0) 2 last) last

unfoldable pub step_skips : List ℕ → Bool → ℕ → Bool
step_skips more true p = false
step_skips more false p = ltb 0 (get_or more p 0)

module _ (tree list ends seen more held : List ℕ) where
  unfoldable pub step_bytes : Bool → ℕ → ℕ → List ℕ
  step_bytes true p last = []
  step_bytes false p last =
      cond (ltb 0 (get_or more p 0))
      (wide_bytes ((wide_at tree p + get_or more p 0) % 65536))
      (before_bytes tree list ends seen held p last ++ (get_or tree p 0 ∷ []))

  unfoldable pub step_last : Bool → ℕ → ℕ → ℕ
  step_last true p last = last
  step_last false p last = cond (ltb 0 (get_or more p 0)) last (before_last tree list ends seen held p last)

  -- so many bytes, from a position on; the first is passed over or not
  unfoldable pub rest_bytes : ℕ → Bool → ℕ → ℕ → List ℕ
  rest_bytes zero s p last = []
  rest_bytes (suc n) s p last = step_bytes s p last ++ rest_bytes n (step_skips more s p) (suc p) (step_last s p last)

-- a table has 0 from a position up to another
abbrev pub Calm : List ℕ → ℕ → ℕ → Type 0
Calm t start stop = (x : ℕ) → start ≤ x → x < stop → get_or t x 0 ≡ 0

-- nothing changes from a position up to another, which is not past an end
pub record Quiet (more held : List ℕ) (start end stop : ℕ) : Type 0 where
  pub onward : start ≤ stop
  pub within : stop ≤ max start end
  pub counts : Calm more start stop
  pub statements : Calm held start stop

-- the head: the Program's kind and bit map, its count, and a `const` if there are excluded keys
module _ (tree list seen more : List ℕ) (excluded : ℕ) where
  unfoldable pub head_bytes : List ℕ
  head_bytes =
      part 0 2 tree
      ++ cond (eqb (wide_at list excluded) 0)
      (wide_bytes ((wide_at tree 2 + get_or more 2 0) % 65536))
      (wide_bytes ((wide_at tree 2 + get_or more 2 0 + 1) % 65536) ++ declared (free_after seen 0) 3 (part excluded (length list) list))

unfoldable pub head_last : List ℕ → List ℕ → ℕ → ℕ
head_last list seen excluded = cond (eqb (wide_at list excluded) 0) 0 (free_after seen 0)

-- all of it
unfoldable pub whole_bytes : List ℕ → List ℕ → List ℕ → List ℕ → List ℕ → List ℕ → ℕ → List ℕ
whole_bytes tree list ends seen more held excluded =
    head_bytes tree list seen more excluded
    ++ rest_bytes tree list ends seen more held (length tree - 4) false 4 (head_last list seen excluded)
