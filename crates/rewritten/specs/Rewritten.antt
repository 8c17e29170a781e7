-- Which bytes are a rewritten tree, and which tree they are (request 7).
use Rattle.std.specs.Prelude.{ℕ, ◌≡◌, List, [], ◌∷◌, Bool, true, false, cond, length}
use Rattle.tree.specs.Tree.{Node, marks, depth}
use Rattle.tree.specs.Grammar.{among}
use Rattle.tree.specs.Grammar.Stage.{rewritten}
use Rattle.tree.specs.WellFormed.{WellFormed}
use Rattle.tree.specs.Read.{Got, accepted, read_tree}
use Rattle.tree.specs.Read.Got.{got, refused}

-- no number stands twice
unfoldable pub distinct : List ℕ → Bool
distinct [] = true
distinct (m ∷ ms) = cond (among ms m) false (distinct ms)

-- a tree whose marks are distinct, else 3
abbrev pub checked : Got Node → Got Node
checked (got n q k) = accepted (distinct (marks n)) (got n q k)
checked (refused r) = refused r

-- The tree that the bytes are: read with as many levels as there are bytes, so that none is too deep (proofs/Deep).
-- The answer is the tree, its length and 1; or 3.
unfoldable pub read_rewritten : List ℕ → Got Node
read_rewritten tree = checked (read_tree rewritten (length tree) tree)

abbrev pub is_got : {A : Type 0} → Got A → Bool
is_got (got a q k) = true
is_got (refused r) = false

unfoldable pub is_rewritten : List ℕ → Bool
is_rewritten tree = is_got (read_rewritten tree)

-- the same as rules: a well-formed tree of any depth with distinct marks
pub record Rewritten (n : Node) : Type 0 where
  pub formed : WellFormed rewritten (depth n) n 1
  pub apart : distinct (marks n) ≡ true
