-- What is answered of two slices: the order of the trees that they are, or a refusal.
use Rattle.std.specs.Prelude.{ℕ, ℤ, pos, ◌≡◌, Bool, true, cond, not, List}
use Rattle.std.specs.declared.option.Option.{Option}
use Rattle.std.specs.declared.option.Option.TheVariants.{Some, None}
use Rattle.std.specs.declared.cmp.Ordering.{Ordering}
use Rattle.tree.specs.Tree.{Node}
use Rattle.tree.specs.Read.{Got}
use Rattle.tree.specs.Read.Got.{got, refused}
use Rattle.rewritten.specs.Rewritten.{is_rewritten}
use Rattle.ordering.specs.Order.{order}
use Rattle.ordering.specs.Verdicts.{number_of}

-- one of the two is no rewritten tree
unfoldable pub is_refused : List ℕ → List ℕ → Bool
is_refused first second = cond (is_rewritten first) (not (is_rewritten second)) true

-- of what was read of the two: their order, or none, where one of them is no tree
abbrev pub answer_of : Got Node → Got Node → Option Ordering
answer_of (got m p j) (got n q k) = Some (order m n)
answer_of (got m p j) (refused s) = None
answer_of (refused r) h = None

-- ---- the numbers of each case of an answer, as the entry hands them back: 0 and the order's; or 3 and 0

abbrev pub answer_number : Option Ordering → ℕ
answer_number (Some v) = 0
answer_number None = 3

abbrev pub order_number : Option Ordering → ℤ
order_number (Some v) = number_of v
order_number None = pos 0

-- r answers so of what was read of the two
pub record Answers (g h : Got Node) (r : Option Ordering) : Type 0 where
  pub number : answer_number r ≡ answer_number (answer_of g h)
  pub order : order_number r ≡ order_number (answer_of g h)
