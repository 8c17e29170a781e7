-- A pass over a rewritten tree is a left fold over its events.
use Rattle.std.specs.Prelude.{List, [], ◌∷◌}
use Rattle.tree.specs.Tree.{Node}
use Rattle.tree.specs.Read.{Got}
use Rattle.tree.specs.Read.Got.{got, refused}
use Rattle.rewritten.specs.Events.{Event, events}

module _ {S : Type 0} (step : S → Event → S) where
  -- the state after some events
  unfoldable pub folded : S → List Event → S
  folded s [] = s
  folded s (e ∷ es) = folded (step s e) es

  -- what a pass answers of what was read: `answer` of the state at the end, or `no`
  module _ {A : Type 0} (answer : S → A) (no : A) where
    abbrev pub passed : S → Got Node → A
    passed s (got n q k) = answer (folded s (events n))
    passed s (refused r) = no
