-- The test for loaders: whether an object rest is left in a tree of the rewritten stage.
use Rattle.std.specs.Prelude.{ℕ, ◌/◌, ◌%◌, Bool, false, ◌&&◌, ◌||◌, List, eqb, length}
use Rattle.tree.specs.Tree.{Node}
use Rattle.tree.specs.Grammar.Stage.{rewritten}
use Rattle.tree.specs.Read.{Got, read_tree}
use Rattle.tree.specs.Read.Got.{got, refused}
use Rattle.lowering.specs.Collect.{nodes}
use Rattle.rewritten.specs.Events.{Event}
use Rattle.rewritten.specs.Events.Event.{begins, ends, opens, closes}
use Rattle.result.specs.Left.{keeps_rest, any_of}

-- a tree has an object pattern with a rest
unfoldable pub rest_left : Node → Bool
rest_left n = any_of keeps_rest (nodes n)

abbrev pub left_in : Got Node → Bool
left_in (got n q k) = rest_left n
left_in (refused r) = false

-- the bytes are a tree of the rewritten stage, of any depth and with any marks, and a rest is left in it
unfoldable pub leftover : List ℕ → Bool
leftover tree = left_in (read_tree rewritten (length tree) tree)

-- ---- as a pass meets it

-- a node of this kind with this bit map: bit 1 is the rest's
unfoldable pub is_rested : ℕ → ℕ → Bool
is_rested kind map = eqb kind 34 && eqb (map / 2 % 2) 1

unfoldable pub rest_met : Event → Bool
rest_met (begins at kind map) = is_rested kind map
rest_met ends = false
rest_met (opens n) = false
rest_met closes = false
rest_met Event.hole = false
rest_met (Event.text bs) = false
rest_met (Event.byte b) = false
rest_met (Event.mark n) = false
rest_met (Event.number n) = false

-- met before, or now
unfoldable pub meet_rest : Bool → Event → Bool
meet_rest met e = met || rest_met e
