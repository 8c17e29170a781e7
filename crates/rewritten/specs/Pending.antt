-- What is left to come of a rewritten tree, read off what is open.
use Rattle.std.specs.Prelude.{ℕ, zero, suc, ◌/◌, ◌%◌, List, [], ◌∷◌, ◌++◌, Bool, cond, eqb, length, get_or}
use Rattle.tree.specs.Tree.{Node}
use Rattle.tree.specs.Grammar.{Sort, Field}
use Rattle.tree.specs.Grammar.Stage.{rewritten}
use Rattle.tree.specs.Rows.{fields_in_of}
use Rattle.tree.specs.Read.{Got, mapped, joined, sort_in, read_field, read_items, read_node}
use Rattle.tree.specs.Read.Got.{got}
use Rattle.rewritten.specs.Events.{Event, events, events_piece, events_items}
use Rattle.rewritten.specs.Events.Event.{ends, closes}

-- what is open: the fields of a node that stand and are still to come, or so many items of a list
pub data Task : Type 0 where
  slots : List Sort → Task
  items : ℕ → Bool → ℕ → Task  -- the place of the items, whether there may be holes, how many

-- what closes it
abbrev pub closing : Task → Event
closing (slots ss) = ends
closing (items p h n) = closes

-- a sort too, if its bit stands
abbrev pub by_bit_of : ℕ → Sort → List Sort → List Sort
by_bit_of zero s ss = ss
by_bit_of (suc b) s ss = s ∷ ss

-- the sorts of the fields whose bits stand
unfoldable pub standing : List Field → ℕ → List Sort
standing [] m = []
standing (f ∷ fs) m = by_bit_of (m % 2) (sort_in f) (standing fs (m / 2))

unfoldable pub sorts : List Field → List Sort
sorts [] = []
sorts (f ∷ fs) = sort_in f ∷ sorts fs

-- some events, and then more
abbrev pub and_then : Got (List Event) → (ℕ → ℕ → Got (List Event)) → Got (List Event)
and_then g rest = joined ◌++◌ g rest

module _ (tree : List ℕ) where
  -- a node with as many levels as there are bytes, so that none is too deep
  unfoldable pub node_in_of : ℕ → ℕ → ℕ → Got Node
  node_in_of p at k = read_node tree rewritten (length tree) p at k

  unfoldable pub node_comes : ℕ → ℕ → ℕ → Got (List Event)
  node_comes p at k = mapped events (node_in_of p at k)

  unfoldable pub piece_comes : Sort → ℕ → ℕ → Got (List Event)
  piece_comes s at k = mapped events_piece (read_field tree rewritten node_in_of s at k)

  unfoldable pub slots_come : List Sort → ℕ → ℕ → Got (List Event)
  slots_come [] at k = got [] at k
  slots_come (s ∷ ss) at k = and_then (piece_comes s at k) (λ q j. slots_come ss q j)

  unfoldable pub items_come : ℕ → Bool → ℕ → ℕ → ℕ → Got (List Event)
  items_come p h n at k = mapped events_items (read_items tree (node_in_of p) h n at k)

  unfoldable pub comes : Task → ℕ → ℕ → Got (List Event)
  comes (slots ss) at k = slots_come ss at k
  comes (items p h n) at k = items_come p h n at k

  -- the innermost task, and those around it; the outermost is not closed
  unfoldable pub pending : Task → List Task → ℕ → ℕ → Got (List Event)
  pending t [] at k = comes t at k
  pending t (u ∷ us) at k = and_then (comes t at k) (λ q j. mapped (λ es. closing t ∷ es) (pending u us q j))

-- ---- frames: a task as a number

-- a list: whether there may be holes in bit 0, the place in bits 1 to 5, how many items above
abbrev pub items_in : ℕ → Task
items_in w = items (w / 2 % 32) (eqb (w % 2) 1) (w / 64)

-- even: the fields of a row; odd: a list
unfoldable pub task_of : ℕ → Task
task_of v = cond (eqb (v % 2) 0) (slots (sorts (fields_in_of (v / 2)))) (items_in (v / 2))

-- the tasks of the first n frames, the last first
unfoldable pub stack : List ℕ → ℕ → List Task
stack frames zero = []
stack frames (suc n) = task_of (get_or frames n 0) ∷ stack frames n
