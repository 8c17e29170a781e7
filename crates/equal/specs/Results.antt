-- The results that the definition of the lowering could give for one input: the names of its temporaries get numbers by some list of
-- names. Its own list has them by first appearance.
use Rattle.std.specs.Prelude.{ℕ, List, ◌++◌}
use Rattle.tree.specs.Tree.{Node, Items}
use Rattle.lowering.specs.Weight.{walked}
use Rattle.lowering.specs.Collect.{Name, Entry, over, bare, visits, entries, excluded_in, nodes, list_nodes, name_at, names_of, numbered, numbered_items}
use Rattle.lowering.specs.Answer.{top}
use Rattle.lowering.proofs.Appearance.{In}
use Rattle.equal.specs.Canonical.{Written, each_entry}

-- tree and list with numbers by the names ns
unfoldable pub written_by : List Name → Node → List Entry → Items → Written
written_by ns n es excluded =
    record { tree = numbered ns n; entries = each_entry (λ is. numbered_items ns is) es; excluded = numbered_items ns excluded }

-- each name that stands in tree or list is among them, so that each has a number of its own
unfoldable pub NamesAll : List Name → Node → List Entry → Items → Type 0
NamesAll ns n es excluded = (a : Name) → In a (over name_at (nodes n ++ list_nodes es excluded)) → In a ns

-- ---- what the definition gives for the tree n, whose next mark is `next`, before names get numbers

unfoldable pub tree_of : ℕ → Node → Node
tree_of next n = bare next (walked top n)

unfoldable pub entries_of : ℕ → Node → List Entry
entries_of next n = entries (visits next 0 (walked top n))

unfoldable pub excluded_of : ℕ → Node → Items
excluded_of next n = excluded_in (visits next 0 (walked top n))

-- the result by the names ns
unfoldable pub result_by : List Name → ℕ → Node → Written
result_by ns next n = written_by ns (tree_of next n) (entries_of next n) (excluded_of next n)

-- its own names
unfoldable pub own_names : ℕ → Node → List Name
own_names next n = names_of (tree_of next n) (entries_of next n) (excluded_of next n)
