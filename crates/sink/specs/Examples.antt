-- A run of events and its bytes: two temporaries are made, the second appears first, and one of them stands in the list.
use Rattle.std.specs.Prelude.{◌≡◌, refl, List, [], ◌∷◌, eqb}
use Rattle.sink.specs.Machine.{Event, low, high}
use Rattle.sink.specs.Machine.Event.{put, temporary, new_mark, make, listed, listed_temporary, entry, declarator, excluded_temporary}
use Rattle.sink.specs.Shown.{renamed, names_after, mark_after, tree_of, list_of, keys_of, tree_tokens, list_tokens, keys_tokens, entry_in_of, entries_in, declarator_in, declarators_in, one_up, place, noted, order, shown, order_of, tree_bytes, list_bytes, name_each, own_name}

run : List Event
run =
    entry 7 1 ∷ listed 5 ∷ listed 1 ∷ listed_temporary 30 4 ∷ make 31 ∷ declarator ∷ excluded_temporary 32 2 ∷ temporary 31 3 ∷ new_mark ∷ temporary 30 4 ∷ temporary 31 3 ∷ make 31
    ∷ temporary 31 3 ∷ put 99 ∷ []

-- numbers by first appearance, each with its stem; the cell 31 stands for another temporary once it is made again; a temporary that never appears shows 0
tree_bytes_lem : tree_bytes eqb own_name 300 (name_each 16384 run)
    ≡ 20 ∷ 3 ∷ 1 ∷ 0 ∷ 3 ∷ 44 ∷ 1 ∷ 20 ∷ 3 ∷ 2 ∷ 0 ∷ 4 ∷ 20 ∷ 3 ∷ 1 ∷ 0 ∷ 3 ∷ 20 ∷ 3 ∷ 3 ∷ 0 ∷ 3 ∷ 99 ∷ []
unfolding run low high renamed names_after mark_after tree_of tree_tokens one_up place noted order shown order_of tree_bytes name_each own_name
tree_bytes_lem = refl

list_bytes_lem : list_bytes eqb own_name 300 (name_each 16384 run) ≡ 1 ∷ 0 ∷ 7 ∷ 0 ∷ 1 ∷ 0 ∷ 5 ∷ 1 ∷ 20 ∷ 3 ∷ 2 ∷ 0 ∷ 4 ∷ 1 ∷ 0 ∷ 5 ∷ 3 ∷ 20 ∷ 3 ∷ 0 ∷ 0 ∷ 2 ∷ []
unfolding run low high renamed names_after mark_after tree_of tree_tokens list_of list_tokens keys_of keys_tokens entry_in_of entries_in declarator_in declarators_in one_up place noted order shown order_of list_bytes name_each own_name
list_bytes_lem = refl
