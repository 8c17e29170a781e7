-- What is handed out for the objects with rest of a pattern.
use Rattle.std.specs.Prelude.{ℕ, suc, ◌+◌, Bool, cond, List, [], ◌∷◌, ◌++◌}
use Rattle.tree.specs.Tree.{Node, Items, wide_bytes, count, encode}
use Rattle.tree.specs.Tree.Items.{none, hole, item}
use Rattle.lowering.specs.Parts.{position, node_at_of}
use Rattle.lowering.specs.Patterns.{properties, key}
use Rattle.lowering.specs.Keys.{key_sort, key_text}
use Rattle.lowering.specs.Keys.Key.{name, literal, template, private, again, other}
use Rattle.lowering.specs.Declarations.{is_name_of, is_lowered}
use Rattle.sink.specs.Machine.Event.{make, listed_temporary, excluded_temporary, declarator, entry}
use Rattle.direct.specs.Events.{Emit, cell, lists, excludes}
use Rattle.direct.specs.Events.Deed.{does}
use Rattle.direct.specs.Emit.{say, ◌▷◌, in_turn}
use Rattle.direct.specs.Views.{View, is_other}
use Rattle.direct.specs.Views.View.{replacing, taking}
use Rattle.direct.specs.Keys.{string_bytes_of, entries, hoists}
use Rattle.direct.specs.Objects.{reached_in, replaced_in, over_objects, over_replaced, over_parts}
use Rattle.direct.specs.Objects.Reach.{straight}

-- ---- temporaries that stand in no list

-- in place of the object o
unfoldable pub place_made : Node → Emit
place_made o = say (does (make (cell 1 (position o))) ∷ [])

-- for the key of the property q, and for all keys of o
unfoldable pub key_made : Node → Emit
key_made q = cond (is_other (key q)) (say (does (make (cell 4 (position q))) ∷ [])) (say [])

unfoldable pub keys_made : Node → Emit
keys_made o = in_turn key_made (properties o)

-- ---- excluded keys

-- the bytes of a key that may be taken as a string
unfoldable pub key_bytes_of : Node → List ℕ
key_bytes_of k =
    elim (key_sort k) [
      | name ↦ string_bytes_of (key_text k)
      | literal ↦ string_bytes_of (key_text k)
      | template ↦ encode k
      | private ↦ []
      | again ↦ []
      | other ↦ []
    ]

-- of the property q
unfoldable pub key_bytes : Node → List ℕ
key_bytes q = key_bytes_of (key q)

-- those of o, if they go out
unfoldable pub excludes_of : Bool → Node → Emit
excludes_of root o =
    cond (hoists root (properties o))
    (say (does declarator ∷ does (excluded_temporary (cell 2 (position o)) 2) ∷ excludes (32 ∷ 1 ∷ wide_bytes (entries (properties o))))
    ▷ in_turn (λ q. say (excludes (key_bytes q))) (properties o))
    (say [])

-- ---- entries

-- the temporary of the key of the property q, with its value; those of o
unfoldable pub hands_key : Node → Emit
hands_key q =
    cond (is_other (key q)) (say (lists (5 ∷ 3 ∷ []) ++ (does (listed_temporary (cell 4 (position q)) 4) ∷ lists (encode (key q))))) (say [])

unfoldable pub hands_keys : Node → Emit
hands_keys o = in_turn hands_key (properties o)

-- the temporary in place of o, without a value
unfoldable pub hands_place : Node → Emit
hands_place o = say (lists (5 ∷ 1 ∷ []) ++ (does (listed_temporary (cell 1 (position o)) 1) ∷ []))

-- how many keys of an object become temporaries; how many places, and how many parts
unfoldable pub other_keys : Items → ℕ
other_keys none = 0
other_keys (hole qs) = other_keys qs
other_keys (item q qs) = cond (is_other (key q)) (suc (other_keys qs)) (other_keys qs)

unfoldable pub places_in : View → Node → ℕ
places_in v p = count (replaced_in v p)

unfoldable pub parts_count : Node → ℕ
parts_count p = count (reached_in straight p)

-- ---- of whole nodes

-- a lowered declarator d: the value's temporary, those in place of objects, those of keys; its excluded keys
unfoldable pub declarator_made : Node → Emit
declarator_made d =
    cond (is_lowered d)
    (cond (is_name_of (node_at_of 1 d)) (say []) (say (does (make (cell 3 (position (node_at_of 0 d)))) ∷ []))
    ▷ over_objects place_made taking (node_at_of 0 d) ▷ over_objects keys_made replacing (node_at_of 0 d))
    (say [])

unfoldable pub declarator_excludes : Bool → Node → Emit
declarator_excludes root d = cond (is_lowered d) (over_objects (excludes_of root) replacing (node_at_of 0 d)) (say [])

-- an assignment to the object with rest p, in a statement with the mark m: the temporary of the value, those of the parts, those of the keys with
-- their values; the excluded keys
unfoldable pub hands_top : Bool → ℕ → Node → Emit
hands_top root m p =
    say (does (entry m (suc (parts_count p + other_keys (properties p)))) ∷ lists (5 ∷ 1 ∷ []) ++ (does (listed_temporary (cell 3 (position p)) 3) ∷ []))
    ▷ over_parts hands_place p ▷ hands_keys p ▷ excludes_of root p

-- one to any other target
unfoldable pub hands_nested : View → ℕ → Node → Emit
hands_nested v m p = say (does (entry m (places_in v p)) ∷ []) ▷ over_replaced hands_place v p
