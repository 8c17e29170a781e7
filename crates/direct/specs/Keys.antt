-- What is done for the value of an object rest: the keys that it leaves out, and the source it is read from.
use Rattle.std.specs.Prelude.{ℕ, suc, Bool, true, false, cond, not, ◌&&◌, List, [], ◌∷◌, ◌++◌, length}
use Rattle.tree.specs.Tree.{Node, Items, wide_bytes}
use Rattle.tree.specs.Tree.Items.{none, hole, item}
use Rattle.lowering.specs.Parts.{position, is_empty, any}
use Rattle.lowering.specs.Patterns.{key}
use Rattle.lowering.specs.Keys.{key_sort, is_primitive, entry_of, key_text}
use Rattle.sink.specs.Machine.Event.{helper}
use Rattle.direct.specs.Events.{Place, Emit, puts, emits}
use Rattle.direct.specs.Events.Deed.{does}
use Rattle.direct.specs.Emit.{say, ◌▷◌, inner, call_head, in_turn}
use Rattle.direct.specs.Views.{says_cell}
use Rattle.lowering.specs.Keys.Entry.{spelt, itself, omitted, saved}

-- a string of the form
abbrev pub string_bytes_of : List ℕ → List ℕ
string_bytes_of form = 22 ∷ 7 ∷ 1 ∷ 0 ∷ 0 ∷ wide_bytes (length form) ++ form

-- the entry of the property q among the keys that are left out
unfoldable pub emits_excluded : Place → Node → Emit
emits_excluded c q =
    elim (entry_of (key_sort (key q))) [
      | spelt ↦ say (puts (string_bytes_of (key_text (key q))))
      | itself ↦ emits c (key q)
      | omitted ↦ say []
      | saved ↦ says_cell 4 (position q)
    ]

unfoldable pub is_private : Node → Bool
is_private k = elim (entry_of (key_sort k)) [ spelt ↦ false | itself ↦ false | omitted ↦ true | saved ↦ false ]

-- how many entries there are
unfoldable pub entries : Items → ℕ
entries none = 0
entries (hole qs) = entries qs
entries (item q qs) = cond (is_private (key q)) (entries qs) (suc (entries qs))

-- whether the keys of all properties may be taken as strings, and whether they go out to the list
unfoldable pub primitives : Items → Bool
primitives qs = not (any (λ q. not (is_primitive (key q))) qs)

unfoldable pub hoists : Bool → Items → Bool
hoists root qs = not root && (not (is_empty qs) && primitives qs)

-- the array of them, each at the place c
unfoldable pub emits_keys : Place → Items → Emit
emits_keys c qs = say (puts (32 ∷ 1 ∷ wide_bytes (entries qs))) ▷ in_turn (emits_excluded c) qs

-- the keys as the helper reads them, of the object pattern at `at`
unfoldable pub emits_keys_read : Place → ℕ → Items → Emit
emits_keys_read c at qs =
    cond (hoists c.root qs) (says_cell 2 at)
    (cond (primitives qs) (emits_keys c qs)
    (say (puts (29 ∷ 3 ∷ 30 ∷ 3 ∷ [])) ▷ emits_keys c qs ▷ say (puts (3 ∷ 0 ∷ 109 ∷ 97 ∷ 112 ∷ 1 ∷ 0 ∷ []) ++ (does (helper 5) ∷ []))))

-- the value of the rest of the object pattern at `at` with the properties qs; s reads the source
unfoldable pub emits_rest : Place → ℕ → Items → Emit → Emit
emits_rest c at qs s =
    cond (is_empty qs)
    (say (call_head 2 2 ++ (puts (24 ∷ 1 ∷ 0 ∷ 0 ∷ 28 ∷ 1 ∷ 2 ∷ 0 ∷ []) ++ call_head 3 1)) ▷ s ▷ s)
    (say (call_head 4 2) ▷ s ▷ emits_keys_read (inner c) at qs)
