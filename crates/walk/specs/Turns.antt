-- What is done for each item of a list, by the mode of a turn, and how a source is read.
use Rattle.std.specs.Prelude.{ℕ, zero, suc, ◌+◌, ◌-◌, ◌/◌, ◌%◌, ◌≡◌, Bool, true, false, cond, not, ◌&&◌, ◌||◌, List, [], ◌∷◌, ◌++◌, eqb, ltb, Option, Some, None}
use Rattle.tree.specs.Tree.{Node, Items, wide_bytes, count}
use Rattle.tree.specs.Tree.Items.{none, hole, item}
use Rattle.tree.specs.Read.{byte_at, wide_at}
use Rattle.tree.specs.Look.{Seen, onward, look_items, look_node}
use Rattle.lowering.specs.Parts.{is, any, gather}
use Rattle.lowering.specs.Made as made
use Rattle.lowering.specs.Patterns.{value, has_array_rest_over_object_rest}
use Rattle.lowering.specs.Heads.{moved_from}
use Rattle.lowering.specs.Keys.{Entry, key_sort, entry_of, key_text}
use Rattle.lowering.specs.Numbers.{digits_of}
use Rattle.lowering.proofs.All.{AllItems}
use Rattle.sink.specs.Machine.{part}
use Rattle.sink.specs.Machine.Event.{put, temporary, new_mark}
use Rattle.pattern.specs.declared.source.ReferenceBuilder.{ReferenceBuilder}
use Rattle.pattern.specs.declared.keys.Key.{Key}
use Rattle.pattern.specs.declared.keys.Key.TheVariants.{Name, Literal, Number, OtherForm, NoForm, Template, Private, Again, Other}
use Rattle.pattern.specs.Parts.{part_at, run_of}
use Rattle.pattern.specs.Tally.{limited}
use Rattle.pattern.specs.Source.{Given, read_of}
use Rattle.direct.specs.Events.{Deed, Place, Emit, puts, excludes, cell, emits}
use Rattle.direct.specs.Events.Deed.{does, refuses}
use Rattle.direct.specs.Emit.{say, ◌▷◌}
use Rattle.direct.specs.Views.{View, emits_view, emits_property}
use Rattle.direct.specs.Views.View.{replacing, taking}
use Rattle.direct.specs.Literals.{is_spread, no_call_of, nothing_pending, some_pending}
use Rattle.direct.specs.Keys.{string_bytes_of, emits_excluded}
use Rattle.direct.specs.Objects.{Reach, reached, over_objects, over_reached, enters}
use Rattle.direct.specs.Objects.Reach.{anywhere, straight, in_arrays}
use Rattle.direct.specs.Handed.{place_made, key_made, keys_made, key_bytes, excludes_of, hands_key, declarator_made, declarator_excludes}
use Rattle.direct.specs.Declared.{emits_key_value, emits_found, emits_declarator}
use Rattle.direct.specs.Assigned.{emits_inner}
use Rattle.direct.specs.Moved.{out_of, moved_in_of, behind}
use Rattle.walk.specs.declared.modes.Deep.{Deep}
use Rattle.walk.specs.declared.modes.Deep.TheVariants.{Found, Reached}
use Rattle.walk.specs.declared.modes.Mode.{Mode}
use Rattle.walk.specs.declared.modes.Mode.TheVariants as modes
use Rattle.walk.specs.declared.views.View as views
use Rattle.walk.specs.declared.views.View.TheVariants.{Replacing, Taking}
use Rattle.walk.specs.declared.reaches.Reach as reaches
use Rattle.walk.specs.declared.reaches.Reach.TheVariants.{Anywhere, Straight, InArrays}
use Rattle.walk.specs.declared.look.KeyClass.{KeyClass}
use Rattle.walk.specs.declared.look.KeyClass.TheVariants.{AsString, AsItStands, LeftOut, AsTemporary}
use Rattle.walk.specs.declared.literal.Calls.{Calls}
use Rattle.walk.specs.declared.literal.Calls.TheVariants.{NoCall, NothingPending, SomePending}
use Rattle.walk.specs.declared.hand.Own.{Own}
use Rattle.walk.specs.declared.hand.Own.TheVariants as own
use Rattle.walk.specs.declared.hand.KeyUse.{KeyUse}
use Rattle.walk.specs.declared.hand.KeyUse.TheVariants as use-of
use Rattle.walk.specs.declared.hand.Declared.{Declared}
use Rattle.walk.specs.declared.hand.Declared.TheVariants as declared
use Rattle.walk.specs.declared.place.Place as place
use Rattle.walk.specs.Whole.{place_of, place_with, hole_at}
use Rattle.lowering.specs.Keys.Entry.{spelt, itself, omitted, saved}

-- a view of the code, and where it looks for objects, as the direct form has them
unfoldable pub view_of : views.View → View
view_of Replacing = replacing
view_of Taking = taking

unfoldable pub reach_of : reaches.Reach → Reach
reach_of Anywhere = anywhere
reach_of Straight = straight
reach_of InArrays = in_arrays

-- ---- modes of a list

-- what is done below a pattern
unfoldable pub deep_of : Deep → Place → Node → Emit
deep_of Found c n = emits_found c n
deep_of (Reached r) c n = over_reached (emits_inner c) (reach_of r) n

-- what is done for an item
unfoldable pub turn_of : Mode → Place → Node → Emit
turn_of modes.Viewed c n = emits_view c replacing n
turn_of modes.MovedOut c n = emits c (out_of n)
turn_of (modes.Below d) c n = deep_of d c n
turn_of (modes.Property taken) c n = emits_property c taken replacing n
turn_of modes.ExcludedKey c n = emits_excluded c n
turn_of modes.KeyValue c n = emits_key_value c n
turn_of (modes.Value d) c n = deep_of d c (value n)
turn_of modes.Declarator c n = emits_declarator c n
turn_of modes.Binding c n = emits c (behind n)

-- the mode of an array's items, by what is done below the array
abbrev pub item_mode : Deep → Mode
item_mode Found = modes.Below Found
item_mode (Reached r) = modes.Below (Reached Anywhere)

-- whether arrays are entered
abbrev pub enters_arrays : Deep → Bool
enters_arrays Found = true
enters_arrays (Reached r) = enters (reach_of r)

-- those whose items have rests of their own: they are told whether the scope is the root. In any other mode an item asks for itself
unfoldable pub is_told : Mode → Bool
is_told modes.Viewed = false
is_told modes.MovedOut = false
is_told (modes.Below d) = true
is_told (modes.Property taken) = false
is_told modes.ExcludedKey = false
is_told modes.KeyValue = false
is_told (modes.Value d) = true
is_told modes.Declarator = true
is_told modes.Binding = false

unfoldable pub told_place : Mode → Bool → place.Place → Place
told_place mode root c = cond (is_told mode) (place_with root c) (place_of c)

-- what may be gone below: the assignments are for patterns without an object rest below an array rest
unfoldable pub deep_suits : Deep → Node → Bool
deep_suits Found n = true
deep_suits (Reached r) n = not (has_array_rest_over_object_rest n)

-- what may stand in the list: patterns, properties, declarators, parameters or declarators
unfoldable pub suits : Mode → Node → Bool
suits modes.Viewed n = true
suits modes.MovedOut n = true
suits (modes.Below d) n = deep_suits d n
suits (modes.Property taken) n = is 35 n
suits modes.ExcludedKey n = is 35 n
suits modes.KeyValue n = is 35 n
suits (modes.Value d) n = is 35 n && deep_suits d (value n)
suits modes.Declarator n = is 5 n
suits modes.Binding n = is 15 n || is 5 n

-- a hole is written where the list is
abbrev pub writes_holes : Mode → Bool
writes_holes modes.Viewed = true
writes_holes modes.MovedOut = true
writes_holes (modes.Below d) = false
writes_holes (modes.Property taken) = false
writes_holes modes.ExcludedKey = false
writes_holes modes.KeyValue = false
writes_holes (modes.Value d) = false
writes_holes modes.Declarator = false
writes_holes modes.Binding = false

-- the byte that stands for a hole is copied
unfoldable pub hole_deeds : List ℕ → Mode → ℕ → List Deed
hole_deeds tree mode at = cond (writes_holes mode) (puts (part at (onward tree at 1) tree)) []

-- where that byte is 0
unfoldable pub hole_of : Mode → Emit
hole_of mode = cond (writes_holes mode) (say (does (put 0) ∷ [])) (say [])

unfoldable pub turns_of : Mode → Place → Items → Emit
turns_of mode c none = say []
turns_of mode c (hole ns) = hole_of mode ▷ turns_of mode c ns
turns_of mode c (item n ns) = turn_of mode c n ▷ turns_of mode c ns

abbrev pub AllSuit : Mode → Items → Type 0
AllSuit mode ns = AllItems (λ n. suits mode n ≡ true) ns

-- ---- sources: an expression is copied, a temporary is written
unfoldable pub reads : List ℕ → Given → List Deed
reads tree (Given.expression left at) = puts (part at (look_node tree left at).next tree)
reads tree (Given.temporary c stem) = does (temporary c stem) ∷ []

abbrev pub source_of : List ℕ → ReferenceBuilder → Emit
source_of tree b = say (reads tree (read_of b))

-- ---- what is looked up

-- the bytes of a string: its length, and as many bytes of the slice as there are from a position on
abbrev pub string_at : List ℕ → ℕ → ℕ → List ℕ
string_at t from n = 22 ∷ 7 ∷ 1 ∷ 0 ∷ 0 ∷ wide_bytes (n % 65536) ++ part from (onward t from n) t

-- how a key is written among the excluded keys: the entry that it becomes. Document 01 has no number for it
abbrev pub class_entry : KeyClass → Entry
class_entry AsString = spelt
class_entry AsItStands = itself
class_entry LeftOut = omitted
class_entry AsTemporary = saved

unfoldable pub key_string : Node → List ℕ
key_string k = elim (entry_of (key_sort k)) [ spelt ↦ string_bytes_of (key_text k) | itself ↦ [] | omitted ↦ [] | saved ↦ [] ]

-- the string of a key: its bytes in the slice, or its digits; nothing for what has none
unfoldable pub string_of : List ℕ → Key → List ℕ
string_of tree (Name from n) = string_at tree from n
string_of tree (Literal from n) = string_at tree from n
string_of tree (Number v) = string_bytes_of (digits_of v)
string_of tree (OtherForm v) = string_bytes_of (digits_of v)
string_of tree NoForm = string_at tree 0 0
string_of tree Template = []
string_of tree Private = []
string_of tree Again = []
string_of tree Other = []

-- the cell of a temporary; a position past the longest tree is left as it stands
unfoldable pub cell_at : ℕ → ℕ → ℕ
cell_at stem at = cond (ltb at 16384) (cell stem at) at

-- whether the node at a position has a spread in the list that stands first
unfoldable pub spread_at : List ℕ → ℕ → ℕ → Bool
spread_at tree zero at = false
spread_at tree (suc d) at =
    eqb (byte_at tree (onward tree at 1) % 2) 1
    && any is_spread (look_items tree (look_node tree d) false (wide_at tree (onward tree at 2)) (onward tree (onward tree at 2) 2)).value

-- the call so far, as the direct form numbers it
abbrev pub calls_number : Calls → ℕ
calls_number NoCall = no_call_of
calls_number NothingPending = nothing_pending
calls_number SomePending = some_pending

-- two objects, the second of n properties, if there are any
unfoldable pub pending_deeds : ℕ → List Deed
pending_deeds n = cond (eqb n 0) [] (puts (24 ∷ 1 ∷ 0 ∷ 0 ∷ 24 ∷ 1 ∷ wide_bytes (n % 65536)))

-- how many objects with rest are reached below the values of the list that field 0 of the node at a position holds
unfoldable pub values_count : List ℕ → Reach → ℕ → ℕ → ℕ
values_count tree r d at =
    limited (count (gather (λ q. reached r (value q)) (look_items tree (look_node tree (d - 1)) false (run_of at (part_at tree d at 0)).count (run_of at (part_at tree d at 0)).from).value))

-- how many places the target at a position has in a view, and how long the sequence of an assignment to it is
unfoldable pub places_at : List ℕ → views.View → ℕ → ℕ → ℕ
places_at tree Replacing d at = limited (count (reached anywhere (look_node tree d at).value))
places_at tree Taking d at = values_count tree in_arrays d at

unfoldable pub top_at : List ℕ → Bool → ℕ → ℕ → ℕ
top_at tree statement d at = cond statement 3 4 + values_count tree straight d at

-- the level of parameters or declarators
abbrev pub level_of : Bool → ℕ → ℕ
level_of inner left = cond inner (left - 1) left

-- where the starting value of the declarator at a position is, if it has one
unfoldable pub start_of : List ℕ → ℕ → ℕ → Option ℕ
start_of tree zero at = None
start_of tree (suc d) at = cond (eqb (byte_at tree (onward tree at 1) / 2 % 2) 1) (Some (look_node tree d (onward tree at 2)).next) None

-- whether the loop at a position awaits
unfoldable pub awaits : List ℕ → ℕ → Bool
awaits tree at = eqb (byte_at tree at) 8 && eqb (byte_at tree (onward tree at 1) / 16) 1

-- ---- items and what is given

-- an item of a list, or a hole
unfoldable pub spot_deeds : List ℕ → (ℕ → Seen Node) → Mode → Place → Bool → ℕ → Emit
spot_deeds tree R mode c h at = cond (hole_at tree h at) (hole_of mode) (turn_of mode c (R at).value)

-- the patterns that are moved out of an item of an array, of a parameter or a declarator
abbrev pub moves_of : Bool → Node → Items
moves_of true n = moved_in_of n
moves_of false n = moved_from n

abbrev pub AllBind : Bool → Items → Type 0
AllBind arrays ns = arrays ≡ false → AllSuit modes.Binding ns

-- what is done if nothing is refused, the number being 0; else the refusal, and two bytes in place of the node
abbrev pub unless_refused : ℕ → Emit → Emit
unless_refused zero e = e
unless_refused (suc r) e = say (refuses (suc r) ∷ puts (0 ∷ 0 ∷ []))

-- what is assigned: the expression at x, or the temporary of the cell x with its stem
unfoldable pub given_deeds : List ℕ → ℕ → Place → Bool → ℕ → ℕ → Emit
given_deeds tree d c input stem x = cond input (emits c (look_node tree d x).value) (say (does (temporary x stem) ∷ []))

abbrev pub given_node : List ℕ → ℕ → Bool → ℕ → Node
given_node tree d input x = cond input (look_node tree d x).value (made.temporary [] 1 x)

-- ---- heads of new statements

abbrev pub declaration_head : ℕ → ℕ → List Deed
declaration_head sort n = puts (4 ∷ 7 ∷ []) ++ (does new_mark ∷ puts (sort ∷ wide_bytes n))

abbrev pub block_head : ℕ → List Deed
block_head n = puts (2 ∷ 3 ∷ []) ++ (does new_mark ∷ puts (wide_bytes n))

-- ---- what is handed out for an object, by a mode

unfoldable pub own_of : Own → Node → Emit
own_of own.Place o = place_made o
own_of own.Keys o = keys_made o
own_of (own.Excluded root) o = excludes_of root o

-- for all objects that the view replaces
unfoldable pub over_all : Own → views.View → Node → Emit
over_all mode v p = over_objects (own_of mode) (view_of v) p

-- for a property
unfoldable pub key_of : KeyUse → Node → Emit
key_of use-of.Made q = key_made q
key_of use-of.Listed q = hands_key q
key_of use-of.Excluded q = say (excludes (key_bytes q))

-- for a declarator
abbrev pub declared_of : Declared → Node → Emit
declared_of declared.Made q = declarator_made q
declared_of (declared.Excluded root) q = declarator_excludes root q
