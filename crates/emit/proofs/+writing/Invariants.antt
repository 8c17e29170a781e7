use Prim.Native.Nat.{ℕ, ◌<◌, ◌+◌, ◌-◌, ◌*◌}
use lib.ListN.{length}
use mathlib.Core.Bool.{false}
use mathlib.Core.Path.{◌≡◌}
use Rattle.walk.specs.Whole.{place_of, GoodItems, GoodFields, Good}
use Rattle.walk.specs.Run.{going_of}
use Rattle.direct.specs.Emit.{emits_items, emits_fields}
use Rattle.tree.specs.Look.{look_items, look_fields, look_node}
use Rattle.tree.specs.Rows.{fields_in_of}
use Rattle.walk.specs.Turns.{AllSuit, told_place}
use Rattle.walk.specs.declared.views.View as views
use Rattle.walk.specs.declared.views.View.TheVariants.{Replacing, Taking}
use Rattle.walk.proofs.Emits.{good_none}
use Rattle.direct.specs.Literals as literals
use Rattle.walk.proofs.Emits as law
use Rattle.walk.proofs.ListTurns as turning
use Rattle.emit.proofs.+writing.Given as goal

-- the target without its rest is below an object that is found, so the rank goes by the view
abbrev rank-of : views.View → ℕ
rank-of Replacing = 1
rank-of Taking = 0

abbrev pub invariant-fields-loop-r : goal.invariant-fields-loop-r
invariant-fields-loop-r l = (length l.out ≡ length l.initial.out) × (length l.list ≡ length l.initial.list) × (length l.work ≡ length l.initial.work) × ((look_fields l.t (look_node l.t l.c.left) (fields_in_of l.r) l.m l.v.at).next ≡ (look_fields l.t (look_node l.t l.c.left) (fields_in_of l.row) l.map l.initial.v.at).next) × (GoodFields l.t (look_node l.t l.c.left) (Good l.t l.c.left) l.l (fields_in_of l.row) l.map l.initial.v.at → GoodFields l.t (look_node l.t l.c.left) (Good l.t l.c.left) l.l (fields_in_of l.r) l.m l.v.at × law.Onto (going_of l.initial.out l.initial.list l.initial.work l.initial.v) (going_of l.out l.list l.work l.v) (emits_fields l.l (place_of l.c) (look_fields l.t (look_node l.t l.c.left) (fields_in_of l.r) l.m l.v.at).value) (emits_fields l.l (place_of l.c) (look_fields l.t (look_node l.t l.c.left) (fields_in_of l.row) l.map l.initial.v.at).value))

abbrev pub decreases-fields-loop-r : goal.decreases-fields-loop-r
decreases-fields-loop-r l = l.r

abbrev pub invariant-items-loop : goal.invariant-items-loop
invariant-items-loop l = (length l.out ≡ length l.initial.out) × (length l.list ≡ length l.initial.list) × (length l.work ≡ length l.initial.work) × ((look_items l.t (look_node l.t l.c.left) l.holes (l.count - l.counter) l.v.at).next ≡ (look_items l.t (look_node l.t l.c.left) l.holes l.count l.initial.v.at).next) × (GoodItems l.t (look_node l.t l.c.left) (Good l.t l.c.left) l.l l.holes l.count l.initial.v.at → GoodItems l.t (look_node l.t l.c.left) (Good l.t l.c.left) l.l l.holes (l.count - l.counter) l.v.at × law.Onto (going_of l.initial.out l.initial.list l.initial.work l.initial.v) (going_of l.out l.list l.work l.v) (emits_items l.l (place_of l.c) (look_items l.t (look_node l.t l.c.left) l.holes (l.count - l.counter) l.v.at).value) (emits_items l.l (place_of l.c) (look_items l.t (look_node l.t l.c.left) l.holes l.count l.initial.v.at).value))

abbrev pub invariant-properties-loop-before : goal.invariant-properties-loop-before
invariant-properties-loop-before l = (length l.out ≡ length l.initial.out) × (length l.list ≡ length l.initial.list) × (length l.work ≡ length l.initial.work) × ((look_items l.t (look_node l.t l.c.left) false (l.count - l.before) l.v.at).next ≡ (look_items l.t (look_node l.t l.c.left) false l.count l.initial.v.at).next) × (l.count < 65536 → GoodItems l.t (look_node l.t l.c.left) (Good l.t l.c.left) false false l.count l.initial.v.at → GoodItems l.t (look_node l.t l.c.left) (Good l.t l.c.left) false false (l.count - l.before) l.v.at × law.Onto (going_of l.initial.out l.initial.list l.initial.work l.initial.v) (going_of l.out l.list l.work l.v) (literals.parts (place_of l.c) (look_items l.t (look_node l.t l.c.left) false (l.count - l.before) l.v.at).value) (literals.parts (place_of l.c) (look_items l.t (look_node l.t l.c.left) false l.count l.initial.v.at).value))

abbrev pub invariant-turns-loop : goal.invariant-turns-loop
invariant-turns-loop l = (length l.out ≡ length l.initial.out) × (length l.list ≡ length l.initial.list) × (length l.work ≡ length l.initial.work) × (GoodItems l.t (look_node l.t l.c.left) (Good l.t l.c.left) false l.holes l.count l.initial.v.at → AllSuit l.mode (look_items l.t (look_node l.t l.c.left) l.holes l.count l.initial.v.at).value → turning.Along l.t l.mode (told_place l.mode l.root l.c) l.c.left l.holes l.count l.initial.v.at (l.count - l.counter) l.v.at (going_of l.initial.out l.initial.list l.initial.work l.initial.v) (going_of l.out l.list l.work l.v))

abbrev pub decreases-front : goal.decreases-front
decreases-front l = 131072 * (64 * l.c.left + 36)

abbrev pub decreases-assignment : goal.decreases-assignment
decreases-assignment l = 131072 * (64 * l.c.left + 19)

abbrev pub decreases-assignment_to : goal.decreases-assignment_to
decreases-assignment_to l = 131072 * (64 * l.c.left + 42)

abbrev pub decreases-arrow : goal.decreases-arrow
decreases-arrow l = 131072 * (64 * l.c.left + 19)

abbrev pub decreases-fronts_of_items : goal.decreases-fronts_of_items
decreases-fronts_of_items l = 131072 * (64 * l.c.left + 38) + l.n

abbrev pub decreases-binding : goal.decreases-binding
decreases-binding l = 131072 * (64 * l.c.left + 44)

abbrev pub decreases-block_body : goal.decreases-block_body
decreases-block_body l = 131072 * (64 * l.c.left + 51) + l.n

abbrev pub decreases-function_body : goal.decreases-function_body
decreases-function_body l = 131072 * (64 * l.c.left + 43) + l.n

abbrev pub decreases-catch_clause : goal.decreases-catch_clause
decreases-catch_clause l = 131072 * (64 * l.c.left + 19)

abbrev pub decreases-deep_array : goal.decreases-deep_array
decreases-deep_array l = 131072 * (64 * l.c.left + 32)

abbrev pub decreases-deep_object : goal.decreases-deep_object
decreases-deep_object l = 131072 * (64 * l.c.left + 32)

abbrev pub decreases-declaration : goal.decreases-declaration
decreases-declaration l = 131072 * (64 * l.c.left + 19)

abbrev pub decreases-deep : goal.decreases-deep
decreases-deep l = 131072 * (64 * l.c.left + 33)

abbrev pub decreases-declaring_head : goal.decreases-declaring_head
decreases-declaring_head l = 131072 * (64 * l.c.left + 18)

abbrev pub decreases-declarator : goal.decreases-declarator
decreases-declarator l = 131072 * (64 * l.c.left + 44)

abbrev pub decreases-arrow_body : goal.decreases-arrow_body
decreases-arrow_body l = 131072 * (64 * l.c.left + 44) + l.n

abbrev pub decreases-excluded_key : goal.decreases-excluded_key
decreases-excluded_key l = 131072 * (64 * l.c.left + 44)

abbrev pub decreases-found_object : goal.decreases-found_object
decreases-found_object l = 131072 * (64 * l.c.left + 31)

abbrev pub decreases-fields : goal.decreases-fields
decreases-fields l = 131072 * (64 * l.c.left + 50)

abbrev pub decreases-function : goal.decreases-function
decreases-function l = 131072 * (64 * l.c.left + 19)

abbrev pub decreases-moved_out : goal.decreases-moved_out
decreases-moved_out l = 131072 * (64 * l.c.left + 43)

abbrev pub decreases-given_value : goal.decreases-given_value
decreases-given_value l = 131072 * (64 * l.c.left + 28)

abbrev pub decreases-loop_head : goal.decreases-loop_head
decreases-loop_head l = 131072 * (64 * l.c.left + 19)

abbrev pub decreases-item : goal.decreases-item
decreases-item l = 131072 * (64 * l.c.left + 47)

abbrev pub decreases-items : goal.decreases-items
decreases-items l = 131072 * (64 * l.c.left + 48)

abbrev pub decreases-key : goal.decreases-key
decreases-key l = 131072 * (64 * l.c.left + 28)

abbrev pub decreases-keys : goal.decreases-keys
decreases-keys l = 131072 * (64 * l.c.left + 26)

abbrev pub decreases-key_value : goal.decreases-key_value
decreases-key_value l = 131072 * (64 * l.c.left + 44)

abbrev pub decreases-literal : goal.decreases-literal
decreases-literal l = 131072 * (64 * l.c.left + 19)

abbrev pub decreases-lowered : goal.decreases-lowered
decreases-lowered l = 131072 * (64 * l.c.left + 35)

abbrev pub decreases-fronts_of_pattern : goal.decreases-fronts_of_pattern
decreases-fronts_of_pattern l = 131072 * (64 * l.c.left + 37)

abbrev pub decreases-node : goal.decreases-node
decreases-node l = 131072 * (64 * l.c.left + 20)

abbrev pub decreases-nested : goal.decreases-nested
decreases-nested l = 131072 * (64 * l.c.left + (29 + 10 * rank-of l.v))

abbrev pub decreases-own_pattern : goal.decreases-own_pattern
decreases-own_pattern l = 131072 * (64 * l.c.left + 29)

abbrev pub decreases-own_rest : goal.decreases-own_rest
decreases-own_rest l = 131072 * (64 * l.c.left + 29)

abbrev pub decreases-own_keys : goal.decreases-own_keys
decreases-own_keys l = 131072 * (64 * l.c.left + 30)

abbrev pub decreases-declarators : goal.decreases-declarators
decreases-declarators l = 131072 * (64 * l.c.left + 34)

abbrev pub decreases-plain : goal.decreases-plain
decreases-plain l = 131072 * (64 * l.c.left + 10)

abbrev pub decreases-object_properties : goal.decreases-object_properties
decreases-object_properties l = 131072 * (64 * l.c.left + 27)

abbrev pub decreases-view_property : goal.decreases-view_property
decreases-view_property l = 131072 * (64 * l.c.left + 44)

abbrev pub decreases-properties : goal.decreases-properties
decreases-properties l = 131072 * (64 * l.c.left + 22)

abbrev pub decreases-property : goal.decreases-property
decreases-property l = 131072 * (64 * l.c.left + 21)

abbrev pub decreases-read : goal.decreases-read
decreases-read l = 131072 * (64 * l.c.left + 27)

abbrev pub decreases-rest : goal.decreases-rest
decreases-rest l = 131072 * (64 * l.c.left + 28)

abbrev pub decreases-turns : goal.decreases-turns
decreases-turns l = 131072 * (64 * l.c.left + 46)

abbrev pub decreases-slot : goal.decreases-slot
decreases-slot l = 131072 * (64 * l.c.left + 49)

abbrev pub decreases-target_statement : goal.decreases-target_statement
decreases-target_statement l = 131072 * (64 * l.c.left + 43)

abbrev pub decreases-assigning_body : goal.decreases-assigning_body
decreases-assigning_body l = 131072 * (64 * l.c.left + 51)

abbrev pub decreases-target : goal.decreases-target
decreases-target l = 131072 * (64 * l.c.left + 30)

abbrev pub decreases-assigning_head : goal.decreases-assigning_head
decreases-assigning_head l = 131072 * (64 * l.c.left + 18)

abbrev pub decreases-top : goal.decreases-top
decreases-top l = 131072 * (64 * l.c.left + 31)

abbrev pub decreases-turn : goal.decreases-turn
decreases-turn l = 131072 * (64 * l.c.left + 45)

abbrev pub decreases-view_array : goal.decreases-view_array
decreases-view_array l = 131072 * (64 * l.c.left + 26)

abbrev pub decreases-view : goal.decreases-view
decreases-view l = 131072 * (64 * l.c.left + 27)

abbrev pub decreases-deep_value : goal.decreases-deep_value
decreases-deep_value l = 131072 * (64 * l.c.left + 44)

abbrev pub decreases-view_object : goal.decreases-view_object
decreases-view_object l = 131072 * (64 * l.c.left + 26)
