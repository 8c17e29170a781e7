use mathlib.Core.Path.{◌≡◌}
use Prim.Native.Nat.{◌+◌, ◌-◌, ◌*◌}
use lib.ListN.{length}
use Rattle.tree.specs.Grammar.Stage.{input}
use Rattle.tree.specs.Rows.{fields_in_of}
use Rattle.tree.specs.Read.{wide_at, read_node, read_fields, read_list, read_items}
use Rattle.tree.proofs.AnswerByNumber.{answer}
use Rattle.tree.specs.Note.{noted, moved, note_items, note_fields, note_node}
use Rattle.tree.proofs.read.+fields_item_items_node_slot.Given as goal

abbrev pub invariant-fields-loop-r : goal.invariant-fields-loop-r
invariant-fields-loop-r l = (length l.notes ≡ length l.initial.notes) × (answer (read_fields l.tree input (read_node l.tree input l.left) (fields_in_of l.r) l.m l.end l.next) ≡ answer (read_fields l.tree input (read_node l.tree input l.left) (fields_in_of l.row) l.map l.at l.mark)) × (note_fields l.tree (note_node l.tree l.left) l.literal (fields_in_of l.r) l.m (noted l.notes l.end l.met) ≡ note_fields l.tree (note_node l.tree l.left) l.literal (fields_in_of l.row) l.map (noted l.initial.notes l.at l.loud))

abbrev pub decreases-fields-loop-r : goal.decreases-fields-loop-r
decreases-fields-loop-r l = l.r

abbrev pub invariant-items-loop : goal.invariant-items-loop
invariant-items-loop l = (length l.notes ≡ length l.initial.notes) × (answer (read_items l.tree (read_node l.tree input l.left l.place) l.holes (l.n - l.counter) l.end l.next) ≡ answer (read_list l.tree (read_node l.tree input l.left l.place) l.holes l.at l.mark)) × (note_items l.tree (note_node l.tree l.left) l.literal l.holes (l.n - l.counter) (noted l.notes l.end l.met) ≡ note_items l.tree (note_node l.tree l.left) l.literal l.holes (wide_at l.tree l.at) (moved l.tree 2 (noted l.initial.notes l.at l.loud)))

abbrev pub decreases-fields : goal.decreases-fields
decreases-fields l = 16 * l.left + 4

abbrev pub decreases-item : goal.decreases-item
decreases-item l = 16 * l.left + 1

abbrev pub decreases-items : goal.decreases-items
decreases-items l = 16 * l.left + 2

abbrev pub decreases-node : goal.decreases-node
decreases-node l = 16 * l.left

abbrev pub decreases-slot : goal.decreases-slot
decreases-slot l = 16 * l.left + 3
