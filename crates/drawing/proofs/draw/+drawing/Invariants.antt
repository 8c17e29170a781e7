use Rattle.std.proofs.Common.{◌≡◌, ◌+◌, ◌-◌, ◌*◌, length}
use Rattle.tree.specs.Rows.{fields_in_of}
use Rattle.drawing.specs.Draw.{draw_node, draw_items}
use Rattle.drawing.specs.Pen.{drew_items}
use Rattle.drawing.proofs.draw.+drawing.Given as goal

-- as many nodes are still to be drawn as the turns leave
abbrev pub invariant-items-loop : goal.invariant-items-loop
invariant-items-loop l = (drew_items l.out l.h.at (draw_items (draw_node l.left l.place) (l.n - l.counter) l.h.state l.h.more l.h.mark) ≡ drew_items l.initial.out l.initial.h.at (draw_items (draw_node l.left l.place) l.n l.initial.h.state l.initial.h.more l.initial.h.mark))
    × (l.h.value ≡ 0) × (length l.out ≡ length l.initial.out)

abbrev pub decreases-fields : goal.decreases-fields
decreases-fields l = 16 * l.left + (4 + length (fields_in_of l.row))

abbrev pub decreases-items : goal.decreases-items
decreases-items l = 16 * l.left + 2

abbrev pub decreases-node : goal.decreases-node
decreases-node l = 16 * l.left

abbrev pub decreases-slot : goal.decreases-slot
decreases-slot l = 16 * l.left + 3
