-- What is done for an assignment with an object rest below its target. c is the place of the assignment.
use Rattle.std.specs.Prelude.{ℕ, suc, cond, [], ◌∷◌}
use Rattle.tree.specs.Tree.{Node, Piece, wide_bytes}
use Rattle.tree.specs.Tree.Node.{node}
use Rattle.tree.specs.Tree.Fields.{done, field}
use Rattle.lowering.specs.Parts.{position, is_empty}
use Rattle.lowering.specs.Made.{temporary, assign, reference}
use Rattle.lowering.specs.Patterns.{rest}
use Rattle.lowering.specs.Rests.{rest_value}
use Rattle.direct.specs.Events.{Place, Emit, puts, context_of, emits}
use Rattle.direct.specs.Emit.{say, ◌▷◌, inner}
use Rattle.direct.specs.Views.{View, says_cell, emits_view}
use Rattle.direct.specs.Views.View.{taking}
use Rattle.direct.specs.Objects.{replaced_in, over_replaced, over_parts}
use Rattle.direct.specs.Handed.{places_in, parts_count, hands_top, hands_nested}

-- 27 Assignment(op= left right)
abbrev pub assignment_at : ℕ → ℕ → Node → Node → Node
assignment_at at op p x = node at 27 (field (Piece.byte op) (field (Piece.one p) (field (Piece.one x) done)))

-- the head of one
abbrev pub assign_head : ℕ → Emit
assign_head op = say (puts (27 ∷ 7 ∷ op ∷ []))

module _ (c : Place) where
  -- the rest of the object p, read from the temporary of its value
  unfoldable pub emits_rest_of : Node → Emit
  emits_rest_of p = emits (inner c) (assign (rest p) (rest_value (context_of c) p (temporary [] 3 (position p))))

  -- the assignment of an object from the temporary in its place
  unfoldable pub emits_inner : Node → Emit
  emits_inner o = emits (inner c) (assign o (reference (context_of c) o))

  -- objects with rest replaced, then an assignment for each; s writes what is assigned
  unfoldable pub emits_nest : View → ℕ → Node → Emit → Emit
  emits_nest v op p s =
      hands_nested v c.mark p
      ▷ say (puts (28 ∷ 1 ∷ wide_bytes (suc (places_in v p))))
      ▷ assign_head op ▷ emits_view (inner c) v p ▷ s
      ▷ over_replaced emits_inner v p

-- the target p of an assignment at c without its rest, its parts replaced, from the temporary of its value
unfoldable pub emits_target : Place → Node → Emit
emits_target c p =
    cond (is_empty (replaced_in taking p)) (assign_head 1 ▷ emits_view (inner c) taking p ▷ says_cell 3 (position p))
    (emits_nest (inner c) taking 1 p (says_cell 3 (position p)))

-- how long the sequence is: value, target, parts, rest and, if its value is used, the read
unfoldable pub top_count : Place → Node → ℕ
top_count c p = suc (suc (suc (cond c.statement (parts_count p) (suc (parts_count p)))))

-- the target is an object with rest; x writes what is assigned
unfoldable pub emits_top : Place → Node → Emit → Emit
emits_top c p x =
    hands_top c.root c.mark p
    ▷ say (puts (28 ∷ 1 ∷ wide_bytes (top_count c p)))
    ▷ assign_head 1 ▷ says_cell 3 (position p) ▷ x
    ▷ emits_target c p
    ▷ over_parts (emits_inner c) p
    ▷ emits_rest_of c p
    ▷ cond c.statement (say []) (says_cell 3 (position p))
