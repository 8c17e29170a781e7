-- A tree as the list of what is met in byte order.
use Rattle.std.specs.Prelude.{ℕ, List, [], ◌∷◌, ◌++◌}
use Rattle.tree.specs.Tree.{Node, Fields, Piece, Items, map_of, count}
use Rattle.tree.specs.Tree.Node.{node}
use Rattle.tree.specs.Tree.Fields.{done, absent, field}
use Rattle.tree.specs.Tree.Piece.{one, list}
use Rattle.tree.specs.Tree.Items.{none, item}

pub data Event : Type 0 where
  begins : ℕ → ℕ → ℕ → Event  -- a node: position, kind, bit map
  ends : Event  -- the node
  opens : ℕ → Event  -- a list of so many items
  closes : Event  -- the list
  hole : Event
  text : List ℕ → Event
  byte : ℕ → Event
  mark : ℕ → Event
  number : ℕ → Event

unfoldable mutual
  pub events : Node → List Event
  events (node at kind fs) = begins at kind (map_of fs) ∷ (events_fields fs ++ (ends ∷ []))

  -- a field that is absent is met nowhere; the bit map tells
  pub events_fields : Fields → List Event
  events_fields done = []
  events_fields (absent fs) = events_fields fs
  events_fields (field p fs) = events_piece p ++ events_fields fs

  pub events_piece : Piece → List Event
  events_piece (one n) = events n
  events_piece (list is) = opens (count is) ∷ (events_items is ++ (closes ∷ []))
  events_piece (Piece.text bs) = text bs ∷ []
  events_piece (Piece.byte b) = byte b ∷ []
  events_piece (Piece.mark n) = mark n ∷ []
  events_piece (Piece.number n) = number n ∷ []

  pub events_items : Items → List Event
  events_items none = []
  events_items (Items.hole is) = hole ∷ events_items is
  events_items (item n is) = events n ++ events_items is
