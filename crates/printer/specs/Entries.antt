-- What is kept of a tree: an entry for each thing that is met in byte order. A node's has the node's byte, which may stand behind
-- its other fields; a mark or a byte prints nothing.
use Rattle.std.specs.Prelude.{ℕ, zero, suc, List, [], ◌∷◌, ◌++◌, Bool, length}
use Rattle.tree.specs.Grammar.{among}
use Rattle.tree.specs.Tree.{Node, Fields, Piece, Items, map_of, count}
use Rattle.tree.specs.Tree.Fields.{done, absent, field}
use Rattle.tree.specs.Tree.Piece.{one, list, byte, mark}
use Rattle.tree.specs.Tree.Items.{none, item}
use Rattle.rewritten.specs.Events.{Event}
use Rattle.rewritten.specs.Events.Event.{begins}
use Rattle.printer.specs.Text.{note_of}

pub data Entry : Type 0 where
  node : ℕ → ℕ → ℕ → Entry  -- kind, bit map, byte
  ends : Entry  -- the node
  opens : ℕ → Entry  -- a list of so many items
  closes : Entry  -- the list
  hole : Entry
  text : List ℕ → Entry
  quiet : Entry  -- a mark or a byte
  number : ℕ → Entry

unfoldable mutual
  pub entries : Node → List Entry
  entries (Node.node at kind fs) = Entry.node kind (map_of fs) (note_of fs) ∷ (entries_fields fs ++ (Entry.ends ∷ []))

  pub entries_fields : Fields → List Entry
  entries_fields done = []
  entries_fields (absent fs) = entries_fields fs
  entries_fields (field p fs) = entries_piece p ++ entries_fields fs

  pub entries_piece : Piece → List Entry
  entries_piece (one n) = entries n
  entries_piece (list is) = Entry.opens (count is) ∷ (entries_items is ++ (Entry.closes ∷ []))
  entries_piece (Piece.text bs) = Entry.text bs ∷ []
  entries_piece (byte b) = Entry.quiet ∷ []
  entries_piece (mark n) = Entry.quiet ∷ []
  entries_piece (Piece.number n) = Entry.number n ∷ []

  pub entries_items : Items → List Entry
  entries_items none = []
  entries_items (Items.hole is) = Entry.hole ∷ entries_items is
  entries_items (item n is) = entries n ++ entries_items is

-- ---- they are made in a pass over the events: with the places of what is open among them, the innermost first

pub record Made : Type 0 where
  pub open_places : List ℕ
  pub made : List Entry

abbrev pub outer : List ℕ → List ℕ
outer [] = []
outer (i ∷ is) = is

-- a node's byte
abbrev pub with_byte : ℕ → Entry → Entry
with_byte b (Entry.node kind map note) = Entry.node kind map b
with_byte b Entry.ends = Entry.ends
with_byte b (Entry.opens n) = Entry.opens n
with_byte b Entry.closes = Entry.closes
with_byte b Entry.hole = Entry.hole
with_byte b (Entry.text bs) = Entry.text bs
with_byte b Entry.quiet = Entry.quiet
with_byte b (Entry.number n) = Entry.number n

unfoldable pub byte_at_place : List Entry → ℕ → ℕ → List Entry
byte_at_place [] i b = []
byte_at_place (e ∷ es) zero b = with_byte b e ∷ es
byte_at_place (e ∷ es) (suc i) b = e ∷ byte_at_place es i b

-- the byte of the innermost
abbrev pub byte_inner : List ℕ → List Entry → ℕ → List Entry
byte_inner [] es b = es
byte_inner (i ∷ is) es b = byte_at_place es i b

abbrev pub more : Made → Entry → Made
more s e = record { open_places = s.open_places; made = s.made ++ (e ∷ []) }

abbrev pub opened : Made → Entry → Made
opened s e = record { open_places = length s.made ∷ s.open_places; made = s.made ++ (e ∷ []) }

abbrev pub closed : Made → Entry → Made
closed s e = record { open_places = outer s.open_places; made = s.made ++ (e ∷ []) }

unfoldable pub collect : Made → Event → Made
collect s (begins at kind map) = opened s (Entry.node kind map 0)
collect s Event.ends = closed s Entry.ends
collect s (Event.opens n) = opened s (Entry.opens n)
collect s Event.closes = closed s Entry.closes
collect s Event.hole = more s Entry.hole
collect s (Event.text bs) = more s (Entry.text bs)
collect s (Event.byte b) = record { open_places = s.open_places; made = byte_inner s.open_places s.made b ++ (Entry.quiet ∷ []) }
collect s (Event.mark n) = more s Entry.quiet
collect s (Event.number n) = more s (Entry.number n)

-- ---- leaves: nodes of texts and bytes alone, whose own words are none. A Reference, a Binding, a StaticKey, a Literal

unfoldable pub is_leaf_of : ℕ → Bool
is_leaf_of kind = among (18 ∷ 19 ∷ 22 ∷ 38 ∷ []) kind
