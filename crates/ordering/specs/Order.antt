-- The order over whole trees, by recursion on both.
use Rattle.std.specs.Prelude.{ℕ, List, [], ◌∷◌, Bool, false, cond, eqb}
use Rattle.tree.specs.Tree.{Node, Fields, Piece, Items, map_of}
use Rattle.tree.specs.Tree.Node.{node}
use Rattle.tree.specs.Tree.Fields.{done, absent, field}
use Rattle.tree.specs.Tree.Piece.{one, list, text, byte, mark, number}
use Rattle.tree.specs.Tree.Items.{none, hole, item}
use Rattle.rewritten.specs.Events.{Event}
use Rattle.rewritten.specs.Events.Event.{begins, ends, opens, closes}
use Rattle.std.specs.declared.cmp.Ordering.{Ordering}
use Rattle.ordering.specs.Verdicts.{or_else, by_value, by_text, lexical}
use Rattle.std.specs.declared.cmp.Ordering.TheVariants.{Less, Equal, Greater}
use Rattle.equal.specs.Canonical.{canonical}
use Rattle.equal.specs.Met.{meet, place}

-- ---- trees whose temporaries have their places

unfoldable mutual
  -- kind, bit map, fields
  pub compare : Node → Node → Ordering
  compare (node at k fs) (node at' k' gs) = or_else (by_value k k') (or_else (by_value (map_of fs) (map_of gs)) (compare_fields fs gs))

  -- from bit 0, where the bit maps are the same; so the same fields stand
  pub compare_fields : Fields → Fields → Ordering
  compare_fields done gs = Equal
  compare_fields (absent fs) done = Equal
  compare_fields (absent fs) (absent gs) = compare_fields fs gs
  compare_fields (absent fs) (field q gs) = Less  -- not met
  compare_fields (field p fs) done = Greater  -- not met
  compare_fields (field p fs) (absent gs) = Greater  -- not met
  compare_fields (field p fs) (field q gs) = or_else (compare_piece p q) (compare_fields fs gs)

  -- what is not of one sort (it is, in a tree that was read) goes by the sort
  pub compare_piece : Piece → Piece → Ordering
  compare_piece (one m) (one n) = compare m n
  compare_piece (one m) (list js) = Less
  compare_piece (one m) (text cs) = Less
  compare_piece (one m) (byte c) = Less
  compare_piece (one m) (mark v) = Less
  compare_piece (one m) (number v) = Less
  compare_piece (list is) (one n) = Greater
  compare_piece (list is) (list js) = compare_items is js
  compare_piece (list is) (text cs) = Less
  compare_piece (list is) (byte c) = Less
  compare_piece (list is) (mark v) = Less
  compare_piece (list is) (number v) = Less
  compare_piece (text bs) (one n) = Greater
  compare_piece (text bs) (list js) = Greater
  compare_piece (text bs) (text cs) = by_text bs cs
  compare_piece (text bs) (byte c) = Less
  compare_piece (text bs) (mark v) = Less
  compare_piece (text bs) (number v) = Less
  compare_piece (byte b) (one n) = Greater
  compare_piece (byte b) (list js) = Greater
  compare_piece (byte b) (text cs) = Greater
  compare_piece (byte b) (byte c) = by_value b c
  compare_piece (byte b) (mark v) = Less
  compare_piece (byte b) (number v) = Less
  compare_piece (mark u) (one n) = Greater
  compare_piece (mark u) (list js) = Greater
  compare_piece (mark u) (text cs) = Greater
  compare_piece (mark u) (byte c) = Greater
  compare_piece (mark u) (mark v) = by_value u v
  compare_piece (mark u) (number v) = Less
  compare_piece (number u) (one n) = Greater
  compare_piece (number u) (list js) = Greater
  compare_piece (number u) (text cs) = Greater
  compare_piece (number u) (byte c) = Greater
  compare_piece (number u) (mark v) = Greater
  compare_piece (number u) (number v) = by_value u v

  -- item by item; the end before a hole, a hole (kind 0) before a node
  pub compare_items : Items → Items → Ordering
  compare_items none none = Equal
  compare_items none (hole js) = Less
  compare_items none (item n js) = Less
  compare_items (hole is) none = Greater
  compare_items (hole is) (hole js) = compare_items is js
  compare_items (hole is) (item n js) = Less
  compare_items (item m is) none = Greater
  compare_items (item m is) (hole js) = Greater
  compare_items (item m is) (item n js) = or_else (compare m n) (compare_items is js)

-- ---- the order

unfoldable pub order : Node → Node → Ordering
order m n = compare (canonical m) (canonical n)

-- ---- the first difference of two tours

-- an event as three numbers and a text: the end of a list before a hole, a hole before a node; positions and counts play no part
pub record Key : Type 0 where
  pub rank : ℕ
  pub first : ℕ
  pub second : ℕ
  pub text : List ℕ

abbrev pub numbers : ℕ → ℕ → ℕ → Key
numbers r a b = record { rank = r; first = a; second = b; text = [] }

abbrev pub key_of : Event → Key
key_of closes = numbers 0 0 0
key_of Event.hole = numbers 1 0 0
key_of (begins at kind map) = numbers 2 kind map
key_of (opens n) = numbers 3 0 0
key_of (Event.text bs) = record { rank = 4; first = 0; second = 0; text = bs }
key_of (Event.byte b) = numbers 5 b 0
key_of (Event.mark n) = numbers 6 n 0
key_of (Event.number n) = numbers 7 n 0
key_of ends = numbers 8 0 0

unfoldable pub by_key_of : Key → Key → Ordering
by_key_of k l = or_else (by_value k.rank l.rank) (or_else (by_value k.first l.first) (or_else (by_value k.second l.second) (by_text k.text l.text)))

unfoldable pub by_event : Event → Event → Ordering
by_event e f = by_key_of (key_of e) (key_of f)

unfoldable pub first_difference : List Event → List Event → Ordering
first_difference es fs = lexical by_event es fs

-- ---- events with the temporaries' places; t: the event is the first of a temporary

abbrev pub opens_temporary : Event → Bool
opens_temporary (begins at kind map) = eqb kind 20
opens_temporary ends = false
opens_temporary (opens n) = false
opens_temporary closes = false
opens_temporary Event.hole = false
opens_temporary (Event.text bs) = false
opens_temporary (Event.byte b) = false
opens_temporary (Event.mark n) = false
opens_temporary (Event.number n) = false

abbrev pub met_by : Bool → List ℕ → Event → List ℕ
met_by t ms (begins at kind map) = ms
met_by t ms ends = ms
met_by t ms (opens n) = ms
met_by t ms closes = ms
met_by t ms Event.hole = ms
met_by t ms (Event.text bs) = ms
met_by t ms (Event.byte b) = ms
met_by t ms (Event.mark n) = ms
met_by t ms (Event.number n) = cond t (meet ms n) ms

abbrev pub placed_by : Bool → List ℕ → Event → Event
placed_by t ms (begins at kind map) = begins at kind map
placed_by t ms ends = ends
placed_by t ms (opens n) = opens n
placed_by t ms closes = closes
placed_by t ms Event.hole = Event.hole
placed_by t ms (Event.text bs) = Event.text bs
placed_by t ms (Event.byte b) = Event.byte b
placed_by t ms (Event.mark n) = Event.mark n
placed_by t ms (Event.number n) = Event.number (cond t (place ms n) n)

unfoldable pub placed_all : Bool → List ℕ → List Event → List Event
placed_all t ms [] = []
placed_all t ms (e ∷ es) = placed_by t ms e ∷ placed_all (opens_temporary e) (met_by t ms e) es
