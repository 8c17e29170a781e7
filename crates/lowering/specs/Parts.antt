-- The parts of a node by the number of their field, and lists of nodes. Nothing here knows a kind.
-- Everything is total: where a part does not stand, `nothing`, an empty list, no text or 0 is read, and a change changes nothing.
use Rattle.std.specs.Prelude.{ℕ, zero, suc, Bool, true, false, ◌&&◌, ◌||◌, List, [], ◌∷◌, eqb}
use Rattle.tree.specs.Tree.{Node, Fields, Piece, Items}
use Rattle.tree.specs.Tree.Node.{node}
use Rattle.tree.specs.Tree.Fields.{done, absent, field}
use Rattle.tree.specs.Tree.Piece.{one, list, text, byte, mark, number}
use Rattle.tree.specs.Tree.Items.{none, hole, item}

infixr 40 ◌+++◌
-- ---- a node: its position, its kind, its fields

-- what is read where no node stands
abbrev pub nothing : Node
nothing = node 0 0 done

abbrev pub position : Node → ℕ
position (node at k fs) = at

abbrev pub kind : Node → ℕ
kind (node at k fs) = k

-- whether a node is of the kind
unfoldable pub is : ℕ → Node → Bool
is k n = eqb (kind n) k

-- ---- fields

-- field i, the bit map's bit i
unfoldable pub piece_in : Fields → ℕ → Piece
piece_in done i = number 0
piece_in (absent fs) zero = number 0
piece_in (absent fs) (suc i) = piece_in fs i
piece_in (field p fs) zero = p
piece_in (field p fs) (suc i) = piece_in fs i

unfoldable pub stands_in : Fields → ℕ → Bool
stands_in done i = false
stands_in (absent fs) zero = false
stands_in (absent fs) (suc i) = stands_in fs i
stands_in (field p fs) zero = true
stands_in (field p fs) (suc i) = stands_in fs i

unfoldable pub change_in : Fields → ℕ → (Piece → Piece) → Fields
change_in done i f = done
change_in (absent fs) zero f = absent fs
change_in (absent fs) (suc i) f = absent (change_in fs i f)
change_in (field p fs) zero f = field (f p) fs
change_in (field p fs) (suc i) f = field p (change_in fs i f)

unfoldable pub drop_in : Fields → ℕ → Fields
drop_in done i = done
drop_in (absent fs) zero = absent fs
drop_in (absent fs) (suc i) = absent (drop_in fs i)
drop_in (field q fs) zero = absent fs
drop_in (field q fs) (suc i) = field q (drop_in fs i)

abbrev pub as_node : Piece → Node
as_node (one n) = n
as_node (list is) = nothing
as_node (text bs) = nothing
as_node (byte b) = nothing
as_node (mark b) = nothing
as_node (number b) = nothing

abbrev pub as_items_of : Piece → Items
as_items_of (one n) = none
as_items_of (list is) = is
as_items_of (text bs) = none
as_items_of (byte b) = none
as_items_of (mark b) = none
as_items_of (number b) = none

abbrev pub as_text : Piece → List ℕ
as_text (one n) = []
as_text (list is) = []
as_text (text bs) = bs
as_text (byte b) = []
as_text (mark b) = []
as_text (number b) = []

-- a byte or a number
abbrev pub as_number : Piece → ℕ
as_number (one n) = 0
as_number (list is) = 0
as_number (text bs) = 0
as_number (byte b) = b
as_number (mark b) = 0
as_number (number b) = b

-- field i of a node: as a node, as a list, as text, as a number; and whether it stands
unfoldable pub node_at_of : ℕ → Node → Node
node_at_of i (node at k fs) = as_node (piece_in fs i)

unfoldable pub items_at_of : ℕ → Node → Items
items_at_of i (node at k fs) = as_items_of (piece_in fs i)

unfoldable pub text_at_of : ℕ → Node → List ℕ
text_at_of i (node at k fs) = as_text (piece_in fs i)

unfoldable pub number_at : ℕ → Node → ℕ
number_at i (node at k fs) = as_number (piece_in fs i)

unfoldable pub stands : ℕ → Node → Bool
stands i (node at k fs) = stands_in fs i

-- ---- a node with one field changed, if it stands

unfoldable pub change : ℕ → (Piece → Piece) → Node → Node
change i f (node at k fs) = node at k (change_in fs i f)

unfoldable pub on_node : (Node → Node) → Piece → Piece
on_node f (one n) = one (f n)
on_node f (list is) = list is
on_node f (text bs) = text bs
on_node f (byte b) = byte b
on_node f (mark b) = mark b
on_node f (number b) = number b

unfoldable pub on_items : (Items → Items) → Piece → Piece
on_items f (one n) = one n
on_items f (list is) = list (f is)
on_items f (text bs) = text bs
on_items f (byte b) = byte b
on_items f (mark b) = mark b
on_items f (number b) = number b

abbrev pub change_node : ℕ → (Node → Node) → Node → Node
change_node i f n = change i (on_node f) n

abbrev pub change_items : ℕ → (Items → Items) → Node → Node
change_items i f n = change i (on_items f) n

-- a node without field i
unfoldable pub without : ℕ → Node → Node
without i (node at k fs) = node at k (drop_in fs i)

-- ---- lists of nodes

abbrev pub only : Node → Items
only n = item n none

unfoldable pub ◌+++◌ : Items → Items → Items
none +++ js = js
hole is +++ js = hole (is +++ js)
item n is +++ js = item n (is +++ js)

unfoldable pub each : (Node → Node) → Items → Items
each f none = none
each f (hole is) = hole (each f is)
each f (item n is) = item (f n) (each f is)

-- the lists of all items, one after another; a hole has none
unfoldable pub gather : (Node → Items) → Items → Items
gather f none = none
gather f (hole is) = gather f is
gather f (item n is) = f n +++ gather f is

unfoldable pub any : (Node → Bool) → Items → Bool
any f none = false
any f (hole is) = any f is
any f (item n is) = f n || any f is

-- the first of two numbers that is not 0
unfoldable pub or_else : ℕ → ℕ → ℕ
or_else zero n = n
or_else (suc m) n = suc m

-- the first number of an item that is not 0, in the order of the list; 0 if there is none
unfoldable pub first : (Node → ℕ) → Items → ℕ
first f none = 0
first f (hole is) = first f is
first f (item n is) = or_else (f n) (first f is)

unfoldable pub is_empty : Items → Bool
is_empty none = true
is_empty (hole is) = false
is_empty (item n is) = false

-- ---- lists of numbers: texts and paths

-- whether two of them are one
unfoldable pub same_numbers : List ℕ → List ℕ → Bool
same_numbers [] [] = true
same_numbers [] (b ∷ q) = false
same_numbers (a ∷ p) [] = false
same_numbers (a ∷ p) (b ∷ q) = eqb a b && same_numbers p q
