-- The walk of a node as what is done to the output, in byte order: this is what the emitters are proved against.
-- A walked tree is gone over once; what a rewriting hands out is done before the node is written.
use Rattle.std.specs.Prelude.{ℕ, zero, suc, ◌+◌, min, Bool, cond, List, [], ◌∷◌, ◌++◌, eqb, length, get_or}
use Rattle.tree.specs.Tree.{Node, Items, wide_bytes, count, encode}
use Rattle.tree.specs.Tree.Items.{none, hole, item}
use Rattle.lowering.specs.Parts.{position, node_at_of, number_at, stands, is_empty}
use Rattle.lowering.specs.Made.{Context, id_of}
use Rattle.lowering.specs.Walk.{Note, Walked, WalkedFields, WalkedPiece, WalkedItems}
use Rattle.lowering.specs.Walk.Walked.{noted}
use Rattle.lowering.specs.Weight.{walked}
use Rattle.lowering.specs.Collect.{is_container, marked, mark_of}
use Rattle.sink.specs.Machine.{Event}
use Rattle.sink.specs.Machine.Event.{put, helper, temporary, new_mark, make, listed, listed_temporary, entry, excluded, excluded_temporary, declarator}

-- ---- what is done: an event of the output, or a refusal that is met

pub data Deed : Type 0 where
  does : Event → Deed
  refuses : ℕ → Deed

abbrev pub all : List Event → List Deed
all [] = []
all (e ∷ es) = does e ∷ all es

-- bytes of the tree, of the list, of the excluded declarators
abbrev pub puts : List ℕ → List Deed
puts [] = []
puts (b ∷ bs) = does (put b) ∷ puts bs

abbrev pub lists : List ℕ → List Deed
lists [] = []
lists (b ∷ bs) = does (listed b) ∷ lists bs

abbrev pub excludes : List ℕ → List Deed
excludes [] = []
excludes (b ∷ bs) = does (excluded b) ∷ excludes bs

-- ---- the cell of a temporary: a byte of the node that it stands for. A pattern has four bytes at least; stem 4 goes by a property

unfoldable pub cell : ℕ → ℕ → ℕ
cell stem at = at + get_or (0 ∷ 0 ∷ 1 ∷ 2 ∷ 0 ∷ []) stem 0

-- that of a Temporary as it stands before it has a number
unfoldable pub cell_of : Node → ℕ
cell_of t = cell (number_at 0 t) (position t)

-- its stem, which stands in its number's place until then
abbrev pub stem_of : Node → ℕ
stem_of t = number_at 0 t

-- ---- what a rewriting hands out, before a statement with the mark m

-- temporaries that stand in no list: a rewriting that hands out declarators makes its temporaries there, and stem 2 is excluded
unfoldable pub made : Items → List Deed
made none = []
made (hole ts) = made ts
made (item t ts) = cond (eqb (number_at 0 t) 2) (made ts) (does (make (cell_of t)) ∷ made ts)

-- a declarator of an entry: its temporary, and its value if it has one
unfoldable pub handed : Items → List Deed
handed none = []
handed (hole ds) = handed ds
handed (item d ds) =
    lists (5 ∷ cond (stands 1 d) 3 1 ∷ [])
    ++ (does (listed_temporary (cell_of (id_of d)) (stem_of (id_of d))) ∷ cond (stands 1 d) (lists (encode (node_at_of 1 d))) [])
    ++ handed ds

unfoldable pub entered : ℕ → Items → List Deed
entered m ds = cond (is_empty ds) [] (does (entry m (count ds)) ∷ handed ds)

unfoldable pub excluded_keys : Items → List Deed
excluded_keys none = []
excluded_keys (hole ds) = excluded_keys ds
excluded_keys (item d ds) =
    does declarator ∷ does (excluded_temporary (cell_of (id_of d)) (stem_of (id_of d))) ∷ excludes (encode (node_at_of 1 d)) ++ excluded_keys ds

unfoldable pub refused : ℕ → List Deed
refused zero = []
refused (suc n) = refuses (suc n) ∷ []

unfoldable pub hands_out : ℕ → Note → List Deed
hands_out m note =
    refused note.refusal
    ++ cond (is_empty note.entry) (made note.made) []
    ++ entered m note.entry
    ++ excluded_keys note.excluded

-- ---- the deeds of a walked tree. `next` is the mark of the next new statement, m that of the containing statement

-- marks are counted up to 65535: no result that fits has more
abbrev pub later : ℕ → ℕ → ℕ
later next zero = next
later next (suc n) = min 65535 (next + suc n)

-- one more for a new mark
unfoldable pub counted : Event → ℕ → ℕ
counted (put b) n = n
counted (helper h) n = n
counted (temporary c stem) n = n
counted new_mark n = suc n
counted (make c) n = n
counted (listed b) n = n
counted (listed_temporary c stem) n = n
counted (entry m k) n = n
counted (excluded b) n = n
counted (excluded_temporary c stem) n = n
counted declarator n = n

-- how many new statements the deeds mark
unfoldable pub new_marks : List Deed → ℕ
new_marks [] = 0
new_marks (does e ∷ ds) = counted e (new_marks ds)
new_marks (refuses r ∷ ds) = new_marks ds

-- the next mark after them
abbrev pub after : ℕ → List Deed → ℕ
after next ds = later next (new_marks ds)

-- a mark, a new one if it is 0
unfoldable pub marks : ℕ → List Deed
marks zero = does new_mark ∷ []
marks (suc m) = puts (wide_bytes (suc m))

-- the number that a Helper or a Temporary begins with
unfoldable pub number_in : WalkedFields → ℕ
number_in WalkedFields.done = 0
number_in (WalkedFields.absent fs) = 0
number_in (WalkedFields.field (WalkedPiece.one w) fs) = 0
number_in (WalkedFields.field (WalkedPiece.list is) fs) = 0
number_in (WalkedFields.field (WalkedPiece.text bs) fs) = 0
number_in (WalkedFields.field (WalkedPiece.byte b) fs) = b
number_in (WalkedFields.field (WalkedPiece.mark b) fs) = 0
number_in (WalkedFields.field (WalkedPiece.number b) fs) = b

unfoldable pub count_in : WalkedItems → ℕ
count_in WalkedItems.none = 0
count_in (WalkedItems.hole is) = suc (count_in is)
count_in (WalkedItems.item w is) = suc (count_in is)

unfoldable pub map_in : WalkedFields → ℕ
map_in WalkedFields.done = 0
map_in (WalkedFields.absent fs) = map_in fs + map_in fs
map_in (WalkedFields.field p fs) = suc (map_in fs + map_in fs)

-- 20 Temporary, 21 Helper; any other kind: kind, bit map, and what its fields do
unfoldable pub written : ℕ → ℕ → WalkedFields → List Deed → List Deed
written at k fs below =
    cond (eqb k 20) (does (temporary (cell (number_in fs) at) (number_in fs)) ∷ [])
    (cond (eqb k 21) (does (helper (number_in fs)) ∷ []) (puts (k ∷ map_in fs ∷ []) ++ below))

unfoldable mutual
  pub deeds : ℕ → ℕ → Walked → List Deed
  deeds next m (noted note at k fs) = hands_out m note ++ written at k fs (deeds_fields (is_container k) next m fs)

  pub deeds_fields : Bool → ℕ → ℕ → WalkedFields → List Deed
  deeds_fields l next m WalkedFields.done = []
  deeds_fields l next m (WalkedFields.absent fs) = deeds_fields l next m fs
  deeds_fields l next m (WalkedFields.field p fs) = deeds_piece l next m p ++ deeds_fields l (after next (deeds_piece l next m p)) m fs

  pub deeds_piece : Bool → ℕ → ℕ → WalkedPiece → List Deed
  deeds_piece l next m (WalkedPiece.one w) = deeds next m w
  deeds_piece l next m (WalkedPiece.list is) = puts (wide_bytes (count_in is)) ++ deeds_items l next m is
  deeds_piece l next m (WalkedPiece.text bs) = puts (wide_bytes (length bs) ++ bs)
  deeds_piece l next m (WalkedPiece.byte b) = does (put b) ∷ []
  deeds_piece l next m (WalkedPiece.mark b) = marks b
  deeds_piece l next m (WalkedPiece.number b) = puts (wide_bytes b)

  pub deeds_items : Bool → ℕ → ℕ → WalkedItems → List Deed
  deeds_items l next m WalkedItems.none = []
  deeds_items l next m (WalkedItems.hole is) = does (put 0) ∷ deeds_items l next m is
  deeds_items l next m (WalkedItems.item w is) =
      deeds next (cond l (marked next (mark_of w)) m) w
      ++ deeds_items l (after next (deeds next (cond l (marked next (mark_of w)) m) w)) m is

-- ---- the deeds of a node where the walk gets to it

-- what an emitter is told of the place: is it at root, is it all of an expression statement, the mark of the containing statement
pub record Place : Type 0 where
  pub root : Bool
  pub statement : Bool
  pub mark : ℕ

abbrev pub context_of : Place → Context
context_of c = record { path = []; root = c.root; statement = c.statement }

-- what is done, given the mark of the next new statement
abbrev pub Emit : Type 0
Emit = ℕ → List Deed

unfoldable pub emits : Place → Node → Emit
emits c n next = deeds next c.mark (walked (context_of c) n)
