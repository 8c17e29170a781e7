-- From the walked tree to the tree and the list that are written (document 01, the last paragraph of 'Tree bytes').
use Rattle.std.specs.Prelude.{ℕ, zero, suc, ◌+◌, ◌*◌, Bool, true, false, cond, ◌&&◌, ◌||◌, List, [], ◌∷◌, ◌++◌, eqb, length}
use Rattle.tree.specs.Tree.{Node, Fields, Piece, Items, wide_bytes, count, encode_items}
use Rattle.tree.specs.Tree.Node.{node}
use Rattle.tree.specs.Tree.Fields.{done, absent, field}
use Rattle.tree.specs.Tree.Piece.{one, list, text, byte, mark, number}
use Rattle.tree.specs.Tree.Items.{none, hole, item}
use Rattle.lowering.specs.Parts.{position, is, text_at_of, number_at, is_empty, same_numbers, ◌+++◌}
use Rattle.lowering.specs.Walk.{Note, Walked, WalkedFields, WalkedPiece, WalkedItems}
use Rattle.lowering.specs.Walk.Walked.{noted}

-- what f gives for each entry, one after another
unfoldable pub over : {A B : Type 0} → (A → List B) → List A → List B
over f [] = []
over f (a ∷ rest) = f a ++ over f rest

-- ---- marks: a new statement, with mark 0, takes the next one, in byte order

-- how many new ones there are
unfoldable mutual
  pub new_in : Walked → ℕ
  new_in (noted note at k fs) = new_in_fields fs

  pub new_in_fields : WalkedFields → ℕ
  new_in_fields WalkedFields.done = 0
  new_in_fields (WalkedFields.absent fs) = new_in_fields fs
  new_in_fields (WalkedFields.field p fs) = new_in_piece p + new_in_fields fs

  pub new_in_piece : WalkedPiece → ℕ
  new_in_piece (WalkedPiece.one w) = new_in w
  new_in_piece (WalkedPiece.list is) = new_in_items is
  new_in_piece (WalkedPiece.text bs) = 0
  new_in_piece (WalkedPiece.byte b) = 0
  new_in_piece (WalkedPiece.mark zero) = 1
  new_in_piece (WalkedPiece.mark (suc m)) = 0
  new_in_piece (WalkedPiece.number b) = 0

  pub new_in_items : WalkedItems → ℕ
  new_in_items WalkedItems.none = 0
  new_in_items (WalkedItems.hole is) = new_in_items is
  new_in_items (WalkedItems.item w is) = new_in w + new_in_items is

-- the mark of a statement, where the next new one is `next`
abbrev pub marked : ℕ → ℕ → ℕ
marked next zero = next
marked next (suc m) = suc m

-- the tree without its notes, the new statements marked from `next` on
unfoldable mutual
  pub bare : ℕ → Walked → Node
  bare next (noted note at k fs) = node at k (bare_fields next fs)

  pub bare_fields : ℕ → WalkedFields → Fields
  bare_fields next WalkedFields.done = done
  bare_fields next (WalkedFields.absent fs) = absent (bare_fields next fs)
  bare_fields next (WalkedFields.field p fs) = field (bare_piece next p) (bare_fields (next + new_in_piece p) fs)

  pub bare_piece : ℕ → WalkedPiece → Piece
  bare_piece next (WalkedPiece.one w) = one (bare next w)
  bare_piece next (WalkedPiece.list is) = list (bare_items next is)
  bare_piece next (WalkedPiece.text bs) = text bs
  bare_piece next (WalkedPiece.byte b) = byte b
  bare_piece next (WalkedPiece.mark m) = mark (marked next m)
  bare_piece next (WalkedPiece.number b) = number b

  pub bare_items : ℕ → WalkedItems → Items
  bare_items next WalkedItems.none = none
  bare_items next (WalkedItems.hole is) = hole (bare_items next is)
  bare_items next (WalkedItems.item w is) = item (bare next w) (bare_items (next + new_in w) is)

-- ---- the notes in walk order, each with the mark of the containing statement (containing_statement_address)

pub record Visit : Type 0 where
  pub containing : ℕ
  pub note : Note

-- whether the lists of a node are statements directly in a Program, Block, FunctionBody, StaticBlock or Case. A Case's test is no list; the directives
-- of a FunctionBody are Literals, which have no mark, and in which nothing asks for one
unfoldable pub is_container : ℕ → Bool
is_container k = eqb k 1 || eqb k 2 || eqb k 16 || eqb k 42 || eqb k 44

-- a statement's mark is its first field
unfoldable pub mark_in : WalkedFields → ℕ
mark_in WalkedFields.done = 0
mark_in (WalkedFields.absent fs) = 0
mark_in (WalkedFields.field (WalkedPiece.one w) fs) = 0
mark_in (WalkedFields.field (WalkedPiece.list is) fs) = 0
mark_in (WalkedFields.field (WalkedPiece.text bs) fs) = 0
mark_in (WalkedFields.field (WalkedPiece.byte b) fs) = 0
mark_in (WalkedFields.field (WalkedPiece.mark m) fs) = m
mark_in (WalkedFields.field (WalkedPiece.number b) fs) = 0

-- the mark that a walked statement has so far
abbrev pub mark_of : Walked → ℕ
mark_of (noted note at k fs) = mark_in fs

-- `next` as above; m is the mark of the statement around; l says whether a list here holds containing statements
unfoldable mutual
  pub visits : ℕ → ℕ → Walked → List Visit
  visits next m (noted note at k fs) = record { containing = m; note = note } ∷ visits_fields (is_container k) next m fs

  pub visits_fields : Bool → ℕ → ℕ → WalkedFields → List Visit
  visits_fields l next m WalkedFields.done = []
  visits_fields l next m (WalkedFields.absent fs) = visits_fields l next m fs
  visits_fields l next m (WalkedFields.field p fs) = visits_piece l next m p ++ visits_fields l (next + new_in_piece p) m fs

  pub visits_piece : Bool → ℕ → ℕ → WalkedPiece → List Visit
  visits_piece l next m (WalkedPiece.one w) = visits next m w
  visits_piece l next m (WalkedPiece.list is) = visits_items l next m is
  visits_piece l next m (WalkedPiece.text bs) = []
  visits_piece l next m (WalkedPiece.byte b) = []
  visits_piece l next m (WalkedPiece.mark b) = []
  visits_piece l next m (WalkedPiece.number b) = []

  pub visits_items : Bool → ℕ → ℕ → WalkedItems → List Visit
  visits_items l next m WalkedItems.none = []
  visits_items l next m (WalkedItems.hole is) = visits_items l next m is
  visits_items l next m (WalkedItems.item w is) =
      visits next (cond l (marked next (mark_of w)) m) w ++ visits_items l (next + new_in w) m is

-- the first refusal that the walk meets, or 0
unfoldable pub first_refusal : List Visit → ℕ
first_refusal [] = 0
first_refusal (v ∷ vs) = elim (eqb v.note.refusal 0) [ true ↦ first_refusal vs | false ↦ v.note.refusal ]

-- the entries: one for each rewrite that hands something out
pub record Entry : Type 0 where
  pub containing : ℕ
  pub declarators : Items

-- a rewriting that hands out no declarators makes no entry
unfoldable pub entry_at : Visit → List Entry
entry_at v = cond (is_empty v.note.entry) [] (record { containing = v.containing; declarators = v.note.entry } ∷ [])

unfoldable pub entries : List Visit → List Entry
entries vs = over entry_at vs

-- the excluded keys
unfoldable pub excluded_in : List Visit → Items
excluded_in [] = none
excluded_in (v ∷ vs) = v.note.excluded +++ excluded_in vs

-- the temporaries in the order in which they are made. No two have one name (proofs/DistinctNames.antt)
unfoldable pub made_in_of : List Visit → Items
made_in_of [] = none
made_in_of (v ∷ vs) = v.note.made +++ made_in_of vs

-- ---- the nodes of a tree in byte order

unfoldable mutual
  pub nodes : Node → List Node
  nodes (node at k fs) = node at k fs ∷ nodes_fields fs

  pub nodes_fields : Fields → List Node
  nodes_fields done = []
  nodes_fields (absent fs) = nodes_fields fs
  nodes_fields (field p fs) = nodes_piece p ++ nodes_fields fs

  pub nodes_piece : Piece → List Node
  nodes_piece (one n) = nodes n
  nodes_piece (list is) = nodes_items is
  nodes_piece (text bs) = []
  nodes_piece (byte b) = []
  nodes_piece (mark b) = []
  nodes_piece (number b) = []

  pub nodes_items : Items → List Node
  nodes_items none = []
  nodes_items (hole is) = nodes_items is
  nodes_items (item n is) = nodes n ++ nodes_items is

-- those of the list, in its order
unfoldable pub list_nodes : List Entry → Items → List Node
list_nodes es excluded = over (λ e. nodes_items e.declarators) es ++ nodes_items excluded

-- ---- the helper mask: bit h - 1 if helper h stands in the tree

-- whether helper h stands among the nodes
unfoldable pub uses : ℕ → List Node → Bool
uses h [] = false
uses h (n ∷ ns) = (is 21 n && eqb (number_at 0 n) h) || uses h ns

-- the bits of helpers hs, the first of them worth `bit`
unfoldable pub mask_from : ℕ → List ℕ → List Node → ℕ
mask_from bit [] ns = 0
mask_from bit (h ∷ hs) ns = cond (uses h ns) bit 0 + mask_from (2 * bit) hs ns

-- the mask of a tree
unfoldable pub helper_mask : Node → ℕ
helper_mask n = mask_from 1 (1 ∷ 2 ∷ 3 ∷ 4 ∷ 5 ∷ []) (nodes n)

-- ---- numbers of temporaries: from 1, by first appearance, the tree before the list

-- what a temporary goes by until it has a number (Made)
pub record Name : Type 0 where
  pub path : List ℕ
  pub stem : ℕ
  pub place : ℕ

-- the name of a temporary that has no number yet
unfoldable pub name_of : Node → Name
name_of t = record { path = text_at_of 1 t; stem = number_at 0 t; place = position t }

-- whether two names are one
unfoldable pub same : Name → Name → Bool
same a b = eqb a.place b.place && (eqb a.stem b.stem && same_numbers a.path b.path)

-- the name of a node, if it is a temporary
unfoldable pub name_at : Node → List Name
name_at n = cond (is 20 n) (name_of n ∷ []) []

-- first appearance, of things that a test tells apart
module _ {A : Type 0} (alike : A → A → Bool) where
  -- the others
  unfoldable pub except : A → List A → List A
  except a [] = []
  except a (b ∷ bs) = cond (alike a b) (except a bs) (b ∷ except a bs)

  -- each of them once, where it appears first
  unfoldable pub distinct : List A → List A
  distinct [] = []
  distinct (a ∷ rest) = a ∷ except a (distinct rest)

  -- where it stands in the list, counted from a number on
  unfoldable pub number_in : ℕ → List A → A → ℕ
  number_in from [] a = from
  number_in from (b ∷ bs) a = cond (alike a b) from (number_in (suc from) bs a)

-- the names of a tree and a list by first appearance
unfoldable pub names_of : Node → List Entry → Items → List Name
names_of n es excluded = distinct same (over name_at (nodes n ++ list_nodes es excluded))

-- ---- what is written: each temporary with its number and its stem in place of its name

-- a temporary with the number of its name, and the stem (request 4): 20 Temporary(number+ stem=)
unfoldable pub with_number : List Name → Node → Node
with_number ns t = node (position t) 20 (field (number (number_in same 1 ns (name_of t))) (field (byte (name_of t).stem) done))

unfoldable mutual
  pub numbered : List Name → Node → Node
  numbered ns (node at k fs) = cond (eqb k 20) (with_number ns (node at k fs)) (node at k (numbered_fields ns fs))

  pub numbered_fields : List Name → Fields → Fields
  numbered_fields ns done = done
  numbered_fields ns (absent fs) = absent (numbered_fields ns fs)
  numbered_fields ns (field p fs) = field (numbered_piece ns p) (numbered_fields ns fs)

  pub numbered_piece : List Name → Piece → Piece
  numbered_piece ns (one n) = one (numbered ns n)
  numbered_piece ns (list is) = list (numbered_items ns is)
  numbered_piece ns (text bs) = text bs
  numbered_piece ns (byte b) = byte b
  numbered_piece ns (mark b) = mark b
  numbered_piece ns (number b) = number b

  pub numbered_items : List Name → Items → Items
  numbered_items ns none = none
  numbered_items ns (hole is) = hole (numbered_items ns is)
  numbered_items ns (item n is) = item (numbered ns n) (numbered_items ns is)

-- a declarator list: a count, then the nodes
unfoldable pub declarator_bytes : List Name → Items → List ℕ
declarator_bytes ns is = wide_bytes (count is) ++ encode_items (numbered_items ns is)

-- an entry: the mark, then the declarator list
unfoldable pub entry_bytes : List Name → Entry → List ℕ
entry_bytes ns e = wide_bytes e.containing ++ declarator_bytes ns e.declarators

-- the list: a count of entries, each a mark and a declarator list, then the declarator list of excluded keys
unfoldable pub list_bytes : List Name → List Entry → Items → List ℕ
list_bytes ns es excluded = wide_bytes (length es) ++ over (entry_bytes ns) es ++ declarator_bytes ns excluded
