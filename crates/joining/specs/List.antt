-- The list that a lowering hands out: its layout, and which list the bytes are. Its data are entries and the declarators of excluded keys, its bytes `list_encoded`.
use Rattle.std.specs.Prelude.{ℕ, zero, suc, ◌+◌, ◌<◌, ◌≤◌, List, [], ◌∷◌, ◌++◌, false, ltb, leb, length}
use Rattle.tree.specs.Tree.{Items, encode_piece, placed_items, marks_items}
use Rattle.tree.specs.Tree.Piece.{list}
use Rattle.tree.specs.Grammar.{declarator}
use Rattle.tree.specs.Grammar.Stage.{rewritten}
use Rattle.tree.specs.Grammar.Sort.{many}
use Rattle.tree.specs.WellFormed.{FitPiece}
use Rattle.tree.specs.Read.{Got, mapped, joined, accepted, whole, wide_at, read_list}
use Rattle.tree.specs.Read.Got.{got}
use Rattle.lowering.specs.Collect.{Entry, over}
use Rattle.equal.specs.Equal.{entry_encoded, list_encoded}
use Rattle.rewritten.specs.Pending.{node_in_of}

pub record Handed : Type 0 where
  pub entries : List Entry
  pub excluded : Items

abbrev pub entry : ℕ → Items → Entry
entry m ds = record { containing = m; declarators = ds }

abbrev pub handed : List Entry → Items → Handed
handed es ds = record { entries = es; excluded = ds }

-- ---- read

module _ (l : List ℕ) where
  -- a declarator list, its nodes of the rewritten stage and of any depth
  unfoldable pub read_declarators : ℕ → ℕ → Got Items
  read_declarators at k = read_list l (λ q j. node_in_of l declarator q j) false at k

  -- a mark and a declarator list
  unfoldable pub read_entry : ℕ → ℕ → Got Entry
  read_entry at k = accepted (ltb (wide_at l at) 65536) (mapped (entry (wide_at l at)) (read_declarators (at + 2) k))

  unfoldable pub read_entries : ℕ → ℕ → ℕ → Got (List Entry)
  read_entries zero at k = got [] at k
  read_entries (suc n) at k = joined ◌∷◌ (read_entry at k) (λ q j. read_entries n q j)

  -- a count of entries, the entries, the declarator list of excluded keys
  unfoldable pub read_parts : Got Handed
  read_parts = accepted (ltb (wide_at l 0) 65536) (joined handed (read_entries (wide_at l 0) 2 1) (λ q j. read_declarators q j))

-- the most bytes that a list has
abbrev pub longest_list : ℕ
longest_list = 16384

-- the list that the bytes are, its length and 1
unfoldable pub read_handed : List ℕ → Got Handed
read_handed l = accepted (leb (length l) longest_list) (whole l (read_parts l))

-- ---- the marks inside, in byte order; an entry's own is none of them

unfoldable pub inner_marks : Handed → List ℕ
inner_marks h = over (λ e. marks_items e.declarators) h.entries ++ marks_items h.excluded

-- ---- the same as rules

abbrev pub FitDeclarators : Items → Type 0
FitDeclarators ds = FitPiece rewritten 0 (many declarator) (list ds)

abbrev pub FitEntries : List Entry → Type 0
FitEntries [] = Unit {0}
FitEntries (e ∷ es) = (e.containing < 65536) × FitDeclarators e.declarators × FitEntries es

pub record FitHanded (h : Handed) : Type 0 where
  pub few : length h.entries < 65536
  pub entries : FitEntries h.entries
  pub excluded : FitDeclarators h.excluded
  pub short : length (list_encoded h.entries h.excluded) ≤ longest_list

-- ---- the positions that its bytes give it

unfoldable pub placed_entries : List Entry → ℕ → List Entry
placed_entries [] at = []
placed_entries (e ∷ es) at = entry e.containing (placed_items e.declarators (at + 2 + 2)) ∷ placed_entries es (at + 2 + length (encode_piece (list e.declarators)))

unfoldable pub placed_handed : Handed → Handed
placed_handed h = handed (placed_entries h.entries 2) (placed_items h.excluded (2 + length (over entry_encoded h.entries) + 2))
