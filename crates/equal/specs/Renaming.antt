-- Trees that differ in the numbers of their temporaries, positions aside.
use Rattle.std.specs.Prelude.{ℕ, ◌≤◌, ◌≡◌, false, List, [], ◌∷◌, length}
use Rattle.tree.specs.Tree.{Node, Fields, Piece, Items, encode}
use Rattle.tree.specs.Tree.Node.{node}
use Rattle.tree.specs.Tree.Fields.{done, absent, field}
use Rattle.tree.specs.Tree.Piece.{one, list, text, byte, mark, number}
use Rattle.tree.specs.Tree.Items.{none, hole, item}
use Rattle.tree.specs.Grammar.{Stage, root, declarator}
use Rattle.tree.specs.Grammar.Stage.{rewritten}
use Rattle.tree.specs.Read.{longest}
use Rattle.tree.specs.WellFormed.{Fits, FitItems}
use Rattle.lowering.specs.Collect.{Entry}
use Rattle.lowering.proofs.Appearance.{In}
use Rattle.equal.specs.Canonical.{Written, numbers, renumbered, numbers_written, each_entry, renumbered_written}
use Rattle.equal.specs.Equal.{list_encoded}

-- f gives no two of the numbers one number
unfoldable pub KeepsApart : (ℕ → ℕ) → List ℕ → Type 0
KeepsApart f xs = (a b : ℕ) → In a xs → In b xs → f a ≡ f b → a ≡ b

-- ---- a tree without its positions, which the bytes give

unfoldable mutual
  pub unplaced : Node → Node
  unplaced (node at k fs) = node 0 k (unplaced_fields fs)

  pub unplaced_fields : Fields → Fields
  unplaced_fields done = done
  unplaced_fields (absent fs) = absent (unplaced_fields fs)
  unplaced_fields (field p fs) = field (unplaced_piece p) (unplaced_fields fs)

  pub unplaced_piece : Piece → Piece
  unplaced_piece (one n) = one (unplaced n)
  unplaced_piece (list is) = list (unplaced_items is)
  unplaced_piece (text bs) = text bs
  unplaced_piece (byte b) = byte b
  unplaced_piece (mark b) = mark b
  unplaced_piece (number b) = number b

  pub unplaced_items : Items → Items
  unplaced_items none = none
  unplaced_items (hole is) = hole (unplaced_items is)
  unplaced_items (item n is) = item (unplaced n) (unplaced_items is)

unfoldable pub unplaced_written : Written → Written
unplaced_written w =
    record { tree = unplaced w.tree; entries = each_entry unplaced_items w.entries; excluded = unplaced_items w.excluded }

-- ---- n is m with its temporaries renamed, and kept apart

pub record Renamed (m n : Node) : Type 0 where
  pub by : ℕ → ℕ
  pub apart : KeepsApart by (numbers m)
  pub same : unplaced (renumbered by m) ≡ unplaced n

-- the same of a result
pub record RenamedWritten (v w : Written) : Type 0 where
  pub by : ℕ → ℕ
  pub apart : KeepsApart by (numbers_written v)
  pub same : unplaced_written (renumbered_written by v) ≡ unplaced_written w

-- ---- trees and results that are laid out by the grammar and no longer than they may be; depth and marks are free

-- a tree as it is read, or after lowering
pub record Formed (stage : Stage) (n : Node) : Type 0 where
  pub fits : Fits stage root n
  pub short : length (encode n) ≤ longest stage

abbrev pub FitEntries : List Entry → Type 0
FitEntries [] = Unit {0}
FitEntries (e ∷ es) = FitItems rewritten declarator false e.declarators × FitEntries es

-- a list has 16,384 bytes at most
pub record FormedWritten (w : Written) : Type 0 where
  pub tree : Formed rewritten w.tree
  pub entries : FitEntries w.entries
  pub excluded : FitItems rewritten declarator false w.excluded
  pub short : length (list_encoded w.entries w.excluded) ≤ 16384
