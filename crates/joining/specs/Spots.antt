-- Where the statements of containers stand: the position of their list, their own, and their mark.
use Rattle.std.specs.Prelude.{ℕ, suc, ◌+◌, ◌%◌, List, [], ◌∷◌, ◌++◌, Bool, cond, eqb, ltb, length}
use Rattle.std.proofs.Math.Option.{Option, none, some}
use Rattle.tree.specs.Tree.{Node, Fields, Piece, Items, encode, encode_piece}
use Rattle.tree.specs.Tree.Node.{node}
use Rattle.tree.specs.Tree.Fields.{done, absent, field}
use Rattle.tree.specs.Tree.Piece.{one, list, text, byte, mark, number}
use Rattle.tree.specs.Tree.Items.{hole, item}
use Rattle.tree.specs.Read.{wide_at}
use Rattle.lowering.specs.Collect.{Entry}
use Rattle.joining.specs.Join.{is_container, own_mark, handed_to}
use Rattle.joining.specs.Changes.{Change}
use Rattle.joining.specs.Changes.Change.{behind, counted}

pub record Spot : Type 0 where
  pub place : ℕ
  pub statement : ℕ
  pub named : ℕ

abbrev pub spot : ℕ → ℕ → ℕ → Spot
spot p s m = record { place = p; statement = s; named = m }

abbrev pub place_of : Spot → ℕ
place_of s = s.place

abbrev pub statement_of : Spot → ℕ
statement_of s = s.statement

abbrev pub spotted : ℕ → ℕ → Option ℕ → List Spot
spotted x at none = []
spotted x at (some m) = spot x at m ∷ []

-- an item's own, in the list at x; 0 stands for a list that is no container's
unfoldable pub owned : ℕ → ℕ → Node → List Spot
owned x at n = cond (ltb 1 x) (spotted x at (own_mark n)) []

-- those of a tree whose first byte stands at a position, the last first
unfoldable mutual
  pub spots : ℕ → Node → List Spot
  spots at (node old kind fs) = spots_fields (is_container kind) (suc (suc at)) fs

  pub spots_fields : Bool → ℕ → Fields → List Spot
  spots_fields c at done = []
  spots_fields c at (absent fs) = spots_fields c at fs
  spots_fields c at (field p fs) = spots_fields c (at + length (encode_piece p)) fs ++ spots_piece c at p

  pub spots_piece : Bool → ℕ → Piece → List Spot
  spots_piece c at (one n) = spots at n
  spots_piece c at (list is) = spots_items (cond c at 0) (suc (suc at)) is
  spots_piece c at (text bs) = []
  spots_piece c at (byte b) = []
  spots_piece c at (mark m) = []
  spots_piece c at (number n) = []

  pub spots_items : ℕ → ℕ → Items → List Spot
  spots_items x at Items.none = []
  spots_items x at (hole is) = spots_items x (suc at) is
  spots_items x at (item n is) = spots_items x (at + length (encode n)) is ++ (spots at n ++ owned x at n)

-- what those with a key weigh together
unfoldable pub tally : (Spot → ℕ) → (ℕ → ℕ) → List Spot → ℕ → ℕ
tally key weight [] p = 0
tally key weight (s ∷ ss) p = cond (eqb (key s) p) (weight s.named) 0 + tally key weight ss p

-- the number of entries of a mark
abbrev pub shares : List Entry → ℕ → ℕ
shares es m = length (handed_to es m)

-- the change at a position, by how many statements are new in a list there and before a statement there
unfoldable pub change_at : List ℕ → List Entry → (ℕ → ℕ) → (ℕ → ℕ) → ℕ → Change
change_at tree es more held p =
    cond (ltb 0 (more p)) (counted ((wide_at tree p + more p) % 65536)) (behind (cond (ltb 0 (held p)) (handed_to es (wide_at tree (p + 2))) []))
