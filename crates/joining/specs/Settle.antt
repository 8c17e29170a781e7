-- Each entry to its statement, by the tables.
use Rattle.std.specs.Prelude.{ℕ, zero, suc, ◌+◌, ◌≡◌, List, [], ◌∷◌, Bool, true, false, get_or, Option, Some, None}
use Rattle.tree.specs.Tree.{encode_piece}
use Rattle.tree.specs.Tree.Piece.{list}
use Rattle.tree.specs.Read.{wide_at}
use Rattle.lowering.specs.Collect.{Entry}
use Rattle.joining.specs.Tables.{stored, searched}
use Rattle.joining.specs.Writing.{part}
use Rattle.joining.specs.Spots.{Spot}
use Rattle.joining.specs.declared.search.Place.{Place}

-- one more at a position of a table
unfoldable pub bumped : List ℕ → ℕ → List ℕ
bumped t i = stored t i (get_or t i 0 + 1)

-- whether every entry's mark is found, and the two tables then: how many statements are new in a list, and before a statement
pub record Settled : Type 0 where
  pub every : Bool
  pub more : List ℕ
  pub held : List ℕ

abbrev pub settled : Bool → List ℕ → List ℕ → Settled
settled b m h = record { every = b; more = m; held = h }

-- what comes of a place, if there is one
abbrev pub placed : Option Place → Settled → (Place → Settled) → Settled
placed None lost f = lost
placed (Some p) lost f = f p

module _ (tree list earlier holds before : List ℕ) (latest : ℕ) (ends : List ℕ) where
  abbrev pub place_at : ℕ → Option Place
  place_at at = searched tree earlier holds before (wide_at list at) latest

  -- so many entries from a position on
  unfoldable pub settles : ℕ → ℕ → List ℕ → List ℕ → Settled
  settles zero at more held = settled true more held
  settles (suc n) at more held =
      placed (place_at at) (settled false more held) (λ p. settles n (get_or ends at 0) (bumped more p.list) (bumped held p.statement))

-- entries that stand in the list from a position on: each has its mark, its declarators' bytes and its end
unfoldable pub Stand : List ℕ → List ℕ → ℕ → List Entry → Type 0
Stand l ends at [] = Unit {0}
Stand l ends at (e ∷ es) =
    (wide_at l at ≡ e.containing)
    × (part (at + 2) (get_or ends at 0) l ≡ encode_piece (list e.declarators))
    × Stand l ends (get_or ends at 0) es

-- the marks of statements
unfoldable pub names : List Spot → List ℕ
names [] = []
names (s ∷ ss) = s.named ∷ names ss
