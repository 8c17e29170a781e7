-- The source of a pattern: what each read gives (document 01, 'A source's first read hands out the expression, later reads the
-- temporary or name').
use Rattle.std.specs.Prelude.{ℕ, ◌≡◌, Bool, cond, not, ◌||◌, List}
use Rattle.tree.specs.Look.{look_node}
use Rattle.lowering.specs.Declarations.{is_name_of}
use Rattle.pattern.specs.declared.source.Read.{Read}
use Rattle.pattern.specs.declared.source.Read.TheVariants.{Expression, Temporary}
use Rattle.pattern.specs.declared.source.ReferenceBuilder.{ReferenceBuilder}
use Rattle.pattern.specs.declared.source.ReferenceBuilder.TheVariants.{Direct, Wanted, Held}

-- what a read gives: the expression at a place, by its levels and its position, or the temporary of a cell with its stem
pub data Given : Type 0 where
  expression : ℕ → ℕ → Given
  temporary : ℕ → ℕ → Given

-- the values of each case of the code's answer. Document 01 has no number for it: nothing is refused
abbrev pub read_values : Read → Given
read_values (Expression left at) = expression left at
read_values (Temporary cell stem) = temporary cell stem

-- before any read; a temporary is wanted if one is forced, or if the value is no name
unfoldable pub builder_of : List ℕ → ℕ → ℕ → ℕ → ℕ → Bool → ReferenceBuilder
builder_of tree left at cell stem force = cond (force || not (is_name_of (look_node tree left at).value)) (Wanted left at cell stem) (Direct left at)

-- of a temporary that is there already: its expression was handed out where its pattern stood
unfoldable pub held_in : ℕ → ℕ → ReferenceBuilder
held_in cell stem = Held cell stem

-- a read: where a temporary is wanted, the first one gives the expression and later ones the temporary; a name is always given
unfoldable pub read_of : ReferenceBuilder → Given
read_of (Direct left at) = expression left at
read_of (Wanted left at cell stem) = expression left at
read_of (Held cell stem) = temporary cell stem

-- where what was read stands
unfoldable pub place_read : Given → ℕ
place_read (expression left at) = at
place_read (temporary cell stem) = cell

unfoldable pub after_read : ReferenceBuilder → ReferenceBuilder
after_read (Direct left at) = Direct left at
after_read (Wanted left at cell stem) = Held cell stem
after_read (Held cell stem) = Held cell stem

-- the reads after the next one give what it gives
abbrev pub Settled : ReferenceBuilder → Type 0
Settled b = read_of (after_read b) ≡ read_of b

-- what is handed back for b goes on giving what b gives
abbrev pub Keeps : ReferenceBuilder → ReferenceBuilder → Type 0
Keeps b next = Settled b → Settled next × (read_of next ≡ read_of b)
