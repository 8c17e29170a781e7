-- The joined tree as what is written while the bytes of the tree are passed over once, by what changes at each position.
use Rattle.std.specs.Prelude.{ℕ, zero, suc, ◌+◌, ◌≡◌, List, [], ◌∷◌, ◌++◌, Bool, true, false, ◌⊎◌, length}
use Rattle.tree.specs.Tree.{Node, Fields, Piece, Items, count, wide_bytes, encode, encode_piece, encode_items}
use Rattle.tree.specs.Tree.Node.{node}
use Rattle.tree.specs.Tree.Fields.{done, absent, field}
use Rattle.tree.specs.Tree.Piece.{one, list, text, byte, mark, number}
use Rattle.tree.specs.Tree.Items.{none, hole, item}
use Rattle.lowering.specs.Collect.{Entry}
use Rattle.joining.specs.Join.{is_container, before, vars}

-- at a position: `var`s of these go before the byte, of none where it stays as it is; or a count that stands there becomes another
pub data Change : Type 0 where
  behind : List Items → Change
  counted : ℕ → Change

abbrev pub keep : Change
keep = behind []

module _ (free : ℕ → ℕ) (es : List Entry) where
  unfoldable pub vars_encoded : ℕ → List Items → List ℕ
  vars_encoded i ds = encode_items (vars free es i ds none)

  -- what is written for a byte, whether the next one is passed over, and how many statements are new
  abbrev pub emits : Change → ℕ → ℕ → List ℕ
  emits (behind ds) b i = vars_encoded i ds ++ (b ∷ [])
  emits (counted n) b i = wide_bytes n

  abbrev pub skips : Change → Bool
  skips (behind ds) = false
  skips (counted n) = true

  abbrev pub given : Change → ℕ
  given (behind ds) = length ds
  given (counted n) = 0

  -- how many new statements stand in a list itself
  unfoldable pub here : Bool → Items → ℕ
  here c none = 0
  here c (hole is) = here c is
  here c (item n is) = length (before free es c n) + here c is

  module _ (ch : ℕ → Change) where
    -- what is written for the bytes from position p on, i new statements standing before; s: the first byte is passed over
    unfoldable pub written : Bool → List ℕ → ℕ → ℕ → List ℕ
    written s [] p i = []
    written true (b ∷ bs) p i = written false bs (suc p) i
    written false (b ∷ bs) p i = emits (ch p) b i ++ written (skips (ch p)) bs (suc p) (i + given (ch p))

    -- nothing changes at so many positions
    unfoldable pub Kept : ℕ → ℕ → Type 0
    Kept p zero = Unit {0}
    Kept p (suc n) = (ch p ≡ keep) × Kept (suc p) n

    -- a count n of a list at a position becomes n + m; where nothing is new its bytes may stay
    unfoldable pub Count : ℕ → ℕ → ℕ → Type 0
    Count at n m = (ch at ≡ counted (n + m)) ⊎ ((m ≡ 0) × Kept at 2)

    -- the changes are those of a tree whose first byte stands at a position: there its own are its parent's
    unfoldable mutual
      pub Agrees : ℕ → Node → Type 0
      Agrees at (node old kind fs) = (ch (suc at) ≡ keep) × AgreesFields (is_container kind) (suc (suc at)) fs

      pub AgreesFields : Bool → ℕ → Fields → Type 0
      AgreesFields c at done = Unit {0}
      AgreesFields c at (absent fs) = AgreesFields c at fs
      AgreesFields c at (field p fs) = AgreesPiece c at p × AgreesFields c (at + length (encode_piece p)) fs

      pub AgreesPiece : Bool → ℕ → Piece → Type 0
      AgreesPiece c at (one n) = (ch at ≡ keep) × Agrees at n
      AgreesPiece c at (list is) = Count at (count is) (here c is) × AgreesItems c (suc (suc at)) is
      AgreesPiece c at (text bs) = Kept at (length (encode_piece (text bs)))
      AgreesPiece c at (byte b) = Kept at 1
      AgreesPiece c at (mark m) = Kept at 2
      AgreesPiece c at (number n) = Kept at 2

      pub AgreesItems : Bool → ℕ → Items → Type 0
      AgreesItems c at none = Unit {0}
      AgreesItems c at (hole is) = (ch at ≡ keep) × AgreesItems c (suc at) is
      AgreesItems c at (item n is) = (ch at ≡ behind (before free es c n)) × Agrees at n × AgreesItems c (at + length (encode n)) is
