-- The texts of a tree, and those that may stand in a result: those of the input, the strings of numbers that they spell, and two that
-- document 01 names.
use Rattle.std.specs.Prelude.{ℕ, ◌≡◌, List, [], ◌∷◌}
use Rattle.std.proofs.Math.Option.{some}
use Rattle.tree.specs.Tree.{Node, Fields, Piece, Items}
use Rattle.tree.specs.Tree.Node.{node}
use Rattle.lowering.specs.Numbers.{number_string}
use Rattle.lowering.specs.Collect.{Entry}

mutual
  -- a text field in it holds bs
  pub data TextIn : Node → List ℕ → Type 0 where
    in_node : {at k : ℕ} {fs : Fields} {bs : List ℕ} → TextInFields fs bs → TextIn (node at k fs) bs

  pub data TextInFields : Fields → List ℕ → Type 0 where
    first : {p : Piece} {fs : Fields} {bs : List ℕ} → TextInPiece p bs → TextInFields (Fields.field p fs) bs
    behind : {p : Piece} {fs : Fields} {bs : List ℕ} → TextInFields fs bs → TextInFields (Fields.field p fs) bs
    behind_absent : {fs : Fields} {bs : List ℕ} → TextInFields fs bs → TextInFields (Fields.absent fs) bs

  pub data TextInPiece : Piece → List ℕ → Type 0 where
    text : {bs : List ℕ} → TextInPiece (Piece.text bs) bs
    one : {n : Node} {bs : List ℕ} → TextIn n bs → TextInPiece (Piece.one n) bs
    list : {is : Items} {bs : List ℕ} → TextInItems is bs → TextInPiece (Piece.list is) bs

  pub data TextInItems : Items → List ℕ → Type 0 where
    item : {n : Node} {is : Items} {bs : List ℕ} → TextIn n bs → TextInItems (Items.item n is) bs
    later : {n : Node} {is : Items} {bs : List ℕ} → TextInItems is bs → TextInItems (Items.item n is) bs
    behind_hole : {is : Items} {bs : List ℕ} → TextInItems is bs → TextInItems (Items.hole is) bs

-- a text of a list: of its entries, or of its excluded keys
pub data TextInList : List Entry → Items → List ℕ → Type 0 where
  in_entry : {e : Entry} {es : List Entry} {ex : Items} {bs : List ℕ} → TextInItems e.declarators bs → TextInList (e ∷ es) ex bs
  in_later : {e : Entry} {es : List Entry} {ex : Items} {bs : List ℕ} → TextInList es ex bs → TextInList (e ∷ es) ex bs
  in_excluded : {ex : Items} {bs : List ℕ} → TextInItems ex bs → TextInList [] ex bs

-- it is one of the input n, or one that the rules put: the string that is promised for a number that such a text spells, the spelling of a
-- string that has none, or the name `map`
pub data Known (n : Node) : List ℕ → Type 0 where
  of_input : {bs : List ℕ} → TextIn n bs → Known n bs
  number : {w bs : List ℕ} → Known n w → number_string w ≡ some bs → Known n bs
  none : {bs : List ℕ} → bs ≡ [] → Known n bs
  map : {bs : List ℕ} → bs ≡ 109 ∷ 97 ∷ 112 ∷ [] → Known n bs
