-- Bytes that are ASCII, and trees whose texts are.
use Rattle.std.specs.Prelude.{ℕ, ◌<◌, List, [], ◌∷◌}
use Rattle.tree.specs.Tree.{Node, Fields, Piece, Items}
use Rattle.tree.specs.Tree.Node.{node}
use Rattle.tree.specs.Tree.Fields.{done, absent, field}
use Rattle.tree.specs.Tree.Piece.{one, list, text, byte, mark, number}
use Rattle.tree.specs.Tree.Items.{none, hole, item}

abbrev pub Ascii : List ℕ → Type 0
Ascii [] = Unit {0}
Ascii (b ∷ bs) = (b < 128) × Ascii bs

unfoldable mutual
  pub AsciiNode : Node → Type 0
  AsciiNode (node at kind fs) = AsciiFields fs

  pub AsciiFields : Fields → Type 0
  AsciiFields done = Unit {0}
  AsciiFields (absent fs) = AsciiFields fs
  AsciiFields (field p fs) = AsciiPiece p × AsciiFields fs

  pub AsciiPiece : Piece → Type 0
  AsciiPiece (one n) = AsciiNode n
  AsciiPiece (list is) = AsciiItems is
  AsciiPiece (text bs) = Ascii bs
  AsciiPiece (byte b) = Unit {0}
  AsciiPiece (mark n) = Unit {0}
  AsciiPiece (number n) = Unit {0}

  pub AsciiItems : Items → Type 0
  AsciiItems none = Unit {0}
  AsciiItems (hole is) = AsciiItems is
  AsciiItems (item n is) = AsciiNode n × AsciiItems is
