-- A tree without the spelling of those Literals that have a form.
use Rattle.std.specs.Prelude.{ℕ, cond, ◌&&◌, eqb}
use Rattle.tree.specs.Tree.{Node, Fields, Piece, Items}
use Rattle.tree.specs.Tree.Node.{node}
use Rattle.tree.specs.Tree.Fields.{done, absent, field}
use Rattle.tree.specs.Tree.Piece.{one, list, text, byte, mark, number}
use Rattle.tree.specs.Tree.Items.{none, hole, item}
use Rattle.lowering.specs.Parts.{stands_in, drop_in}

-- 22 Literal(sort= spelling' form'?): without its spelling, if it has a form
unfoldable pub unspelled_literal : ℕ → Fields → Fields
unspelled_literal k fs = cond (eqb k 22 && stands_in fs 2) (drop_in fs 1) fs

unfoldable mutual
  pub unspelled : Node → Node
  unspelled (node at k fs) = node at k (unspelled_literal k (unspelled_fields fs))

  pub unspelled_fields : Fields → Fields
  unspelled_fields done = done
  unspelled_fields (absent fs) = absent (unspelled_fields fs)
  unspelled_fields (field p fs) = field (unspelled_piece p) (unspelled_fields fs)

  pub unspelled_piece : Piece → Piece
  unspelled_piece (one n) = one (unspelled n)
  unspelled_piece (list is) = list (unspelled_items is)
  unspelled_piece (text bs) = text bs
  unspelled_piece (byte b) = byte b
  unspelled_piece (mark b) = mark b
  unspelled_piece (number b) = number b

  pub unspelled_items : Items → Items
  unspelled_items none = none
  unspelled_items (hole is) = hole (unspelled_items is)
  unspelled_items (item n is) = item (unspelled n) (unspelled_items is)
