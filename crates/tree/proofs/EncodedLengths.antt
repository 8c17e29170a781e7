-- How many bytes nodes take at least, and how many marks there are in them.
-- Assumes nothing.
use mathlib.Core.Path.{◌≡◌}
use mathlib.Core.List.{List, [], ◌∷◌}
use Prim.Native.Nat.{ℕ, ◌+◌, ◌*◌, ◌≤◌}
use native.Mathlib.Omega.{arith}
use lib.ListN.{length, length-append}
use Rattle.tree.specs.Tree.{Node, Fields, Piece, Items, count, encode, encode_fields, encode_piece, encode_items, marks, marks_fields, marks_piece, marks_items}
use Rattle.tree.specs.Tree.Node.{node}
use Rattle.tree.specs.WellFormed.{Counts}

pub node_long : (n : Node) → 2 ≤ length (encode n)
unfolding encode
node_long (node old kind fs) = omega arith

pub count_short : (is : Items) → count is ≤ length (encode_items is)
unfolding count encode_items
count_short Items.none = omega arith
count_short (Items.hole is) = let a : count is ≤ length (encode_items is) = count_short is in omega arith
count_short (Items.item n is) = let a : count is ≤ length (encode_items is) = count_short is in omega (arith, length-append (encode n) (encode_items is), node_long n)

-- ---- each mark takes two bytes

mutual
  unfolding marks marks_fields marks_piece marks_items encode encode_fields encode_piece encode_items

  pub marks_long : (n : Node) → 2 * length (marks n) ≤ length (encode n)
  marks_long (node at k fs) = let h = fields_long fs in omega arith

  fields_long : (fs : Fields) → 2 * length (marks_fields fs) ≤ length (encode_fields fs)
  fields_long Fields.done = omega arith
  fields_long (Fields.absent fs) = fields_long fs
  fields_long (Fields.field p fs) =
      let a = piece_long p in
      let c = fields_long fs in
      omega (arith, length-append (marks_piece p) (marks_fields fs), length-append (encode_piece p) (encode_fields fs))

  piece_long : (p : Piece) → 2 * length (marks_piece p) ≤ length (encode_piece p)
  piece_long (Piece.one n) = marks_long n
  piece_long (Piece.list is) = let h = items_long is in omega arith
  piece_long (Piece.text bs) = omega arith
  piece_long (Piece.byte b) = omega arith
  piece_long (Piece.mark b) = omega arith
  piece_long (Piece.number b) = omega arith

  pub items_long : (is : Items) → 2 * length (marks_items is) ≤ length (encode_items is)
  items_long Items.none = omega arith
  items_long (Items.hole is) = let h = items_long is in omega arith
  items_long (Items.item n is) =
      let a = marks_long n in
      let c = items_long is in
      omega (arith, length-append (marks n) (marks_items is), length-append (encode n) (encode_items is))

-- marks that count up
pub counts_long : (k : ℕ) (ms : List ℕ) (j : ℕ) → Counts k ms j → j ≡ k + length ms
unfolding Counts
counts_long k [] j c = omega arith
counts_long k (m ∷ ms) j c = let h = counts_long (k + 1) ms j c.1 in omega arith
