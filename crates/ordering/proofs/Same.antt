-- Trees that compare as equal have the same bytes; and a tree compares as equal with itself without its positions.
-- Assumes nothing.
use mathlib.Core.Path.{◌≡◌, refl, sym, ap, ap₂, ◌∙◌}
use mathlib.Core.List.{List, [], ◌∷◌, ◌++◌}
use Prim.Native.Nat.{ℕ, suc, ◌+◌, ◌*◌}
use native.Mathlib.Omega.{arith}
use Rattle.tree.specs.Tree.{Node, Fields, Piece, Items, wide_bytes, map_of, count, encode, encode_fields, encode_piece, encode_items}
use Rattle.tree.specs.Tree.Node.{node}
use Rattle.tree.specs.Tree.Fields.{done, absent, field}
use Rattle.tree.specs.Tree.Piece.{one, list, text, byte, mark, number}
use Rattle.tree.specs.Tree.Items.{none, hole, item}
use Rattle.equal.specs.Renaming.{unplaced, unplaced_fields, unplaced_piece, unplaced_items}
use Rattle.equal.proofs.Unplaced.{map_unplaced}
use Rattle.std.specs.declared.cmp.Ordering.{Ordering}
use Rattle.std.specs.declared.cmp.Ordering.TheVariants.{Equal}
use Rattle.ordering.specs.Verdicts.{or_else, by_value}
use Rattle.ordering.specs.Order.{compare, compare_fields, compare_piece, compare_items}
use Rattle.std.proofs.lemmas.Cmp.{nat_cmp_total, nat_list_cmp_total, tied_itself}
use Rattle.ordering.proofs.LexicalOrder.{less_not_equal, greater_not_equal, both_equal, value_same, text_same}

abbrev joined : List ℕ → List ℕ → List ℕ
joined xs ys = xs ++ ys

nothing_stands : (fs : Fields) → map_of fs ≡ 0 → encode_fields fs ≡ []
unfolding map_of encode_fields
nothing_stands done e = refl
nothing_stands (absent fs) e = let w : 2 * map_of fs ≡ 0 = e in nothing_stands fs (omega arith)
nothing_stands (field p fs) e = let w : 1 + 2 * map_of fs ≡ 0 = e in absurd (omega arith)

mutual
  unfolding compare compare_fields compare_piece compare_items encode encode_fields encode_piece encode_items count map_of

  pub node_bytes : (m n : Node) → compare m n ≡ Equal → encode m ≡ encode n
  node_bytes (node at k fs) (node at' k' gs) e =
      let w : (by_value k k' ≡ Equal) × (or_else (by_value (map_of fs) (map_of gs)) (compare_fields fs gs) ≡ Equal) = both_equal (by_value k k') (or_else (by_value (map_of fs) (map_of gs)) (compare_fields fs gs)) e in
      let v : (by_value (map_of fs) (map_of gs) ≡ Equal) × (compare_fields fs gs ≡ Equal) = both_equal (by_value (map_of fs) (map_of gs)) (compare_fields fs gs) w.1 in
      let h : map_of fs ≡ map_of gs = value_same (map_of fs) (map_of gs) v.0 in
      ap₂ ◌∷◌ (value_same k k' w.0) (ap₂ ◌∷◌ h (fields_same fs gs h v.1))

  fields_same : (fs gs : Fields) → map_of fs ≡ map_of gs → compare_fields fs gs ≡ Equal → encode_fields fs ≡ encode_fields gs
  fields_same done gs h e = sym (nothing_stands gs (sym h))
  fields_same (absent fs) done h e = nothing_stands (absent fs) h
  fields_same (absent fs) (absent gs) h e = let w : 2 * map_of fs ≡ 2 * map_of gs = h in fields_same fs gs (omega arith) e
  fields_same (absent fs) (field q gs) h e = absurd (less_not_equal e)
  fields_same (field p fs) done h e = absurd (greater_not_equal e)
  fields_same (field p fs) (absent gs) h e = absurd (greater_not_equal e)
  fields_same (field p fs) (field q gs) h e =
      let u : 1 + 2 * map_of fs ≡ 1 + 2 * map_of gs = h in
      let w : (compare_piece p q ≡ Equal) × (compare_fields fs gs ≡ Equal) = both_equal (compare_piece p q) (compare_fields fs gs) e in
      ap₂ joined (piece_same p q w.0) (fields_same fs gs (omega arith) w.1)

  piece_same : (p q : Piece) → compare_piece p q ≡ Equal → encode_piece p ≡ encode_piece q
  piece_same (one m) (one n) e = node_bytes m n e
  piece_same (one m) (list js) e = absurd (less_not_equal e)
  piece_same (one m) (text cs) e = absurd (less_not_equal e)
  piece_same (one m) (byte c) e = absurd (less_not_equal e)
  piece_same (one m) (mark v) e = absurd (less_not_equal e)
  piece_same (one m) (number v) e = absurd (less_not_equal e)
  piece_same (list is) (one n) e = absurd (greater_not_equal e)
  piece_same (list is) (list js) e = let w = items_same is js e in ap₂ joined (ap wide_bytes w.0) w.1
  piece_same (list is) (text cs) e = absurd (less_not_equal e)
  piece_same (list is) (byte c) e = absurd (less_not_equal e)
  piece_same (list is) (mark v) e = absurd (less_not_equal e)
  piece_same (list is) (number v) e = absurd (less_not_equal e)
  piece_same (text bs) (one n) e = absurd (greater_not_equal e)
  piece_same (text bs) (list js) e = absurd (greater_not_equal e)
  piece_same (text bs) (text cs) e = ap (λ (xs : List ℕ). encode_piece (text xs)) (text_same bs cs e)
  piece_same (text bs) (byte c) e = absurd (less_not_equal e)
  piece_same (text bs) (mark v) e = absurd (less_not_equal e)
  piece_same (text bs) (number v) e = absurd (less_not_equal e)
  piece_same (byte b) (one n) e = absurd (greater_not_equal e)
  piece_same (byte b) (list js) e = absurd (greater_not_equal e)
  piece_same (byte b) (text cs) e = absurd (greater_not_equal e)
  piece_same (byte b) (byte c) e = ap (λ (x : ℕ). encode_piece (byte x)) (value_same b c e)
  piece_same (byte b) (mark v) e = absurd (less_not_equal e)
  piece_same (byte b) (number v) e = absurd (less_not_equal e)
  piece_same (mark u) (one n) e = absurd (greater_not_equal e)
  piece_same (mark u) (list js) e = absurd (greater_not_equal e)
  piece_same (mark u) (text cs) e = absurd (greater_not_equal e)
  piece_same (mark u) (byte c) e = absurd (greater_not_equal e)
  piece_same (mark u) (mark v) e = ap wide_bytes (value_same u v e)
  piece_same (mark u) (number v) e = absurd (less_not_equal e)
  piece_same (number u) (one n) e = absurd (greater_not_equal e)
  piece_same (number u) (list js) e = absurd (greater_not_equal e)
  piece_same (number u) (text cs) e = absurd (greater_not_equal e)
  piece_same (number u) (byte c) e = absurd (greater_not_equal e)
  piece_same (number u) (mark v) e = absurd (greater_not_equal e)
  piece_same (number u) (number v) e = ap wide_bytes (value_same u v e)

  items_same : (is js : Items) → compare_items is js ≡ Equal → (count is ≡ count js) × (encode_items is ≡ encode_items js)
  items_same none none e = (refl, refl)
  items_same none (hole js) e = absurd (less_not_equal e)
  items_same none (item n js) e = absurd (less_not_equal e)
  items_same (hole is) none e = absurd (greater_not_equal e)
  items_same (hole is) (hole js) e = let w = items_same is js e in (ap suc w.0, ap (λ (bs : List ℕ). 0 ∷ bs) w.1)
  items_same (hole is) (item n js) e = absurd (less_not_equal e)
  items_same (item m is) none e = absurd (greater_not_equal e)
  items_same (item m is) (hole js) e = absurd (greater_not_equal e)
  items_same (item m is) (item n js) e =
      let w : (compare m n ≡ Equal) × (compare_items is js ≡ Equal) = both_equal (compare m n) (compare_items is js) e in
      let v = items_same is js w.1 in
      (ap suc v.0, ap₂ joined (node_bytes m n w.0) v.1)

-- ---- positions play no part

two_equal : (v w : Ordering) → v ≡ Equal → w ≡ Equal → or_else v w ≡ Equal
two_equal v w e f = ap₂ or_else e f

own_value : (a : ℕ) → by_value a a ≡ Equal
own_value a = tied_itself nat_cmp_total a

mutual
  unfolding compare compare_fields compare_piece compare_items unplaced unplaced_fields unplaced_piece unplaced_items

  pub node_unplaced : (m : Node) → compare m (unplaced m) ≡ Equal
  node_unplaced (node at k fs) =
      two_equal (by_value k k) (or_else (by_value (map_of fs) (map_of (unplaced_fields fs))) (compare_fields fs (unplaced_fields fs))) (own_value k)
      (two_equal (by_value (map_of fs) (map_of (unplaced_fields fs))) (compare_fields fs (unplaced_fields fs)) (ap (by_value (map_of fs)) (map_unplaced fs) ∙ own_value (map_of fs)) (fields_unplaced fs))

  fields_unplaced : (fs : Fields) → compare_fields fs (unplaced_fields fs) ≡ Equal
  fields_unplaced done = refl
  fields_unplaced (absent fs) = fields_unplaced fs
  fields_unplaced (field p fs) = two_equal (compare_piece p (unplaced_piece p)) (compare_fields fs (unplaced_fields fs)) (piece_unplaced p) (fields_unplaced fs)

  piece_unplaced : (p : Piece) → compare_piece p (unplaced_piece p) ≡ Equal
  piece_unplaced (one n) = node_unplaced n
  piece_unplaced (list is) = items_unplaced is
  piece_unplaced (text bs) = tied_itself nat_list_cmp_total bs
  piece_unplaced (byte b) = own_value b
  piece_unplaced (mark n) = own_value n
  piece_unplaced (number n) = own_value n

  items_unplaced : (is : Items) → compare_items is (unplaced_items is) ≡ Equal
  items_unplaced none = refl
  items_unplaced (hole is) = items_unplaced is
  items_unplaced (item n is) = two_equal (compare n (unplaced n)) (compare_items is (unplaced_items is)) (node_unplaced n) (items_unplaced is)
