-- Positions play no part: not in the bytes, not in the numbers of temporaries, not in renumbering or in dropping spelling.
-- Assumes nothing.
use mathlib.Core.Path.{◌≡◌, refl, sym, ap, ap₂, ◌∙◌}
use mathlib.Core.Bool.{Bool, true, false, cond, ◌&&◌}
use mathlib.Core.List.{List, [], ◌∷◌, ◌++◌}
use Prim.Native.Nat.{ℕ, zero, suc, ◌+◌, ◌*◌}
use lib.Dec.{eqb}
use lib.ListN.{length}
use Rattle.tree.specs.Tree.{Node, Fields, Piece, Items, wide_bytes, map_of, count, encode, encode_fields, encode_piece, encode_items}
use Rattle.tree.specs.Tree.Node.{node}
use Rattle.tree.specs.Tree.Fields.{done, absent, field}
use Rattle.tree.specs.Tree.Piece.{one, list, text, byte, mark, number}
use Rattle.tree.specs.Tree.Items.{none, hole, item}
use Rattle.lowering.specs.Parts.{stands_in, drop_in}
use Rattle.lowering.specs.Collect.{Entry, over}
use Rattle.equal.specs.Canonical.{Written, numbers, numbers_fields, numbers_piece, numbers_items, renumbered, renumbered_fields, renumbered_piece, renumbered_items, numbers_list, numbers_written, each_entry, renumbered_written}
use Rattle.equal.specs.Equal.{entry_encoded, list_encoded}
use Rattle.equal.specs.Unspelled.{unspelled_literal, unspelled, unspelled_fields, unspelled_piece, unspelled_items}
use Rattle.equal.specs.Renaming.{unplaced, unplaced_fields, unplaced_piece, unplaced_items, unplaced_written}
use Rattle.equal.proofs.Renumber.{written, listed, each_same, each_twice}

abbrev joined : List ℕ → List ℕ → List ℕ
joined xs ys = xs ++ ys

pub map_unplaced : (fs : Fields) → map_of (unplaced_fields fs) ≡ map_of fs
unfolding map_of unplaced
map_unplaced done = refl
map_unplaced (absent fs) = ap (λ (m : ℕ). 2 * m) (map_unplaced fs)
map_unplaced (field p fs) = ap (λ (m : ℕ). 1 + 2 * m) (map_unplaced fs)

count_unplaced : (is : Items) → count (unplaced_items is) ≡ count is
unfolding count unplaced
count_unplaced none = refl
count_unplaced (hole is) = ap suc (count_unplaced is)
count_unplaced (item n is) = ap suc (count_unplaced is)

mutual
  unfolding encode unplaced

  pub encode_unplaced : (n : Node) → encode (unplaced n) ≡ encode n
  encode_unplaced (node at k fs) = ap₂ (λ (m : ℕ) (bs : List ℕ). k ∷ m ∷ bs) (map_unplaced fs) (fields_encoded fs)

  fields_encoded : (fs : Fields) → encode_fields (unplaced_fields fs) ≡ encode_fields fs
  fields_encoded done = refl
  fields_encoded (absent fs) = fields_encoded fs
  fields_encoded (field p fs) = ap₂ joined (piece_encoded p) (fields_encoded fs)

  pub piece_encoded : (p : Piece) → encode_piece (unplaced_piece p) ≡ encode_piece p
  piece_encoded (one n) = encode_unplaced n
  piece_encoded (list is) = ap₂ joined (ap wide_bytes (count_unplaced is)) (items_encoded is)
  piece_encoded (text bs) = refl
  piece_encoded (byte b) = refl
  piece_encoded (mark b) = refl
  piece_encoded (number b) = refl

  items_encoded : (is : Items) → encode_items (unplaced_items is) ≡ encode_items is
  items_encoded none = refl
  items_encoded (hole is) = ap (λ (bs : List ℕ). 0 ∷ bs) (items_encoded is)
  items_encoded (item n is) = ap₂ joined (encode_unplaced n) (items_encoded is)

mutual
  unfolding numbers unplaced

  pub numbers_unplaced : (n : Node) → numbers (unplaced n) ≡ numbers n
  numbers_unplaced (node at k fs) = fields_numbers (eqb k 20) fs

  fields_numbers : (t : Bool) (fs : Fields) → numbers_fields t (unplaced_fields fs) ≡ numbers_fields t fs
  fields_numbers t done = refl
  fields_numbers t (absent fs) = fields_numbers t fs
  fields_numbers t (field p fs) = ap₂ joined (piece_numbers t p) (fields_numbers false fs)

  piece_numbers : (t : Bool) (p : Piece) → numbers_piece t (unplaced_piece p) ≡ numbers_piece t p
  piece_numbers t (one n) = numbers_unplaced n
  piece_numbers t (list is) = items_numbers is
  piece_numbers t (text bs) = refl
  piece_numbers t (byte b) = refl
  piece_numbers t (mark b) = refl
  piece_numbers t (number b) = refl

  items_numbers : (is : Items) → numbers_items (unplaced_items is) ≡ numbers_items is
  items_numbers none = refl
  items_numbers (hole is) = items_numbers is
  items_numbers (item n is) = ap₂ joined (numbers_unplaced n) (items_numbers is)

module _ (f : ℕ → ℕ) where
  mutual
    unfolding renumbered unplaced

    pub renumbered_unplaced : (n : Node) → renumbered f (unplaced n) ≡ unplaced (renumbered f n)
    renumbered_unplaced (node at k fs) = ap (node 0 k) (fields_renumbered (eqb k 20) fs)

    fields_renumbered : (t : Bool) (fs : Fields) → renumbered_fields f t (unplaced_fields fs) ≡ unplaced_fields (renumbered_fields f t fs)
    fields_renumbered t done = refl
    fields_renumbered t (absent fs) = ap absent (fields_renumbered t fs)
    fields_renumbered t (field p fs) = ap₂ field (piece_renumbered t p) (fields_renumbered false fs)

    piece_renumbered : (t : Bool) (p : Piece) → renumbered_piece f t (unplaced_piece p) ≡ unplaced_piece (renumbered_piece f t p)
    piece_renumbered t (one n) = ap one (renumbered_unplaced n)
    piece_renumbered t (list is) = ap list (items_renumbered is)
    piece_renumbered t (text bs) = refl
    piece_renumbered t (byte b) = refl
    piece_renumbered t (mark b) = refl
    piece_renumbered t (number b) = refl

    items_renumbered : (is : Items) → renumbered_items f (unplaced_items is) ≡ unplaced_items (renumbered_items f is)
    items_renumbered none = refl
    items_renumbered (hole is) = ap hole (items_renumbered is)
    items_renumbered (item n is) = ap₂ item (renumbered_unplaced n) (items_renumbered is)

-- ---- spelling

stands_unplaced : (fs : Fields) (i : ℕ) → stands_in (unplaced_fields fs) i ≡ stands_in fs i
unfolding stands_in unplaced
stands_unplaced done i = refl
stands_unplaced (absent fs) zero = refl
stands_unplaced (absent fs) (suc i) = stands_unplaced fs i
stands_unplaced (field p fs) zero = refl
stands_unplaced (field p fs) (suc i) = stands_unplaced fs i

dropped_unplaced : (fs : Fields) (i : ℕ) → drop_in (unplaced_fields fs) i ≡ unplaced_fields (drop_in fs i)
unfolding drop_in unplaced
dropped_unplaced done i = refl
dropped_unplaced (absent fs) zero = refl
dropped_unplaced (absent fs) (suc i) = ap absent (dropped_unplaced fs i)
dropped_unplaced (field p fs) zero = refl
dropped_unplaced (field p fs) (suc i) = ap (field (unplaced_piece p)) (dropped_unplaced fs i)

literal_unplaced : (k : ℕ) (fs : Fields) → unspelled_literal k (unplaced_fields fs) ≡ unplaced_fields (unspelled_literal k fs)
unfolding unspelled_literal
literal_unplaced k fs = rw (stands_unplaced fs 2) (go (eqb k 22 && stands_in fs 2))
  where
    go : (b : Bool) → cond b (drop_in (unplaced_fields fs) 1) (unplaced_fields fs) ≡ unplaced_fields (cond b (drop_in fs 1) fs)
    go true = dropped_unplaced fs 1
    go false = refl

mutual
  unfolding unspelled unplaced

  pub unspelled_unplaced : (n : Node) → unspelled (unplaced n) ≡ unplaced (unspelled n)
  unspelled_unplaced (node at k fs) =
      ap (node 0 k) (ap (unspelled_literal k) (fields_unspelled fs) ∙ literal_unplaced k (unspelled_fields fs))

  fields_unspelled : (fs : Fields) → unspelled_fields (unplaced_fields fs) ≡ unplaced_fields (unspelled_fields fs)
  fields_unspelled done = refl
  fields_unspelled (absent fs) = ap absent (fields_unspelled fs)
  fields_unspelled (field p fs) = ap₂ field (piece_unspelled p) (fields_unspelled fs)

  piece_unspelled : (p : Piece) → unspelled_piece (unplaced_piece p) ≡ unplaced_piece (unspelled_piece p)
  piece_unspelled (one n) = ap one (unspelled_unplaced n)
  piece_unspelled (list is) = ap list (items_unspelled is)
  piece_unspelled (text bs) = refl
  piece_unspelled (byte b) = refl
  piece_unspelled (mark b) = refl
  piece_unspelled (number b) = refl

  items_unspelled : (is : Items) → unspelled_items (unplaced_items is) ≡ unplaced_items (unspelled_items is)
  items_unspelled none = refl
  items_unspelled (hole is) = ap hole (items_unspelled is)
  items_unspelled (item n is) = ap₂ item (unspelled_unplaced n) (items_unspelled is)

-- ---- results

entries_unplaced : (es : List Entry) → over entry_encoded (each_entry unplaced_items es) ≡ over entry_encoded es
unfolding over each_entry entry_encoded unplaced
entries_unplaced [] = refl
entries_unplaced (e ∷ es) =
    ap₂ joined (ap (λ (bs : List ℕ). wide_bytes e.containing ++ bs) (piece_encoded (list e.declarators))) (entries_unplaced es)

pub each_length : (F : Items → Items) (es : List Entry) → length (each_entry F es) ≡ length es
unfolding each_entry
each_length F [] = refl
each_length F (e ∷ es) = ap suc (each_length F es)

pub list_unplaced : (es : List Entry) (excluded : Items) → list_encoded (each_entry unplaced_items es) (unplaced_items excluded) ≡ list_encoded es excluded
unfolding list_encoded unplaced
list_unplaced es excluded =
    ap₂ joined (ap wide_bytes (each_length unplaced_items es)) (ap₂ joined (entries_unplaced es) (piece_encoded (list excluded)))

listed_unplaced : (es : List Entry) → listed (each_entry unplaced_items es) ≡ listed es
unfolding over each_entry
listed_unplaced [] = refl
listed_unplaced (e ∷ es) = ap₂ joined (items_numbers e.declarators) (listed_unplaced es)

pub written_numbers_unplaced : (w : Written) → numbers_written (unplaced_written w) ≡ numbers_written w
unfolding numbers_written numbers_list unplaced_written
written_numbers_unplaced w =
    ap₂ joined (numbers_unplaced w.tree) (ap₂ joined (listed_unplaced w.entries) (items_numbers w.excluded))

pub written_renumbered_unplaced : (f : ℕ → ℕ) (w : Written) → renumbered_written f (unplaced_written w) ≡ unplaced_written (renumbered_written f w)
unfolding renumbered_written unplaced_written
written_renumbered_unplaced f w =
    let t = renumbered_unplaced f w.tree in
    let e =
    each_twice (λ is. renumbered_items f is) unplaced_items w.entries
    ∙ (each_same (λ is. renumbered_items f (unplaced_items is)) (λ is. unplaced_items (renumbered_items f is)) (items_renumbered f) w.entries
    ∙ sym (each_twice unplaced_items (λ is. renumbered_items f is) w.entries)) in
    let x = items_renumbered f w.excluded in
    λ j. written ((t) j) ((e) j) ((x) j)
