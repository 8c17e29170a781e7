-- Renumbering keeps a tree to the grammar, if the new numbers have 16 bits; those of a canonical form do.
-- Assumes nothing.
use mathlib.Core.Path.{◌≡◌, refl, ap, subst}
use mathlib.Core.Bool.{Bool, true, false, cond}
use mathlib.Core.List.{List, [], ◌∷◌, ◌++◌}
use Prim.Native.Nat.{ℕ, suc, ◌≤◌, ◌<◌}
use native.Mathlib.Omega.{arith}
use lib.Dec.{eqb}
use lib.ListN.{length, length-append}
use Rattle.tree.specs.Tree.{Node, Fields, Piece, Items, wide_bytes, count, encode, encode_fields, encode_piece, encode_items}
use Rattle.tree.specs.Tree.Node.{node}
use Rattle.tree.specs.Grammar.{Sort, Field, Stage, root, declarator}
use Rattle.tree.specs.Grammar.Stage.{input, rewritten}
use Rattle.tree.specs.Read.{longest}
use Rattle.tree.specs.WellFormed.{byte_in, Fits, FitFields, FitPiece, FitItems}
use Rattle.lowering.specs.Collect.{Entry, over}
use Rattle.equal.specs.Canonical.{Written, numbers, numbers_fields, numbers_piece, numbers_items, renumbered, renumbered_fields, renumbered_piece, renumbered_items, place_of, canonical, numbers_list, numbers_written, each_entry, renumbered_written, canonical_written}
use Rattle.equal.specs.Equal.{entry_encoded, list_encoded}
use Rattle.equal.specs.Renaming.{Formed, FitEntries, FormedWritten}
use Rattle.equal.proofs.PlacesByAppearance.{place_most}
use Rattle.equal.proofs.Renumber.{listed}

-- ---- the grammar

module _ (stage : Stage) (f : ℕ → ℕ) (bounded : (a : ℕ) → f a < 65536) where
  byte_renumbered : (t : Bool) (p : Piece) → byte_in p ≡ byte_in (renumbered_piece f t p)
  unfolding renumbered
  byte_renumbered t (Piece.one n) = refl
  byte_renumbered t (Piece.list is) = refl
  byte_renumbered t (Piece.text bs) = refl
  byte_renumbered t (Piece.byte b) = refl
  byte_renumbered t (Piece.mark b) = refl
  byte_renumbered t (Piece.number b) = refl

  number_bounded : (t : Bool) (b : ℕ) → b < 65536 → cond t (f b) b < 65536
  number_bounded true b h = bounded b
  number_bounded false b h = h

  count_renumbered : (is : Items) → count (renumbered_items f is) ≡ count is
  unfolding count renumbered
  count_renumbered Items.none = refl
  count_renumbered (Items.hole is) = ap suc (count_renumbered is)
  count_renumbered (Items.item n is) = ap suc (count_renumbered is)

  count_bounded : (is : Items) → count is < 65536 → count (renumbered_items f is) < 65536
  count_bounded is h = let e = count_renumbered is in omega arith

  mutual
    unfolding renumbered

    pub renumbered_fits : {p : ℕ} {n : Node} → Fits stage p n → Fits stage p (renumbered f n)
    renumbered_fits (Fits.fits {k = k} u g) = Fits.fits u (fields_fit (eqb k 20) g)

    fields_fit : {b : ℕ} {ts : List Field} {fs : Fields} (t : Bool) → FitFields stage b ts fs → FitFields stage b ts (renumbered_fields f t fs)
    fields_fit t FitFields.done = FitFields.done
    fields_fit t (FitFields.absent g) = FitFields.absent (fields_fit t g)
    fields_fit t (FitFields.field {ts = ts} {p = p} {fs = fs} u g) =
        FitFields.field (piece_fits_lem t u) (subst (λ (j : ℕ). FitFields stage j ts (renumbered_fields f false fs)) (byte_renumbered t p) (fields_fit false g))

    piece_fits_lem : {b : ℕ} {s : Sort} {p : Piece} (t : Bool) → FitPiece stage b s p → FitPiece stage b s (renumbered_piece f t p)
    piece_fits_lem t (FitPiece.child g) = FitPiece.child (renumbered_fits g)
    piece_fits_lem t (FitPiece.chosen g) = FitPiece.chosen (renumbered_fits g)
    piece_fits_lem t (FitPiece.many {is = is} c g) = FitPiece.many (count_bounded is c) (items_fit g)
    piece_fits_lem t (FitPiece.gaps {is = is} c g) = FitPiece.gaps (count_bounded is c) (items_fit g)
    piece_fits_lem t (FitPiece.text c g) = FitPiece.text c g
    piece_fits_lem t (FitPiece.byte x y z) = FitPiece.byte x y z
    piece_fits_lem t (FitPiece.mark c) = FitPiece.mark c
    piece_fits_lem t (FitPiece.number {n = b} c) = FitPiece.number (number_bounded t b c)

    pub items_fit : {p : ℕ} {h : Bool} {is : Items} → FitItems stage p h is → FitItems stage p h (renumbered_items f is)
    items_fit FitItems.none = FitItems.none
    items_fit (FitItems.hole g) = FitItems.hole (items_fit g)
    items_fit (FitItems.item u g) = FitItems.item (renumbered_fits u) (items_fit g)

entries_fit : (f : ℕ → ℕ) → ((a : ℕ) → f a < 65536) → (es : List Entry) → FitEntries es → FitEntries (each_entry (λ is. renumbered_items f is) es)
unfolding each_entry
entries_fit f h [] g = tt
entries_fit f h (e ∷ es) g = (items_fit rewritten f h g.0, entries_fit f h es g.1)

-- ---- there are no more numbers than bytes

number_short : (t : Bool) (b : ℕ) → length (cond t (b ∷ []) []) ≤ 2
number_short true b = omega arith
number_short false b = omega arith

mutual
  unfolding numbers encode

  numbers_short : (n : Node) → length (numbers n) ≤ length (encode n)
  numbers_short (node at k fs) = let h = fields_short (eqb k 20) fs in omega arith

  fields_short : (t : Bool) (fs : Fields) → length (numbers_fields t fs) ≤ length (encode_fields fs)
  fields_short t Fields.done = omega arith
  fields_short t (Fields.absent fs) = fields_short t fs
  fields_short t (Fields.field p fs) =
      let g = piece_short t p in
      let h = fields_short false fs in
      omega (arith, length-append (numbers_piece t p) (numbers_fields false fs), length-append (encode_piece p) (encode_fields fs))

  piece_short : (t : Bool) (p : Piece) → length (numbers_piece t p) ≤ length (encode_piece p)
  piece_short t (Piece.one n) = numbers_short n
  piece_short t (Piece.list is) = let h = items_short is in omega arith
  piece_short t (Piece.text bs) = omega arith
  piece_short t (Piece.byte b) = omega arith
  piece_short t (Piece.mark b) = omega arith
  piece_short t (Piece.number b) = number_short t b

  items_short : (is : Items) → length (numbers_items is) ≤ length (encode_items is)
  items_short Items.none = omega arith
  items_short (Items.hole is) = let h = items_short is in omega arith
  items_short (Items.item n is) =
      let g = numbers_short n in
      let h = items_short is in
      omega (arith, length-append (numbers n) (numbers_items is), length-append (encode n) (encode_items is))

list_short : (is : Items) → length (numbers_items is) ≤ length (encode_piece (Piece.list is))
unfolding encode
list_short is = let h = items_short is in omega arith

entries_short : (es : List Entry) → length (listed es) ≤ length (over entry_encoded es)
unfolding over entry_encoded
entries_short [] = omega arith
entries_short (e ∷ es) =
    let g = list_short e.declarators in
    let h = entries_short es in
    omega (arith, length-append (numbers_items e.declarators) (listed es), length-append (wide_bytes e.containing ++ encode_piece (Piece.list e.declarators)) (over entry_encoded es))

-- ---- so the canonical form fits

longest_most : (stage : Stage) → longest stage ≤ 32768
longest_most input = omega arith
longest_most rewritten = omega arith

pub canonical_fits : (stage : Stage) (n : Node) → Formed stage n → Fits stage root (canonical n)
unfolding canonical
canonical_fits stage n w =
    renumbered_fits stage (place_of (numbers n))
    (λ a.
    let h = place_most (numbers n) a in
    let k = numbers_short n in
    let l = w.short in
    let m = longest_most stage in
    omega arith)
    w.fits

-- the same of a result
pub record FitWritten (w : Written) : Type 0 where
  pub tree : Fits rewritten root w.tree
  pub entries : FitEntries w.entries
  pub excluded : FitItems rewritten declarator false w.excluded

pub canonical_written_fits : (w : Written) → FormedWritten w → FitWritten (canonical_written w)
unfolding canonical_written renumbered_written numbers_written numbers_list list_encoded
canonical_written_fits w g =
    let f = place_of (numbers_written w) in
    let es = over entry_encoded w.entries in
    let ex = encode_piece (Piece.list w.excluded) in
    let bounded : (a : ℕ) → f a < 65536 =
    λ a.
    let h = place_most (numbers_written w) a in
    let t = numbers_short w.tree in
    let u = g.tree.short in
    let v = g.short in
    let i = entries_short w.entries in
    let j = list_short w.excluded in
    omega (
      arith,
      length-append (numbers w.tree) (listed w.entries ++ numbers_items w.excluded),
      length-append (listed w.entries) (numbers_items w.excluded),
      length-append es ex,
    ) in
    record {
      tree = renumbered_fits rewritten f bounded g.tree.fits;
      entries = entries_fit f bounded w.entries g.entries;
      excluded = items_fit rewritten f bounded g.excluded;
    }
