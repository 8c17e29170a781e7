-- What is handed out fits when its temporaries have their numbers. It is not walked.
-- Assumes nothing.
use mathlib.Core.Path.{◌≡◌, refl, sym, subst}
use mathlib.Core.Bool.{Bool, false}
use mathlib.Core.List.{List, [], ◌∷◌, ◌++◌}
use Prim.Native.Nat.{ℕ, ◌*◌, ◌<◌, ◌≤◌}
use native.Mathlib.Omega.{arith}
use lib.ListN.{length, length-append}
use Rattle.tree.specs.Tree.{Node, Fields, Piece, Items, count, wide_bytes, encode, encode_fields, encode_piece, encode_items}
use Rattle.tree.specs.Tree.Node.{node}
use Rattle.tree.specs.Tree.Piece.{list}
use Rattle.tree.specs.Grammar.{Sort, Field}
use Rattle.tree.specs.Grammar.Stage.{rewritten}
use Rattle.tree.specs.WellFormed.{byte_in, Fits, FitFields, FitPiece, FitItems}
use Rattle.lowering.specs.Parts.{is, text_at_of, number_at, piece_in}
use Rattle.lowering.specs.Collect.{Name, same, Entry, over, name_at, name_of, nodes, nodes_fields, nodes_piece, nodes_items, number_in, numbered, numbered_fields, numbered_piece, numbered_items, with_number}
use Rattle.equal.specs.Canonical.{each_entry}
use Rattle.equal.specs.Equal.{entry_encoded}
use Rattle.joining.specs.List.{FitDeclarators, FitEntries}
use Rattle.result.proofs.Lies.{Texts, Lies, LieFields, LiePiece, LieItems}
use Rattle.result.proofs.WrittenFits.{temporary_fits}
use Rattle.result.proofs.Bounds.{names, names_append, name_here, no_name_here}
use Rattle.result.proofs.Handing.{EntriesLie}
use Rattle.tree.proofs.EncodedLengths.{count_short}

module _ (ns : List Name) where
  -- ---- names are few

  mutual
    unfolding numbered with_number nodes encode over is

    few_names : {T : Texts} {p : ℕ} {n : Node} → Lies T p n → 5 * names (nodes n) ≤ length (encode (numbered ns n))
    few_names (Lies.lies {at = at} {k = k} {fs = fs} z t u f) =
        let c = few_fields_lem f in
        let e = no_name_here (node at k fs) t in
        let q = length-append (name_at (node at k fs)) (over name_at (nodes_fields fs)) in
        rw t (omega arith)
    few_names (Lies.named {at = at} {stem = stem} {path = path} z a b) =
        let e = name_here (node at 20 (Fields.field (Piece.number stem) (Fields.field (Piece.text path) Fields.done))) in
        let q = length-append (name_at (node at 20 (Fields.field (Piece.number stem) (Fields.field (Piece.text path) Fields.done)))) [] in
        omega arith

    few_fields_lem : {T : Texts} {b : ℕ} {ts : List Field} {fs : Fields} → LieFields T b ts fs → 5 * names (nodes_fields fs) ≤ length (encode_fields (numbered_fields ns fs))
    few_fields_lem LieFields.done = omega arith
    few_fields_lem (LieFields.absent a) = few_fields_lem a
    few_fields_lem (LieFields.needed {p = p} {fs = fs} x a) =
        let c = few_piece x in let d = few_fields_lem a in
        let e = length-append (encode_piece (numbered_piece ns p)) (encode_fields (numbered_fields ns fs)) in
        let f = names_append (nodes_piece p) (nodes_fields fs) in
        omega arith
    few_fields_lem (LieFields.given {p = p} {fs = fs} x a) =
        let c = few_piece x in let d = few_fields_lem a in
        let e = length-append (encode_piece (numbered_piece ns p)) (encode_fields (numbered_fields ns fs)) in
        let f = names_append (nodes_piece p) (nodes_fields fs) in
        omega arith

    few_piece : {T : Texts} {b d : ℕ} {s : Sort} {p : Piece} → LiePiece T b s p d → 5 * names (nodes_piece p) ≤ length (encode_piece (numbered_piece ns p))
    few_piece (LiePiece.child x) = few_names x
    few_piece (LiePiece.chosen x) = few_names x
    few_piece (LiePiece.many a) = let c = few_items a in omega arith
    few_piece (LiePiece.gaps a) = let c = few_items a in omega arith
    few_piece (LiePiece.text a) = omega arith
    few_piece (LiePiece.byte x y z) = omega arith
    few_piece (LiePiece.mark a) = omega arith
    few_piece (LiePiece.number a) = omega arith

    pub few_items : {T : Texts} {p : ℕ} {h : Bool} {is : Items} → LieItems T p h is → 5 * names (nodes_items is) ≤ length (encode_items (numbered_items ns is))
    few_items LieItems.none = omega arith
    few_items (LieItems.hole a) = let c = few_items a in omega arith
    few_items (LieItems.item {n = n} {is = is} x a) =
        let c = few_names x in let d = few_items a in
        let e = length-append (encode (numbered ns n)) (encode_items (numbered_items ns is)) in
        let f = names_append (nodes n) (nodes_items is) in
        omega arith

  -- ---- and with numbers it fits

  module _ (few : (a : Name) → number_in same 1 ns a < 65536) where
    mutual
      unfolding numbered with_number encode name_of text_at_of number_at piece_in

      number_fits : {T : Texts} {p : ℕ} {n : Node} → Lies T p n → length (encode (numbered ns n)) < 65536 → Fits rewritten p (numbered ns n)
      number_fits (Lies.lies {p = p} {at = at} {k = k} {fs = fs} z t u f) l = rw t (Fits.fits z (number_fields f (let m : length (encode (node at k (numbered_fields ns fs))) < 65536 = rw t at l in omega arith)))
      number_fits (Lies.named {p = p} {at = at} {stem = stem} {path = path} z a b) l =
          temporary_fits p at (number_in same 1 ns (record { path = path; stem = stem; place = at })) stem z a b (few (record { path = path; stem = stem; place = at }))

      number_fields : {T : Texts} {b : ℕ} {ts : List Field} {fs : Fields} → LieFields T b ts fs → length (encode_fields (numbered_fields ns fs)) < 65536 → FitFields rewritten b ts (numbered_fields ns fs)
      number_fields LieFields.done l = FitFields.done
      number_fields (LieFields.absent a) l = FitFields.absent (number_fields a l)
      number_fields (LieFields.needed {ts = ts} {p = p} {fs = fs} x a) l =
          let n = length-append (encode_piece (numbered_piece ns p)) (encode_fields (numbered_fields ns fs)) in
          let r = number_piece x (omega arith) in
          FitFields.field r.0 (subst (λ (d : ℕ). FitFields rewritten d ts (numbered_fields ns fs)) (sym r.1) (number_fields a (omega arith)))
      number_fields (LieFields.given {ts = ts} {p = p} {fs = fs} x a) l =
          let n = length-append (encode_piece (numbered_piece ns p)) (encode_fields (numbered_fields ns fs)) in
          let r = number_piece x (omega arith) in
          FitFields.field r.0 (subst (λ (d : ℕ). FitFields rewritten d ts (numbered_fields ns fs)) (sym r.1) (number_fields a (omega arith)))

      number_piece : {T : Texts} {b d : ℕ} {s : Sort} {p : Piece} → LiePiece T b s p d → length (encode_piece (numbered_piece ns p)) < 65536 → FitPiece rewritten b s (numbered_piece ns p) × (byte_in (numbered_piece ns p) ≡ d)
      number_piece (LiePiece.child x) l = (FitPiece.child (number_fits x l), refl)
      number_piece (LiePiece.chosen x) l = (FitPiece.chosen (number_fits x l), refl)
      number_piece (LiePiece.many {is = is} a) l =
          let c = count_short (numbered_items ns is) in let d : count (numbered_items ns is) < 65536 = omega arith in (FitPiece.many d (number_items a (omega arith)), refl)
      number_piece (LiePiece.gaps {is = is} a) l =
          let c = count_short (numbered_items ns is) in let d : count (numbered_items ns is) < 65536 = omega arith in (FitPiece.gaps d (number_items a (omega arith)), refl)
      number_piece {T = T} (LiePiece.text {bs = bs} a) l = let d : length bs < 65536 = omega arith in (FitPiece.text d (T.bytes bs a), refl)
      number_piece (LiePiece.byte x y z) l = (FitPiece.byte x y z, refl)
      number_piece (LiePiece.mark a) l = (FitPiece.mark a, refl)
      number_piece (LiePiece.number a) l = (FitPiece.number a, refl)

      number_items : {T : Texts} {p : ℕ} {h : Bool} {is : Items} → LieItems T p h is → length (encode_items (numbered_items ns is)) < 65536 → FitItems rewritten p h (numbered_items ns is)
      number_items LieItems.none l = FitItems.none
      number_items (LieItems.hole a) l = FitItems.hole (number_items a (omega arith))
      number_items (LieItems.item {n = n} {is = is} x a) l =
          let e = length-append (encode (numbered ns n)) (encode_items (numbered_items ns is)) in
          FitItems.item (number_fits x (omega arith)) (number_items a (omega arith))

    -- ---- declarator lists and entries

    pub declarators_fit : {T : Texts} (is : Items) → LieItems T 4 false is → length (encode_piece (list (numbered_items ns is))) < 65536 → FitDeclarators (numbered_items ns is)
    unfolding encode
    declarators_fit is a l = let c = count_short (numbered_items ns is) in let d : count (numbered_items ns is) < 65536 = omega arith in FitPiece.many d (number_items a (omega arith))

    pub entries_fit : (T : Texts) (es : List Entry) → EntriesLie T es → length (over entry_encoded (each_entry (λ is. numbered_items ns is) es)) < 65536 → FitEntries (each_entry (λ is. numbered_items ns is) es)
    unfolding each_entry over entry_encoded
    entries_fit T [] h l = tt
    entries_fit T (e ∷ es) h l =
        let a = length-append (wide_bytes e.containing ++ encode_piece (list (numbered_items ns e.declarators))) (over entry_encoded (each_entry (λ is. numbered_items ns is) es)) in
        let b = length-append (wide_bytes e.containing) (encode_piece (list (numbered_items ns e.declarators))) in
        (h.0, declarators_fit e.declarators h.1 (omega arith), entries_fit T es h.2 (omega arith))
