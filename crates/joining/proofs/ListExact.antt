-- list-exact: bytes are read as a list exactly if they are its bytes, it keeps to the layout, and its positions are those that the bytes give it.
-- Assumes nothing.
use Prim.Native.Nat.{ℕ, ◌+◌, ◌-◌, ◌≤◌}
use mathlib.Core.Path.{◌≡◌, refl, sym, ap, ◌∙◌}
use mathlib.Core.List.{List, [], ◌∷◌, ◌++◌, append_assoc, append-nil}
use native.Mathlib.Nat.{add-zero}
use native.Mathlib.Omega.{arith}
use lib.ListN.{length, drop, length-append, length-drop}
use borrow.Author.Tests.{lt-ltb, le-leb, eq-eqb}
use Rattle.tree.specs.Tree.{Node, Fields, Piece, Items, wide_bytes, encode, encode_fields, encode_piece, encode_items, placed_piece, placed_items, depth, depth_fields, depth_piece, depth_items}
use Rattle.tree.specs.Tree.Node.{node}
use Rattle.tree.specs.Tree.Piece.{list}
use Rattle.tree.specs.Grammar.Stage.{rewritten}
use Rattle.tree.specs.WellFormed.{Bytes}
use Rattle.tree.specs.Read.{Got, mapped, wide_at, read_field}
use Rattle.tree.specs.Read.Got.{got, refused}
use Rattle.tree.proofs.Sound.{never}
use Rattle.tree.proofs.Complete.{piece_back, wide_is, after}
use Rattle.rewritten.specs.Pending.{node_in_of}
use Rattle.lowering.specs.Collect.{Entry, over}
use Rattle.equal.specs.Equal.{entry_encoded, list_encoded}
use Rattle.joining.specs.List.{Handed, read_declarators, read_entry, read_entries, read_parts, read_handed, placed_entries, placed_handed, longest_list, FitDeclarators, FitEntries, FitHanded}
use Rattle.joining.proofs.ListAnswered.{refused_got}
use Rattle.joining.proofs.Exact.{list_sound}

-- each level takes a byte
mutual
  unfolding depth depth_fields depth_piece depth_items encode encode_fields encode_piece encode_items

  depth_long : (n : Node) → depth n ≤ length (encode n)
  depth_long (node at k fs) = let h = depth_fields_long fs in omega arith

  depth_fields_long : (fs : Fields) → depth_fields fs ≤ length (encode_fields fs)
  depth_fields_long Fields.done = omega arith
  depth_fields_long (Fields.absent fs) = depth_fields_long fs
  depth_fields_long (Fields.field p fs) =
      let a = depth_piece_long p in
      let c = depth_fields_long fs in
      omega (arith, length-append (encode_piece p) (encode_fields fs))

  depth_piece_long : (p : Piece) → depth_piece p ≤ length (encode_piece p)
  depth_piece_long (Piece.one n) = depth_long n
  depth_piece_long (Piece.list is) = let h = depth_items_long is in omega arith
  depth_piece_long (Piece.text bs) = omega arith
  depth_piece_long (Piece.byte b) = omega arith
  depth_piece_long (Piece.mark b) = omega arith
  depth_piece_long (Piece.number b) = omega arith

  depth_items_long : (is : Items) → depth_items is ≤ length (encode_items is)
  depth_items_long Items.none = omega arith
  depth_items_long (Items.hole is) = let h = depth_items_long is in omega arith
  depth_items_long (Items.item n is) =
      let a = depth_long n in
      let c = depth_items_long is in
      omega (arith, length-append (encode n) (encode_items is))

module _ (l : List ℕ) where
  declarators_back : (ds : Items) → FitDeclarators ds → (at k : ℕ) (rest : List ℕ) → drop at l ≡ encode_piece (list ds) ++ rest → read_declarators l at k ≡ got (placed_items ds (at + 2)) (at + length (encode_piece (list ds))) k
  unfolding read_declarators read_field node_in_of placed_piece
  declarators_back ds f at k rest e =
      let a : length (drop at l) ≡ length l - at = length-drop at l in
      let b : length (drop at l) ≡ length (encode_piece (list ds)) + length rest = ap length e ∙ length-append (encode_piece (list ds)) rest in
      let c : depth_piece (list ds) ≤ length (encode_piece (list ds)) = depth_piece_long (list ds) in
      go (read_declarators l at k) refl (piece_back l rewritten f (length l) at k k rest (λ z. never z) e (omega arith) refl)
    where
      go : (g : Got Items) → read_declarators l at k ≡ g → mapped list g ≡ got (list (placed_items ds (at + 2))) (at + length (encode_piece (list ds))) k → read_declarators l at k ≡ got (placed_items ds (at + 2)) (at + length (encode_piece (list ds))) k
      go (refused r) x y = refused_got y
      go (got ds' q j) x y = cc

  entries_back : (es : List Entry) → FitEntries es → (at k : ℕ) (rest : List ℕ) → drop at l ≡ over entry_encoded es ++ rest → read_entries l (length es) at k ≡ got (placed_entries es at) (at + length (over entry_encoded es)) k
  unfolding read_entries read_entry over entry_encoded placed_entries
  entries_back [] f at k rest e = λ x. got [] (sym (add-zero at) x) k
  entries_back (d ∷ es) f at k rest e =
      let own = encode_piece (list d.declarators) in
      let cut : drop at l ≡ wide_bytes d.containing ++ (own ++ (over entry_encoded es ++ rest)) = e ∙ append_assoc (entry_encoded d) (over entry_encoded es) rest ∙ append_assoc (wide_bytes d.containing) own (over entry_encoded es ++ rest) in
      let wide : wide_at l at ≡ d.containing = wide_is l at d.containing (own ++ (over entry_encoded es ++ rest)) cut in
      let next : drop (at + 2) l ≡ own ++ (over entry_encoded es ++ rest) = after l at 2 (wide_bytes d.containing) (own ++ (over entry_encoded es ++ rest)) cut refl in
      let first = declarators_back d.declarators f.1 (at + 2) k (over entry_encoded es ++ rest) next in
      let later = entries_back es f.2 (at + 2 + length own) k rest (after l (at + 2) (length own) own (over entry_encoded es ++ rest) next refl) in
      let end : at + 2 + length own + length (over entry_encoded es) ≡ at + length (entry_encoded d ++ over entry_encoded es) = omega (arith, length-append own (over entry_encoded es)) in
      rw (wide, lt-ltb d.containing 65536 f.0, first, later) (ap (λ (q : ℕ). got (placed_entries (d ∷ es) at) q k) end)

-- a list that keeps to its layout is read off its bytes, with the positions that these give it
pub list_complete : (h : Handed) → FitHanded h → read_handed (list_encoded h.entries h.excluded) ≡ got (placed_handed h) (length (list_encoded h.entries h.excluded)) 1
unfolding read_handed read_parts list_encoded placed_handed
list_complete h f =
    let l = list_encoded h.entries h.excluded in
    let several = over entry_encoded h.entries in
    let own = encode_piece (list h.excluded) in
    let whole' : drop 0 l ≡ wide_bytes (length h.entries) ++ ((several ++ own) ++ []) = sym (append-nil l) in
    let wide : wide_at l 0 ≡ length h.entries = wide_is l 0 (length h.entries) ((several ++ own) ++ []) whole' in
    let cut : drop 2 l ≡ several ++ (own ++ []) = after l 0 2 (wide_bytes (length h.entries)) ((several ++ own) ++ []) whole' refl ∙ append_assoc several own [] in
    let first = entries_back l h.entries f.entries 2 1 (own ++ []) cut in
    let last = declarators_back l h.excluded f.excluded (2 + length several) 1 [] (after l 2 (length several) several (own ++ []) cut refl) in
    let end : 2 + length several + length own ≡ length l = omega (arith, length-append several own) in
    rw (le-leb (length l) longest_list f.short, wide, lt-ltb (length h.entries) 65536 f.few, first, last, eq-eqb (2 + length several + length own) (length l) end) (ap (λ (q : ℕ). got (placed_handed h) q 1) end)

-- the law
pub list_exact : (l : List ℕ) (h : Handed) → Bytes l → (read_handed l ≡ got h (length l) 1 → (FitHanded h × (list_encoded h.entries h.excluded ≡ l) × (placed_handed h ≡ h))) × ((FitHanded h × (list_encoded h.entries h.excluded ≡ l) × (placed_handed h ≡ h)) → read_handed l ≡ got h (length l) 1)
list_exact l h b = (
  λ e.
      let s = list_sound l b h (length l) 1 e in
      let again : got (placed_handed h) (length (list_encoded h.entries h.excluded)) 1 ≡ got h (length l) 1 = sym (list_complete h s.fits) ∙ ap read_handed s.bytes ∙ e in
      (s.fits, s.bytes, cc),
  λ w. ap read_handed (sym w.1) ∙ list_complete h w.0 ∙ (λ x. got (w.2 x) (length (w.1 x)) 1),
)
