-- Of list-exact the way from bytes to rules: a list that is read keeps to its layout, and its bytes are those that were read.
-- Assumes nothing.
use Prim.Native.Nat.{ℕ, zero, suc, ◌+◌, ◌*◌, ◌<◌, ◌≤◌}
use mathlib.Core.Path.{◌≡◌, refl, sym, ap, ◌∙◌}
use mathlib.Core.List.{List, [], ◌∷◌, ◌++◌, append-nil}
use mathlib.Core.Bool.{Bool, true, false}
use native.Mathlib.Omega.{arith}
use lib.Dec.{ltb, leb}
use lib.ListN.{length, drop, length-append}
use lib.Seq.{drop-length}
use borrow.Author.Tests.{eqb-true, ltb-true, leb-true}
use Rattle.tree.specs.Tree.{Items, wide_bytes, encode_piece, marks_items}
use Rattle.tree.specs.Tree.Piece.{list}
use Rattle.tree.specs.WellFormed.{Bytes}
use Rattle.tree.specs.Read.{Got, mapped, joined, accepted, whole, wide_at}
use Rattle.tree.specs.Read.Got.{got, refused}
use Rattle.tree.proofs.Sound.{Stands, nothing, and_then, two_bytes, bytes_at}
use Rattle.tree.proofs.EncodedLengths.{items_long}
use Rattle.rewritten.proofs.Pass.{accepted_got}
use Rattle.lowering.specs.Collect.{Entry, over}
use Rattle.equal.specs.Equal.{entry_encoded, list_encoded}
use Rattle.joining.specs.List.{Handed, entry, handed, read_declarators, read_entry, read_entries, read_parts, read_handed, inner_marks, longest_list, FitEntries, FitHanded}
use Rattle.joining.proofs.ListAnswered.{refused_got, declarators_sound, mapped_got, whole_got}

module _ (l : List ℕ) (b : Bytes l) where
  record EntriesSound (n at k : ℕ) (es : List Entry) (q j : ℕ) : Type 0 where
    pub stands : Stands l at q (over entry_encoded es)
    pub fits : FitEntries es
    pub size : length es ≡ n
    pub next : k ≡ j

  entries_moved : (n at k : ℕ) (es fs : List Entry) (q j : ℕ) → es ≡ fs → EntriesSound n at k es q j → EntriesSound n at k fs q j
  entries_moved n at k es fs q j e s = rw (← e) s

  entries_sound : (n at k : ℕ) (es : List Entry) (q j : ℕ) → read_entries l n at k ≡ got es q j → EntriesSound n at k es q j
  unfolding read_entries read_entry over entry_encoded
  entries_sound zero at k es q j e =
      let none' : [] ≡ es = cc in
      let here : at ≡ q = cc in
      let same : k ≡ j = cc in
      entries_moved zero at k [] es q j none' (record { stands = rw (← here) (nothing l at); fits = tt; size = refl; next = same })
  entries_sound (suc n) at k es q j e = go (ltb (wide_at l at) 65536) refl e (λ p i fs f. entries_sound n p i fs q j f)
    where
      pick : ltb (wide_at l at) 65536 ≡ true → (g : Got Items) → read_declarators l (at + 2) k ≡ g → joined ◌∷◌ (mapped (entry (wide_at l at)) g) (λ p i. read_entries l n p i) ≡ got es q j → ((p i : ℕ) (fs : List Entry) → read_entries l n p i ≡ got fs q j → EntriesSound n p i fs q j) → EntriesSound (suc n) at k es q j
      pick c (refused r) f e' rest = refused_got e'
      pick c (got ds p i) f e' rest =
          let m = mapped_got l b (λ (fs : List Entry). entry (wide_at l at) ds ∷ fs) (read_entries l n p i) es q j e' in
          let s = declarators_sound l b (at + 2) k ds p i f in
          let r = rest p i m.0 m.1 in
          let w : wide_at l at < 65536 = ltb-true (wide_at l at) 65536 c in
          entries_moved (suc n) at k (entry (wide_at l at) ds ∷ m.0) es q j m.2 (record {
            stands = and_then l at p q (wide_bytes (wide_at l at) ++ encode_piece (list ds)) (over entry_encoded m.0) (and_then l at (at + 2) p (wide_bytes (wide_at l at)) (encode_piece (list ds)) (two_bytes l (bytes_at l b) at w) s.part.stands) r.stands;
            fits = (w, s.fits, r.fits);
            size = ap suc r.size;
            next = s.part.marked ∙ r.next;
          })

      go : (c : Bool) → ltb (wide_at l at) 65536 ≡ c → joined ◌∷◌ (accepted c (mapped (entry (wide_at l at)) (read_declarators l (at + 2) k))) (λ p i. read_entries l n p i) ≡ got es q j → ((p i : ℕ) (fs : List Entry) → read_entries l n p i ≡ got fs q j → EntriesSound n p i fs q j) → EntriesSound (suc n) at k es q j
      go true c e' rest = pick c (read_declarators l (at + 2) k) refl e' rest
      go false c e' rest = refused_got e'

  pub record ListSound (h : Handed) (q k : ℕ) : Type 0 where
    pub fits : FitHanded h
    pub bytes : list_encoded h.entries h.excluded ≡ l
    pub ends : q ≡ length l
    pub next : k ≡ 1

  list_moved : (g h : Handed) (q k : ℕ) → g ≡ h → ListSound g q k → ListSound h q k
  list_moved g h q k e s = rw (← e) s

  shorter : (bs : List ℕ) → bs ≡ l → length l ≤ longest_list → length bs ≤ longest_list
  shorter bs e s = rw e s

  -- the law
  pub list_sound : (h : Handed) (q k : ℕ) → read_handed l ≡ got h q k → ListSound h q k
  unfolding read_handed read_parts list_encoded
  list_sound h q k e =
      let a = accepted_got (leb (length l) longest_list) (whole l (accepted (ltb (wide_at l 0) 65536) (joined handed (read_entries l (wide_at l 0) 2 1) (λ p j. read_declarators l p j)))) h q k e in
      let w = whole_got l b (accepted (ltb (wide_at l 0) 65536) (joined handed (read_entries l (wide_at l 0) 2 1) (λ p j. read_declarators l p j))) h q k a.1 in
      let c = accepted_got (ltb (wide_at l 0) 65536) (joined handed (read_entries l (wide_at l 0) 2 1) (λ p j. read_declarators l p j)) h q k w.0 in
      parts (leb-true (length l) longest_list a.0) (eqb-true q (length l) w.1) (ltb-true (wide_at l 0) 65536 c.0) (read_entries l (wide_at l 0) 2 1) refl c.1
    where
      parts : length l ≤ longest_list → q ≡ length l → wide_at l 0 < 65536 → (g : Got (List Entry)) → read_entries l (wide_at l 0) 2 1 ≡ g → joined handed g (λ p j. read_declarators l p j) ≡ got h q k → ListSound h q k
      parts short end wide (refused r) f e' = refused_got e'
      parts short end wide (got es p j) f e' =
          let m = mapped_got l b (handed es) (read_declarators l p j) h q k e' in
          let r = entries_sound (wide_at l 0) 2 1 es p j f in
          let s = declarators_sound l b p j m.0 q k m.1 in
          let sized : length es ≡ wide_at l 0 = r.size in
          let first : Stands l 0 2 (wide_bytes (length es)) = rw sized (two_bytes l (bytes_at l b) 0 wide) in
          let all : Stands l 0 q ((wide_bytes (length es) ++ over entry_encoded es) ++ encode_piece (list m.0)) = and_then l 0 p q (wide_bytes (length es) ++ over entry_encoded es) (encode_piece (list m.0)) (and_then l 0 2 p (wide_bytes (length es)) (over entry_encoded es) first r.stands) s.part.stands in
          let is : (wide_bytes (length es) ++ over entry_encoded es) ++ encode_piece (list m.0) ≡ l = sym (all.cut ∙ ap (λ (z : ℕ). ((wide_bytes (length es) ++ over entry_encoded es) ++ encode_piece (list m.0)) ++ drop z l) end ∙ ap (λ (xs : List ℕ). ((wide_bytes (length es) ++ over entry_encoded es) ++ encode_piece (list m.0)) ++ xs) (drop-length l) ∙ append-nil ((wide_bytes (length es) ++ over entry_encoded es) ++ encode_piece (list m.0))) in
          list_moved (handed es m.0) h q k m.2 (record {
            fits = record { few = rw sized wide; entries = r.fits; excluded = s.fits; short = shorter (list_encoded es m.0) is short };
            bytes = is;
            ends = end;
            next = sym (r.next ∙ s.part.marked);
          })

-- ---- each mark takes two bytes, and each entry four

entries_long : (es : List Entry) → 2 * length (over (λ (e : Entry). marks_items e.declarators) es) + 4 * length es ≤ length (over entry_encoded es)
unfolding over entry_encoded encode_piece
entries_long [] = omega arith
entries_long (e ∷ es) =
    let a = items_long e.declarators in
    let c = entries_long es in
    omega (arith, length-append (marks_items e.declarators) (over (λ (x : Entry). marks_items x.declarators) es), length-append (encode_piece (list e.declarators)) (over entry_encoded es))

pub list_long : (h : Handed) → 2 * length (inner_marks h) + 4 * length h.entries ≤ length (list_encoded h.entries h.excluded)
unfolding inner_marks list_encoded encode_piece
list_long h =
    let a = entries_long h.entries in
    let c = items_long h.excluded in
    omega (arith, length-append (over (λ (x : Entry). marks_items x.declarators) h.entries) (marks_items h.excluded), length-append (wide_bytes (length h.entries) ++ over entry_encoded h.entries) (encode_piece (list h.excluded)))
