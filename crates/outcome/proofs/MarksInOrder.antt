-- Marks. Those of a tree as it is read count up from 1; in the result the marks that are not below the next one are
-- the next one, the one after it, and so on, each once and in order.
-- Assumes nothing.
use mathlib.Core.Path.{◌≡◌, refl, sym, ap, ap₂}
use mathlib.Core.Bool.{cond}
use mathlib.Core.List.{List, [], ◌∷◌, ◌++◌}
use Prim.Native.Nat.{ℕ, zero, suc, ◌+◌, ◌<◌, ◌≤◌}
use native.Mathlib.Omega.{arith}
use lib.Dec.{eqb, ltb}
use borrow.Author.Tests.{lt-ltb, le-ltb}
use Rattle.tree.specs.Tree.{Node, Fields, Piece, Items, marks, marks_fields, marks_piece, marks_items}
use Rattle.tree.specs.Tree.Node.{node}
use Rattle.tree.specs.WellFormed.{Counts}
use Rattle.tree.proofs.Sound.{counts_append}
use Rattle.tree.proofs.EncodedLengths.{counts_long}
use Rattle.lowering.specs.Walk.{Walked, WalkedFields, WalkedPiece, WalkedItems}
use Rattle.lowering.specs.Walk.Walked.{noted}
use Rattle.lowering.specs.Collect.{Name, new_in, new_in_fields, new_in_piece, new_in_items, bare, bare_fields, bare_piece, bare_items, with_number, numbered, numbered_fields, numbered_piece, numbered_items}
use Rattle.lowering.proofs.Cases.{by_test}
use Rattle.sink.specs.Shown.{Every}
use Rattle.outcome.proofs.Tokens.{IsTemporary, Formed, FormedFields, FormedPiece, FormedItems}
use Rattle.outcome.proofs.MarksKept.{Held, HeldFields, HeldPiece, HeldItems, Walks, WalksFields, WalksPiece, WalksItems}

-- ---- all are below the next

counts_below : (b k : ℕ) (ms : List ℕ) (j : ℕ) → j ≤ b → Counts k ms j → Every (λ (m : ℕ). m < b) ms
unfolding Counts
counts_below b k [] j h c = tt
counts_below b k (m ∷ ms) j h c = let l = counts_long (k + 1) ms j c.1 in let e = c.0 in (omega arith, counts_below b (k + 1) ms j h c.1)

module _ (P : ℕ → Type 0) where
  every_left : (l m : List ℕ) → Every P (l ++ m) → Every P l
  every_left [] m h = tt
  every_left (a ∷ l) m h = (h.0, every_left l m h.1)

  every_right : (l m : List ℕ) → Every P (l ++ m) → Every P m
  every_right [] m h = h
  every_right (a ∷ l) m h = every_right l m h.1

  mutual
    unfolding marks

    marks_held : (n : Node) → Every P (marks n) → Held P n
    marks_held (node at k fs) h = fields_held fs h

    fields_held : (fs : Fields) → Every P (marks_fields fs) → HeldFields P fs
    fields_held Fields.done h = tt
    fields_held (Fields.absent fs) h = fields_held fs h
    fields_held (Fields.field p fs) h =
        (piece_held p (every_left (marks_piece p) (marks_fields fs) h), fields_held fs (every_right (marks_piece p) (marks_fields fs) h))

    piece_held : (p : Piece) → Every P (marks_piece p) → HeldPiece P p
    piece_held (Piece.one n) h = marks_held n h
    piece_held (Piece.list is) h = items_held is h
    piece_held (Piece.text bs) h = tt
    piece_held (Piece.byte b) h = tt
    piece_held (Piece.mark b) h = h.0
    piece_held (Piece.number b) h = tt

    items_held : (is : Items) → Every P (marks_items is) → HeldItems P is
    items_held Items.none h = tt
    items_held (Items.hole is) h = items_held is h
    items_held (Items.item n is) h =
        (marks_held n (every_left (marks n) (marks_items is) h), items_held is (every_right (marks n) (marks_items is) h))

pub counts_held : (b k : ℕ) (n : Node) (j : ℕ) → j ≤ b → Counts k (marks n) j → Held (λ (m : ℕ). m < b) n
counts_held b k n j h c = marks_held (λ (m : ℕ). m < b) n (counts_below b k (marks n) j h c)

-- ---- new marks

-- the marks that are not below k, in order
unfoldable pub from : ℕ → List ℕ → List ℕ
from k [] = []
from k (m ∷ ms) = cond (ltb m k) (from k ms) (m ∷ from k ms)

module _ (next : ℕ) where
  from_append : (ms ns : List ℕ) → from next (ms ++ ns) ≡ from next ms ++ from next ns
  unfolding from
  from_append [] ns = refl
  from_append (m ∷ ms) ns =
      by_test (ltb m next) (λ e. rw e (from_append ms ns)) (λ e. rw e (ap (λ (l : List ℕ). m ∷ l) (from_append ms ns)))

  -- an old mark, and a new one
  none_new : (k : ℕ) → Counts k [] (k + 0)
  unfolding Counts
  none_new k = omega arith

  old_mark : (k m : ℕ) → m < next → Counts k (from next (m ∷ [])) (k + 0)
  unfolding from
  old_mark k m h = rw (lt-ltb m next h) (none_new k)

  new_mark_lem : (k : ℕ) → next ≤ k → Counts k (from next (k ∷ [])) (k + 1)
  unfolding from Counts
  new_mark_lem k h = rw (le-ltb k next h) (refl, refl)

  both_count : (k a b : ℕ) (ms ns : List ℕ) → Counts k (from next ms) (k + a) → Counts (k + a) (from next ns) (k + a + b) → Counts k (from next (ms ++ ns)) (k + (a + b))
  both_count k a b ms ns c d =
      let e : k + a + b ≡ k + (a + b) = omega arith in
      rw (from_append ms ns, ← e) (counts_append k (from next ms) (from next ns) (k + a) (k + a + b) c d)

  mutual
    unfolding marks bare new_in from

    -- the new marks of a walked tree
    pub new_marks_lem : (k : ℕ) (w : Walked) → next ≤ k → Walks (λ (m : ℕ). m < next) w → Counts k (from next (marks (bare k w))) (k + new_in w)
    new_marks_lem k (noted note at j fs) l h = new_fields k fs l h

    new_fields : (k : ℕ) (fs : WalkedFields) → next ≤ k → WalksFields (λ (m : ℕ). m < next) fs → Counts k (from next (marks_fields (bare_fields k fs))) (k + new_in_fields fs)
    new_fields k WalkedFields.done l h = none_new k
    new_fields k (WalkedFields.absent fs) l h = new_fields k fs l h
    new_fields k (WalkedFields.field p fs) l h =
        both_count k (new_in_piece p) (new_in_fields fs) (marks_piece (bare_piece k p)) (marks_fields (bare_fields (k + new_in_piece p) fs))
        (new_piece k p l h.0) (new_fields (k + new_in_piece p) fs (omega arith) h.1)

    new_piece : (k : ℕ) (p : WalkedPiece) → next ≤ k → WalksPiece (λ (m : ℕ). m < next) p → Counts k (from next (marks_piece (bare_piece k p))) (k + new_in_piece p)
    new_piece k (WalkedPiece.one w) l h = new_marks_lem k w l h
    new_piece k (WalkedPiece.list is) l h = new_items k is l h
    new_piece k (WalkedPiece.text bs) l h = none_new k
    new_piece k (WalkedPiece.byte b) l h = none_new k
    new_piece k (WalkedPiece.mark zero) l h = new_mark_lem k l
    new_piece k (WalkedPiece.mark (suc b)) l h = old_mark k (suc b) h
    new_piece k (WalkedPiece.number b) l h = none_new k

    new_items : (k : ℕ) (is : WalkedItems) → next ≤ k → WalksItems (λ (m : ℕ). m < next) is → Counts k (from next (marks_items (bare_items k is))) (k + new_in_items is)
    new_items k WalkedItems.none l h = none_new k
    new_items k (WalkedItems.hole is) l h = new_items k is l h
    new_items k (WalkedItems.item w is) l h =
        both_count k (new_in w) (new_in_items is) (marks (bare k w)) (marks_items (bare_items (k + new_in w) is))
        (new_marks_lem k w l h.0) (new_items (k + new_in w) is (omega arith) h.1)

-- ---- numbers of temporaries leave marks as they are

module _ (ns : List Name) where
  temporary_marks : (k : ℕ) (fs : WalkedFields) → IsTemporary fs → marks_fields (bare_fields k fs) ≡ []
  unfolding marks bare
  temporary_marks k fs h = ap (λ (x : WalkedFields). marks_fields (bare_fields k x)) h.whole

  mutual
    unfolding marks bare numbered with_number

    pub numbered_marks : (k : ℕ) (w : Walked) → Formed w → marks (numbered ns (bare k w)) ≡ marks (bare k w)
    numbered_marks k (noted note at j fs) f =
        by_test (eqb j 20)
        (λ e. rw e (sym (temporary_marks k fs (f.0 e))))
        (λ e. rw e (numbered_fields_lem k fs f.2))

    numbered_fields_lem : (k : ℕ) (fs : WalkedFields) → FormedFields fs → marks_fields (numbered_fields ns (bare_fields k fs)) ≡ marks_fields (bare_fields k fs)
    numbered_fields_lem k WalkedFields.done f = refl
    numbered_fields_lem k (WalkedFields.absent fs) f = numbered_fields_lem k fs f
    numbered_fields_lem k (WalkedFields.field p fs) f =
        ap₂ (λ (x y : List ℕ). x ++ y) (numbered_piece_lem k p f.0) (numbered_fields_lem (k + new_in_piece p) fs f.1)

    numbered_piece_lem : (k : ℕ) (p : WalkedPiece) → FormedPiece p → marks_piece (numbered_piece ns (bare_piece k p)) ≡ marks_piece (bare_piece k p)
    numbered_piece_lem k (WalkedPiece.one w) f = numbered_marks k w f
    numbered_piece_lem k (WalkedPiece.list is) f = numbered_items_lem k is f
    numbered_piece_lem k (WalkedPiece.text bs) f = refl
    numbered_piece_lem k (WalkedPiece.byte b) f = refl
    numbered_piece_lem k (WalkedPiece.mark b) f = refl
    numbered_piece_lem k (WalkedPiece.number b) f = refl

    numbered_items_lem : (k : ℕ) (is : WalkedItems) → FormedItems is → marks_items (numbered_items ns (bare_items k is)) ≡ marks_items (bare_items k is)
    numbered_items_lem k WalkedItems.none f = refl
    numbered_items_lem k (WalkedItems.hole is) f = numbered_items_lem k is f
    numbered_items_lem k (WalkedItems.item w is) f =
        ap₂ (λ (x y : List ℕ). x ++ y) (numbered_marks k w f.0) (numbered_items_lem (k + new_in w) is f.1)
