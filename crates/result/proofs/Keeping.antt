-- What keeps a rest or a spread once temporaries have their numbers kept it before.
-- Assumes nothing.
use mathlib.Core.Path.{◌≡◌, refl, sym, ◌∙◌}
use mathlib.Core.Bool.{true, false, true≢false}
use mathlib.Core.List.{List}
use Prim.Native.Nat.{ℕ, zero, suc}
use lib.Dec.{eqb}
use borrow.Author.Tests.{eqb-true}
use Rattle.tree.specs.Tree.{Node, Fields, Piece, Items}
use Rattle.tree.specs.Tree.Node.{node}
use Rattle.lowering.specs.Parts.{is, stands, stands_in, items_at_of, piece_in, as_items_of, any}
use Rattle.lowering.specs.Visits.{Stands}
use Rattle.lowering.specs.Collect.{Name, nodes, nodes_fields, nodes_piece, nodes_items, numbered, numbered_fields, numbered_piece, numbered_items, with_number}
use Rattle.lowering.proofs.Cases.{by_test, or_left, or_right}
use Rattle.result.specs.Left.{keeps_rest, keeps_spread, keeps, any_of}
use Rattle.result.proofs.Occurring.{any_split, any_both, any_in, stands_nodes}

module _ (ns : List Name) where
  spread_numbered : (n : Node) → is 26 (numbered ns n) ≡ is 26 n
  unfolding numbered with_number is
  spread_numbered (node at k fs) = by_test (eqb k 20) (λ e. rw (eqb-true k 20 e) refl) (λ e. rw e refl)

  spreads_numbered : (js : Items) → any (λ p. is 26 p) (numbered_items ns js) ≡ any (λ p. is 26 p) js
  unfolding numbered any
  spreads_numbered Items.none = refl
  spreads_numbered (Items.hole js) = spreads_numbered js
  spreads_numbered (Items.item n js) = rw (spread_numbered n, spreads_numbered js) refl

  list_numbered : (fs : Fields) → any (λ p. is 26 p) (as_items_of (piece_in (numbered_fields ns fs) 0)) ≡ any (λ p. is 26 p) (as_items_of (piece_in fs 0))
  unfolding numbered piece_in
  list_numbered Fields.done = refl
  list_numbered (Fields.absent fs) = refl
  list_numbered (Fields.field (Piece.one n) fs) = refl
  list_numbered (Fields.field (Piece.list js) fs) = spreads_numbered js
  list_numbered (Fields.field (Piece.text n) fs) = refl
  list_numbered (Fields.field (Piece.byte n) fs) = refl
  list_numbered (Fields.field (Piece.mark n) fs) = refl
  list_numbered (Fields.field (Piece.number n) fs) = refl

  stands_numbered : (fs : Fields) (i : ℕ) → stands_in (numbered_fields ns fs) i ≡ stands_in fs i
  unfolding numbered stands_in
  stands_numbered Fields.done i = refl
  stands_numbered (Fields.absent fs) zero = refl
  stands_numbered (Fields.absent fs) (suc i) = stands_numbered fs i
  stands_numbered (Fields.field p fs) zero = refl
  stands_numbered (Fields.field p fs) (suc i) = stands_numbered fs i

  keeps_numbered : (at k : ℕ) (fs : Fields) → keeps (node at k (numbered_fields ns fs)) ≡ keeps (node at k fs)
  unfolding keeps keeps_rest keeps_spread is stands items_at_of
  keeps_numbered at k fs = rw (stands_numbered fs 1, list_numbered fs) refl

  named_keeps : (t : Node) → any_of keeps (nodes (with_number ns t)) ≡ false
  unfolding with_number nodes any_of keeps keeps_rest keeps_spread is
  named_keeps t = refl

  mutual
    unfolding numbered nodes any_of

    none_kept : (n : Node) → any_of keeps (nodes n) ≡ false → any_of keeps (nodes (numbered ns n)) ≡ false
    none_kept (node at k fs) h =
        by_test (eqb k 20)
        (λ e. rw e (named_keeps (node at k fs)))
        (λ e. rw (e, keeps_numbered at k fs, or_left (keeps (node at k fs)) (any_of keeps (nodes_fields fs)) h) (none_fields fs (or_right (keeps (node at k fs)) (any_of keeps (nodes_fields fs)) h)))

    none_fields : (fs : Fields) → any_of keeps (nodes_fields fs) ≡ false → any_of keeps (nodes_fields (numbered_fields ns fs)) ≡ false
    none_fields Fields.done h = refl
    none_fields (Fields.absent fs) h = none_fields fs h
    none_fields (Fields.field p fs) h =
        let s = any_split keeps (nodes_piece p) (nodes_fields fs) h in
        any_both keeps (nodes_piece (numbered_piece ns p)) (nodes_fields (numbered_fields ns fs)) (none_piece p s.0) (none_fields fs s.1)

    none_piece : (p : Piece) → any_of keeps (nodes_piece p) ≡ false → any_of keeps (nodes_piece (numbered_piece ns p)) ≡ false
    none_piece (Piece.one n) h = none_kept n h
    none_piece (Piece.list js) h = none_items js h
    none_piece (Piece.text n) h = refl
    none_piece (Piece.byte n) h = refl
    none_piece (Piece.mark n) h = refl
    none_piece (Piece.number n) h = refl

    none_items : (js : Items) → any_of keeps (nodes_items js) ≡ false → any_of keeps (nodes_items (numbered_items ns js)) ≡ false
    none_items Items.none h = refl
    none_items (Items.hole js) h = none_items js h
    none_items (Items.item n js) h =
        let s = any_split keeps (nodes n) (nodes_items js) h in
        any_both keeps (nodes (numbered ns n)) (nodes_items (numbered_items ns js)) (none_kept n s.0) (none_items js s.1)

  pub kept_before : (n : Node) {p q : List ℕ} {x : Node} → Stands p (numbered ns n) q x → keeps x ≡ true → any_of keeps (nodes n) ≡ true
  kept_before n s k = by_test (any_of keeps (nodes n)) (λ e. e) (λ e. absurd (true≢false (sym (any_in keeps (stands_nodes s) k) ∙ none_kept n e)))
