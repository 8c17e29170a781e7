-- What a lowering hands back is joined, or what comes of it is too long.
-- Assumes nothing.
use mathlib.Core.Path.{◌≡◌, refl, sym, ap, ap₂, ◌∙◌}
use mathlib.Core.Bool.{Bool, true, false, cond}
use mathlib.Core.List.{List, [], ◌∷◌, ◌++◌}
use mathlib.Core.Logic.{◌⊎◌, inl, inr}
use Prim.Native.Nat.{ℕ, ◌+◌, min}
use lib.Dec.{leb}
use lib.ListN.{length}
use Rattle.tree.specs.Tree.{Node, Fields, Piece, Items, encode, encode_piece, placed, placed_fields, placed_piece, placed_items, marks_items}
use Rattle.tree.specs.Tree.Node.{node}
use Rattle.tree.specs.Tree.Piece.{list}
use Rattle.tree.specs.Grammar.{among}
use Rattle.tree.specs.Read.Got.{got}
use Rattle.rewritten.specs.Rewritten.{distinct, read_rewritten}
use Rattle.rewritten.proofs.RewrittenExact.{marks_placed, marks_placed_items}
use Rattle.lowering.specs.Collect.{Entry, over}
use Rattle.equal.specs.Equal.{entry_encoded, list_encoded}
use Rattle.joining.specs.List.{handed, read_handed, inner_marks, placed_entries, placed_handed, FitHanded}
use Rattle.joining.specs.Join.{is_container, own_mark, first_mark, found_by, as_list, found, found_fields, found_piece, found_items, joined_tree}
use Rattle.joining.specs.Answer.{Outcome, taken, all_found_of, outcome, answer_of}
use Rattle.joining.proofs.ListExact.{list_complete}

-- ---- positions play no part in marks

own_placed : (n : Node) (at : ℕ) → own_mark (placed n at) ≡ own_mark n
unfolding placed first_mark
own_placed (node old k fs) at = go fs (at + 2)
  where
    go : (fs : Fields) (at : ℕ) → first_mark (placed_fields fs at) ≡ first_mark fs
    go Fields.done at = refl
    go (Fields.absent fs) at = go fs at
    go (Fields.field (Piece.one n) fs) at = refl
    go (Fields.field (Piece.list n) fs) at = refl
    go (Fields.field (Piece.text n) fs) at = refl
    go (Fields.field (Piece.byte n) fs) at = refl
    go (Fields.field (Piece.mark n) fs) at = refl
    go (Fields.field (Piece.number n) fs) at = refl

own_list : (c : Bool) (n : Node) (at : ℕ) → as_list (found_by c (placed n at)) ≡ as_list (found_by c n)
own_list true n at = ap as_list (own_placed n at)
own_list false n at = refl

mutual
  unfolding found placed

  found_placed : (n : Node) (at : ℕ) → found (placed n at) ≡ found n
  found_placed (node old k fs) at = found_fields_lem (is_container k) fs (at + 2)

  found_fields_lem : (c : Bool) (fs : Fields) (at : ℕ) → found_fields c (placed_fields fs at) ≡ found_fields c fs
  found_fields_lem c Fields.done at = refl
  found_fields_lem c (Fields.absent fs) at = found_fields_lem c fs at
  found_fields_lem c (Fields.field p fs) at = ap₂ (λ (x y : List ℕ). x ++ y) (found_piece_lem c p at) (found_fields_lem c fs (at + length (encode_piece p)))

  found_piece_lem : (c : Bool) (p : Piece) (at : ℕ) → found_piece c (placed_piece p at) ≡ found_piece c p
  found_piece_lem c (Piece.one n) at = found_placed n at
  found_piece_lem c (Piece.list is) at = found_items_lem c is (at + 2)
  found_piece_lem c (Piece.text bs) at = refl
  found_piece_lem c (Piece.byte b) at = refl
  found_piece_lem c (Piece.mark m) at = refl
  found_piece_lem c (Piece.number b) at = refl

  found_items_lem : (c : Bool) (is : Items) (at : ℕ) → found_items c (placed_items is at) ≡ found_items c is
  found_items_lem c Items.none at = refl
  found_items_lem c (Items.hole is) at = found_items_lem c is (at + 1)
  found_items_lem c (Items.item n is) at =
      ap₂ (λ (x y : List ℕ). x ++ y) (ap₂ (λ (x y : List ℕ). x ++ y) (own_list c n at) (found_placed n at)) (found_items_lem c is (at + length (encode n)))

entries_placed : (es : List Entry) (at : ℕ) → over (λ e. marks_items e.declarators) (placed_entries es at) ≡ over (λ e. marks_items e.declarators) es
unfolding over placed_entries
entries_placed [] at = refl
entries_placed (e ∷ es) at =
    ap₂ (λ (x y : List ℕ). x ++ y) (marks_placed_items e.declarators (at + 2 + 2)) (entries_placed es (at + 2 + length (encode_piece (list e.declarators))))

all_placed : (ms : List ℕ) (es : List Entry) (at : ℕ) → all_found_of ms (placed_entries es at) ≡ all_found_of ms es
unfolding all_found_of placed_entries
all_placed ms [] at = refl
all_placed ms (e ∷ es) at = ap (λ (b : Bool). cond (among ms e.containing) b false) (all_placed ms es (at + 2 + length (encode_piece (list e.declarators))))

-- ---- what joining answers

module _ (n : Node) (es : List Entry) (ex : Items) (t l : List ℕ) where
  taken_placed : taken (placed n 0) (placed_handed (handed es ex)) ≡ taken n (handed es ex)
  unfolding taken inner_marks placed_handed
  taken_placed = ap₂ (λ (x y : List ℕ). x ++ y) (marks_placed n 0) (ap₂ (λ (x y : List ℕ). x ++ y) (entries_placed es 2) (marks_placed_items ex (2 + length (over entry_encoded es) + 2)))

  found_all : all_found_of (found n) es ≡ true → all_found_of (found (placed n 0)) (placed_entries es 2) ≡ true
  found_all e = ap (λ (ms : List ℕ). all_found_of ms (placed_entries es 2)) (found_placed n 0) ∙ all_placed (found n) es 2 ∙ e

  -- the joined tree, or 7
  pub joins : read_rewritten t ≡ got (placed n 0) (length t) 1 → FitHanded (handed es ex) → l ≡ list_encoded es ex → distinct (taken n (handed es ex)) ≡ true → all_found_of (found n) es ≡ true
      → (room : ℕ) → (answer_of (outcome t l room) ≡ 0) ⊎ (answer_of (outcome t l room) ≡ 7)
  unfolding outcome placed_handed
  joins r f e d a room =
      let h = placed_handed (handed es ex) in
      let read : read_handed l ≡ got h (length l) 1 = ap read_handed e ∙ list_complete (handed es ex) f ∙ ap (λ (x : List ℕ). got h (length x) 1) (sym e) in
      rw (r, read, ap distinct taken_placed ∙ d, found_all a)
      (fitted (leb (length (encode (joined_tree (taken (placed n 0) h) (placed n 0) h))) (min room 32768)) (encode (joined_tree (taken (placed n 0) h) (placed n 0) h)))
    where
      fitted : (b : Bool) (x : List ℕ) → (answer_of (cond b (Outcome.tree x) (Outcome.refusal 7)) ≡ 0) ⊎ (answer_of (cond b (Outcome.tree x) (Outcome.refusal 7)) ≡ 7)
      fitted true x = inl refl
      fitted false x = inr refl
