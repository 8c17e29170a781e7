-- How often a mark stands in what is written: no more often than the input weighs, new ones aside, of which each stands once.
-- Assumes nothing.
use mathlib.Core.Path.{◌≡◌, refl, sym, ◌∙◌}
use mathlib.Core.Bool.{Bool, true, cond, true≢false}
use mathlib.Core.List.{List, [], ◌∷◌, ◌++◌}
use Prim.Native.Nat.{ℕ, zero, suc, ◌+◌, ◌≤◌}
use native.Mathlib.Omega.{arith}
use Rattle.tree.specs.Tree.{Node, Fields, Piece, Items, marks, marks_fields, marks_piece, marks_items}
use Rattle.tree.specs.Tree.Node.{node}
use Rattle.lowering.specs.Parts.{nothing, is_empty}
use Rattle.lowering.specs.Made.{Context}
use Rattle.lowering.specs.Walk.{Note, Walked, WalkedFields, WalkedPiece, WalkedItems, each_item_of, each_piece, each_field, inside, rewrite, within, walk}
use Rattle.lowering.specs.Walk.Walked.{noted}
use Rattle.lowering.specs.Collect.{Visit, Entry, over, entry_at, entries, excluded_in, new_in, new_in_piece, marked, is_container, mark_of, visits, visits_fields, visits_piece, visits_items}
use Rattle.lowering.proofs.Cases.{by_test}
use Rattle.result.proofs.Weighed.{total, total_append, weigh, weigh_all, weigh_piece, weigh_items}
use Rattle.result.proofs.Copies.{Measure, XI, EI}
use Rattle.result.proofs.CopyRules.{parts, keeps}

-- ---- sums over marks

unfoldable pub tally : (ℕ → ℕ) → List ℕ → ℕ
tally f [] = 0
tally f (x ∷ xs) = f x + tally f xs

pub tally_append : (f : ℕ → ℕ) (xs ys : List ℕ) → tally f (xs ++ ys) ≡ tally f xs + tally f ys
unfolding tally
tally_append f [] ys = omega arith
tally_append f (x ∷ xs) ys = let h = tally_append f xs ys in omega arith

pub tally_items : (f : ℕ → ℕ) (is : Items) → tally f (marks_items is) ≡ total (λ n. tally f (marks n)) is
unfolding tally marks total
tally_items f Items.none = refl
tally_items f (Items.hole is) = tally_items f is
tally_items f (Items.item n is) = let h = tally_items f is in let a = tally_append f (marks n) (marks_items is) in omega arith

-- a tree weighs at least its marks
module _ (out : ℕ → ℕ) (kin : Node → ℕ) where
  mutual
    unfolding tally marks weigh

    pub marks_most : (n : Node) → tally out (marks n) ≤ weigh out kin n
    marks_most (node at k fs) = let h = fields_most_lem fs in omega arith

    fields_most_lem : (fs : Fields) → tally out (marks_fields fs) ≤ weigh_all out kin fs
    fields_most_lem Fields.done = omega arith
    fields_most_lem (Fields.absent fs) = fields_most_lem fs
    fields_most_lem (Fields.field p fs) =
        let a = piece_most p in let b = fields_most_lem fs in let c = tally_append out (marks_piece p) (marks_fields fs) in omega arith

    piece_most : (p : Piece) → tally out (marks_piece p) ≤ weigh_piece out kin p
    piece_most (Piece.one n) = marks_most n
    piece_most (Piece.list is) = items_most is
    piece_most (Piece.text bs) = omega arith
    piece_most (Piece.byte b) = omega arith
    piece_most (Piece.mark m) = omega arith
    piece_most (Piece.number b) = omega arith

    items_most : (is : Items) → tally out (marks_items is) ≤ weigh_items out kin is
    items_most Items.none = omega arith
    items_most (Items.hole is) = items_most is
    items_most (Items.item n is) =
        let a = marks_most n in let b = items_most is in let c = tally_append out (marks n) (marks_items is) in omega arith

-- ---- the measure of what is handed out: its marks, by `hit`

unfoldable pub by_marks : {out : ℕ → ℕ} {kin : Node → ℕ} (hit : ℕ → ℕ) → out 0 ≡ 0 → kin nothing ≡ 0
    → ((k : Node) → tally hit (marks k) ≤ weigh out kin k + kin k) → Measure out kin
unfolding tally marks total
by_marks hit z y h =
    record {
      new = z;
      none_kin = y;
      entry = λ d. tally hit (marks d);
      excluded = λ d. tally hit (marks d);
      excluded_item = λ k. tally hit (marks k);
      entry_bare = λ path stem at. refl;
      entry_key = λ path stem at k e. let a = tally_append hit (marks k) [] in let b = h k in omega arith;
      excluded_array = λ path stem at ks.
          let a = tally_append hit (marks_items ks ++ []) [] in let b = tally_append hit (marks_items ks) [] in let c = tally_items hit ks in omega arith;
      item_string = λ s. refl;
      item_temporary = λ path stem at. refl;
      item_key = h;
    }

-- ---- the walk

module _ {out : ℕ → ℕ} {kin : Node → ℕ} (measure : Measure out kin) where
  -- the marks that a walked tree has so far, and what is handed out in it
  unfoldable mutual
    pub left : Walked → ℕ
    left (noted note at k fs) = left_fields fs

    pub left_fields : WalkedFields → ℕ
    left_fields WalkedFields.done = 0
    left_fields (WalkedFields.absent fs) = left_fields fs
    left_fields (WalkedFields.field p fs) = left_piece p + left_fields fs

    pub left_piece : WalkedPiece → ℕ
    left_piece (WalkedPiece.one w) = left w
    left_piece (WalkedPiece.list is) = left_items is
    left_piece (WalkedPiece.text bs) = 0
    left_piece (WalkedPiece.byte b) = 0
    left_piece (WalkedPiece.mark m) = out m
    left_piece (WalkedPiece.number b) = 0

    pub left_items : WalkedItems → ℕ
    left_items WalkedItems.none = 0
    left_items (WalkedItems.hole is) = left_items is
    left_items (WalkedItems.item w is) = left w + left_items is

  unfoldable mutual
    pub given : Walked → ℕ
    given (noted note at k fs) = EI measure note.entry + XI measure note.excluded + given_fields fs

    given_fields : WalkedFields → ℕ
    given_fields WalkedFields.done = 0
    given_fields (WalkedFields.absent fs) = given_fields fs
    given_fields (WalkedFields.field p fs) = given_piece p + given_fields fs

    given_piece : WalkedPiece → ℕ
    given_piece (WalkedPiece.one w) = given w
    given_piece (WalkedPiece.list is) = given_items is
    given_piece (WalkedPiece.text bs) = 0
    given_piece (WalkedPiece.byte b) = 0
    given_piece (WalkedPiece.mark m) = 0
    given_piece (WalkedPiece.number b) = 0

    given_items : WalkedItems → ℕ
    given_items WalkedItems.none = 0
    given_items (WalkedItems.hole is) = given_items is
    given_items (WalkedItems.item w is) = given w + given_items is

  items_walked : (w : ℕ → Node → Walked) → ((j : ℕ) (n : Node) → left (w j n) + given (w j n) ≤ weigh out kin n) → (j : ℕ) (is : Items)
      → left_items (each_item_of w j is) + given_items (each_item_of w j is) ≤ weigh_items out kin is
  unfolding left given each_item_of weigh
  items_walked w h j Items.none = omega arith
  items_walked w h j (Items.hole is) = items_walked w h (suc j) is
  items_walked w h j (Items.item n is) = let a = h j n in let r = items_walked w h (suc j) is in omega arith

  piece_walked : (w : ℕ → Node → Walked) → ((j : ℕ) (n : Node) → left (w j n) + given (w j n) ≤ weigh out kin n) → (p : Piece)
      → left_piece (each_piece w p) + given_piece (each_piece w p) ≤ weigh_piece out kin p
  unfolding left given each_piece weigh
  piece_walked w h (Piece.one n) = h 0 n
  piece_walked w h (Piece.list is) = items_walked w h 0 is
  piece_walked w h (Piece.text bs) = omega arith
  piece_walked w h (Piece.byte b) = omega arith
  piece_walked w h (Piece.mark m) = omega arith
  piece_walked w h (Piece.number b) = omega arith

  fields_walked : (w : ℕ → ℕ → Node → Walked) → ((i j : ℕ) (n : Node) → left (w i j n) + given (w i j n) ≤ weigh out kin n) → (i : ℕ) (fs : Fields)
      → left_fields (each_field w i fs) + given_fields (each_field w i fs) ≤ weigh_all out kin fs
  unfolding left given each_field weigh
  fields_walked w h i Fields.done = omega arith
  fields_walked w h i (Fields.absent fs) = fields_walked w h (suc i) fs
  fields_walked w h i (Fields.field p fs) = let a = piece_walked (w i) (h i) p in let r = fields_walked w h (suc i) fs in omega arith

  node_walked : (note : Note) (w : ℕ → ℕ → Node → Walked) → ((i j : ℕ) (n : Node) → left (w i j n) + given (w i j n) ≤ weigh out kin n) → (r : Node)
      → left (inside note w r) + given (inside note w r) ≤ parts measure r + (EI measure note.entry + XI measure note.excluded)
  unfolding left given inside parts
  node_walked note w h (node at k fs) = let a = fields_walked w h 0 fs in omega arith

  pub walk_weighs : (f : ℕ) (c : Context) (n : Node) → left (walk f c n) + given (walk f c n) ≤ weigh out kin n
  unfolding walk left given total
  walk_weighs zero c n = omega arith
  walk_weighs (suc f) c n =
      let s = rewrite c n in
      let a = node_walked s.note (λ i j m. walk f (within c s.result i j) m) (λ i j m. walk_weighs f (within c s.result i j) m) s.result in
      let k = keeps measure c n in
      omega arith

  -- ---- what is handed out, by the visits

  unfoldable of_visits : List Visit → ℕ
  of_visits [] = 0
  of_visits (v ∷ vs) = EI measure v.note.entry + XI measure v.note.excluded + of_visits vs

  visits_append : (us vs : List Visit) → of_visits (us ++ vs) ≡ of_visits us + of_visits vs
  unfolding of_visits
  visits_append [] vs = omega arith
  visits_append (u ∷ us) vs = let h = visits_append us vs in omega arith

  mutual
    unfolding visits given of_visits

    of_visits_lem : (next m : ℕ) (w : Walked) → of_visits (visits next m w) ≡ given w
    of_visits_lem next m (noted note at k fs) = let h = of_fields (is_container k) next m fs in omega arith

    of_fields : (l : Bool) (next m : ℕ) (fs : WalkedFields) → of_visits (visits_fields l next m fs) ≡ given_fields fs
    of_fields l next m WalkedFields.done = refl
    of_fields l next m (WalkedFields.absent fs) = of_fields l next m fs
    of_fields l next m (WalkedFields.field p fs) =
        let a = of_piece l next m p in
        let b = of_fields l (next + new_in_piece p) m fs in
        let c = visits_append (visits_piece l next m p) (visits_fields l (next + new_in_piece p) m fs) in
        omega arith

    of_piece : (l : Bool) (next m : ℕ) (p : WalkedPiece) → of_visits (visits_piece l next m p) ≡ given_piece p
    of_piece l next m (WalkedPiece.one w) = of_visits_lem next m w
    of_piece l next m (WalkedPiece.list is) = of_items l next m is
    of_piece l next m (WalkedPiece.text bs) = refl
    of_piece l next m (WalkedPiece.byte b) = refl
    of_piece l next m (WalkedPiece.mark b) = refl
    of_piece l next m (WalkedPiece.number b) = refl

    of_items : (l : Bool) (next m : ℕ) (is : WalkedItems) → of_visits (visits_items l next m is) ≡ given_items is
    of_items l next m WalkedItems.none = refl
    of_items l next m (WalkedItems.hole is) = of_items l next m is
    of_items l next m (WalkedItems.item w is) =
        let k : ℕ = cond l (marked next (mark_of w)) m in
        let a = of_visits_lem next k w in
        let b = of_items l (next + new_in w) m is in
        let c = visits_append (visits next k w) (visits_items l (next + new_in w) m is) in
        omega arith

  -- the entries, then the excluded keys
  unfoldable pub of_entries : List Entry → ℕ
  of_entries [] = 0
  of_entries (e ∷ es) = EI measure e.declarators + of_entries es

  empty_none : (is : Items) → is_empty is ≡ true → EI measure is ≡ 0
  unfolding is_empty total
  empty_none Items.none e = refl
  empty_none (Items.hole is) e = absurd (true≢false (sym e))
  empty_none (Items.item n is) e = absurd (true≢false (sym e))

  of_list : (vs : List Visit) → of_entries (entries vs) + XI measure (excluded_in vs) ≡ of_visits vs
  unfolding entries over entry_at excluded_in of_entries of_visits total
  of_list [] = refl
  of_list (v ∷ vs) =
      let r = of_list vs in
      let a = total_append measure.excluded v.note.excluded (excluded_in vs) in
      by_test (is_empty v.note.entry)
      (λ e. let z = empty_none v.note.entry e in rw e (omega arith))
      (λ e. rw e (omega arith))

  pub list_weighs : (next m : ℕ) (w : Walked) → of_entries (entries (visits next m w)) + XI measure (excluded_in (visits next m w)) ≡ given w
  list_weighs next m w = of_list (visits next m w) ∙ of_visits_lem next m w
