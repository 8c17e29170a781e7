-- The marks of tree and list are distinct, if no key with a mark inside is copied.
-- Assumes nothing.
use mathlib.Core.Path.{◌≡◌, refl, sym, ap, ap₂, subst, ◌∙◌}
use mathlib.Core.Bool.{Bool, true, false, cond, ◌&&◌, ◌||◌, true≢false}
use mathlib.Core.List.{List, [], ◌∷◌, ◌++◌}
use Prim.Native.Nat.{ℕ, zero, suc, ◌+◌, ◌≤◌, ◌<◌}
use native.Mathlib.Omega.{arith}
use lib.Dec.{eqb, ltb}
use borrow.Author.Tests.{eq-eqb, eqb-true, eqb-false, ltb-true, ltb-false}
use Rattle.tree.specs.Tree.{Node, Fields, Piece, Items, count, marks, marks_fields, marks_piece, marks_items}
use Rattle.tree.specs.Tree.Node.{node}
use Rattle.tree.specs.Grammar.{Sort, Field, among, form_at, fields_of, kinds, form_in, kind_of, places, also}
use Rattle.tree.specs.Grammar.Stage.{input, rewritten}
use Rattle.tree.specs.Read.{sort_in}
use Rattle.tree.specs.WellFormed.{Counts, Fits, FitFields, FitPiece, FitItems}
use Rattle.rewritten.specs.Rewritten.{distinct}
use Rattle.lowering.specs.Parts.{nothing, is, stands, items_at_of, any, piece_in, stands_in, as_node, as_items_of, node_at_of}
use Rattle.lowering.specs.Patterns.{key}
use Rattle.lowering.specs.Keys.{key_sort}
use Rattle.lowering.specs.Keys.Key.{name, literal, template, private, again, other}
use Rattle.lowering.specs.Declarations.{is_name_of}
use Rattle.lowering.specs.Walk.{Walked, WalkedFields, WalkedPiece, WalkedItems}
use Rattle.lowering.specs.Walk.Walked.{noted}
use Rattle.lowering.specs.Collect.{Name, Entry, over, nodes, nodes_fields, nodes_piece, nodes_items, new_in, new_in_fields, new_in_piece, new_in_items, marked, bare, bare_fields, bare_piece, bare_items, numbered, numbered_fields, numbered_piece, numbered_items, with_number}
use Rattle.equal.specs.Canonical.{each_entry}
use Rattle.lowering.proofs.Cases.{by_test, by_key, and_left, and_right, or_left, or_right}
use Rattle.result.specs.Left.{keeps_rest}
use Rattle.result.specs.Left.{any_of}
use Rattle.result.proofs.Occurring.{any_split}
use Rattle.result.specs.Marks.{has_any, holds_mark, copies_at}
use Rattle.result.proofs.PlaceRows.{own_form, input_form}
use Rattle.lowering.proofs.PlaceTests.{not_20}
use Rattle.result.proofs.Weighed.{is_copied, weigh, weigh_all, weigh_piece, weigh_items, keys_in, keys_items, sources_in, sources_items, keys_by, sources_by, of_key, key_by_lem, source_by, piece_most, at_most, list_most}
use Rattle.result.proofs.Copies.{Measure}
use Rattle.result.proofs.Tallies.{tally, tally_append, left, left_fields, left_piece, left_items}

-- ---- how often a mark stands

-- one number
abbrev pub hit : ℕ → ℕ → ℕ
hit m x = cond (eqb x m) 1 0

-- whether m lies before k
abbrev pub before : ℕ → ℕ → ℕ
before m k = cond (ltb m k) 1 0

before_next : (m k : ℕ) → hit m k + before m k ≡ before m (k + 1)
before_next m k =
    by_test (eqb k m)
    (λ e. let q = eqb-true k m e in
    by_test (ltb m k)
    (λ a. let x = ltb-true m k a in absurd (omega arith))
    (λ a. by_test (ltb m (k + 1)) (λ b. rw (e, a, b) refl) (λ b. let y = ltb-false m (k + 1) b in absurd (omega arith))))
    (λ e. let q = eqb-false k m e in
    by_test (ltb m k)
    (λ a. let x = ltb-true m k a in
    by_test (ltb m (k + 1)) (λ b. rw (e, a, b) refl) (λ b. let y = ltb-false m (k + 1) b in absurd (omega arith)))
    (λ a. let x = ltb-false m k a in
    by_test (ltb m (k + 1)) (λ b. let y = ltb-true m (k + 1) b in absurd (q (omega arith))) (λ b. rw (e, a, b) refl)))

-- marks that count
pub counted_once : (m k : ℕ) (ms : List ℕ) (j : ℕ) → Counts k ms j → tally (hit m) ms + before m k ≡ before m j
unfolding Counts tally
counted_once m k [] j c = let e : before m k ≡ before m j = ap (before m) c in omega arith
counted_once m k (x ∷ ms) j c =
    let r = counted_once m (k + 1) ms j c.1 in
    let a = before_next m k in
    let e : hit m x ≡ hit m k = ap (hit m) c.0 in
    omega arith

-- no number stands twice
among_tally : (m : ℕ) (ms : List ℕ) → among ms m ≡ true → 1 ≤ tally (hit m) ms
unfolding among tally
among_tally m [] e = absurd (true≢false (sym e))
among_tally m (x ∷ ms) e =
    by_test (eqb x m)
    (λ a. rw a (omega arith))
    (λ a. let r = among_tally m ms (rw a at e) in rw a (omega arith))

pub distinct_by : (ms : List ℕ) → ((m : ℕ) → tally (hit m) ms ≤ 1) → distinct ms ≡ true
unfolding distinct tally
distinct_by [] h = refl
distinct_by (m ∷ ms) h =
    by_test (among ms m)
    (λ a. let x = among_tally m ms a in let y = h m in let z : hit m m ≡ 1 = rw (eq-eqb m m refl) refl in absurd (omega arith))
    (λ a. rw a (distinct_by ms (λ n. let y = h n in omega arith)))

among_append : (m : ℕ) (ms ns : List ℕ) → among (ms ++ ns) m ≡ false → among ms m ≡ false
unfolding among
among_append m [] ns e = refl
among_append m (x ∷ ms) ns e = rw (or_left (eqb x m) (among (ms ++ ns) m) e) (among_append m ms ns (or_right (eqb x m) (among (ms ++ ns) m) e))

pub distinct_front : (ms ns : List ℕ) → distinct (ms ++ ns) ≡ true → distinct ms ≡ true
unfolding distinct
distinct_front [] ns e = refl
distinct_front (m ∷ ms) ns e =
    by_test (among (ms ++ ns) m)
    (λ a. absurd (true≢false (sym (rw a at e))))
    (λ a. rw (among_append m ms ns a) (distinct_front ms ns (rw a at e)))

-- ---- the tree as it is written

module _ {out : ℕ → ℕ} {kin : Node → ℕ} (measure : Measure out kin) (m : ℕ) (is-hit : (x : ℕ) → out (suc x) ≡ hit m (suc x)) where
  marked_once : (k x : ℕ) → hit m (marked k x) + before m k ≡ left_piece measure (WalkedPiece.mark x) + before m (k + new_in_piece (WalkedPiece.mark x))
  unfolding left new_in
  marked_once k zero = let a = before_next m k in let b = measure.new in omega arith
  marked_once k (suc x) = let a = is-hit x in let e : before m (k + 0) ≡ before m k = ap (before m) (omega arith) in omega arith

  mutual
    unfolding bare marks tally left new_in

    pub bare_once : (k : ℕ) (w : Walked) → tally (hit m) (marks (bare k w)) + before m k ≡ left measure w + before m (k + new_in w)
    bare_once k (noted note at j fs) = once_fields k fs

    once_fields : (k : ℕ) (fs : WalkedFields) → tally (hit m) (marks_fields (bare_fields k fs)) + before m k ≡ left_fields measure fs + before m (k + new_in_fields fs)
    once_fields k WalkedFields.done = let e : before m (k + 0) ≡ before m k = ap (before m) (omega arith) in omega arith
    once_fields k (WalkedFields.absent fs) = once_fields k fs
    once_fields k (WalkedFields.field p fs) =
        let a = once_piece k p in
        let b = once_fields (k + new_in_piece p) fs in
        let c = tally_append (hit m) (marks_piece (bare_piece k p)) (marks_fields (bare_fields (k + new_in_piece p) fs)) in
        let e : before m (k + new_in_piece p + new_in_fields fs) ≡ before m (k + (new_in_piece p + new_in_fields fs)) = ap (before m) (omega arith) in
        omega arith

    once_piece : (k : ℕ) (p : WalkedPiece) → tally (hit m) (marks_piece (bare_piece k p)) + before m k ≡ left_piece measure p + before m (k + new_in_piece p)
    once_piece k (WalkedPiece.one w) = bare_once k w
    once_piece k (WalkedPiece.list is) = once_items k is
    once_piece k (WalkedPiece.text bs) = let e : before m (k + 0) ≡ before m k = ap (before m) (omega arith) in omega arith
    once_piece k (WalkedPiece.byte b) = let e : before m (k + 0) ≡ before m k = ap (before m) (omega arith) in omega arith
    once_piece k (WalkedPiece.mark x) = let h = marked_once k x in omega arith
    once_piece k (WalkedPiece.number b) = let e : before m (k + 0) ≡ before m k = ap (before m) (omega arith) in omega arith

    once_items : (k : ℕ) (is : WalkedItems) → tally (hit m) (marks_items (bare_items k is)) + before m k ≡ left_items measure is + before m (k + new_in_items is)
    once_items k WalkedItems.none = let e : before m (k + 0) ≡ before m k = ap (before m) (omega arith) in omega arith
    once_items k (WalkedItems.hole is) = once_items k is
    once_items k (WalkedItems.item w is) =
        let a = bare_once k w in
        let b = once_items (k + new_in w) is in
        let c = tally_append (hit m) (marks (bare k w)) (marks_items (bare_items (k + new_in w) is)) in
        let e : before m (k + new_in w + new_in_items is) ≡ before m (k + (new_in w + new_in_items is)) = ap (before m) (omega arith) in
        omega arith

-- mark 0 is none of them
marked_zero : (k x : ℕ) → 0 < k → hit 0 (marked k x) ≡ 0
marked_zero k zero h = by_test (eqb k 0) (λ e. let q = eqb-true k 0 e in absurd (omega arith)) (λ e. rw e refl)
marked_zero k (suc x) h = by_test (eqb (suc x) 0) (λ e. let q = eqb-true (suc x) 0 e in absurd (omega arith)) (λ e. rw e refl)

mutual
  unfolding bare marks tally new_in

  pub bare_zero : (k : ℕ) (w : Walked) → 0 < k → tally (hit 0) (marks (bare k w)) ≡ 0
  bare_zero k (noted note at j fs) h = zero_fields k fs h

  zero_fields : (k : ℕ) (fs : WalkedFields) → 0 < k → tally (hit 0) (marks_fields (bare_fields k fs)) ≡ 0
  zero_fields k WalkedFields.done h = refl
  zero_fields k (WalkedFields.absent fs) h = zero_fields k fs h
  zero_fields k (WalkedFields.field p fs) h =
      let a = zero_piece k p h in
      let b = zero_fields (k + new_in_piece p) fs (omega arith) in
      let c = tally_append (hit 0) (marks_piece (bare_piece k p)) (marks_fields (bare_fields (k + new_in_piece p) fs)) in
      omega arith

  zero_piece : (k : ℕ) (p : WalkedPiece) → 0 < k → tally (hit 0) (marks_piece (bare_piece k p)) ≡ 0
  zero_piece k (WalkedPiece.one w) h = bare_zero k w h
  zero_piece k (WalkedPiece.list is) h = zero_items k is h
  zero_piece k (WalkedPiece.text bs) h = refl
  zero_piece k (WalkedPiece.byte b) h = refl
  zero_piece k (WalkedPiece.mark x) h = let a = marked_zero k x h in omega arith
  zero_piece k (WalkedPiece.number b) h = refl

  zero_items : (k : ℕ) (is : WalkedItems) → 0 < k → tally (hit 0) (marks_items (bare_items k is)) ≡ 0
  zero_items k WalkedItems.none h = refl
  zero_items k (WalkedItems.hole is) h = zero_items k is h
  zero_items k (WalkedItems.item w is) h =
      let a = bare_zero k w h in
      let b = zero_items (k + new_in w) is (omega arith) in
      let c = tally_append (hit 0) (marks (bare k w)) (marks_items (bare_items (k + new_in w) is)) in
      omega arith

-- numbers that are given to temporaries add no mark
module _ (f : ℕ → ℕ) (ns : List Name) where
  mutual
    unfolding numbered with_number marks tally

    pub numbered_tally : (n : Node) → tally f (marks (numbered ns n)) ≤ tally f (marks n)
    numbered_tally (node at k fs) =
        by_test (eqb k 20)
        (λ e. rw e (omega arith))
        (λ e. rw e (numbered_fields_lem fs))

    numbered_fields_lem : (fs : Fields) → tally f (marks_fields (numbered_fields ns fs)) ≤ tally f (marks_fields fs)
    numbered_fields_lem Fields.done = omega arith
    numbered_fields_lem (Fields.absent fs) = numbered_fields_lem fs
    numbered_fields_lem (Fields.field p fs) =
        let a = numbered_piece_lem p in let b = numbered_fields_lem fs in
        let c = tally_append f (marks_piece p) (marks_fields fs) in
        let d = tally_append f (marks_piece (numbered_piece ns p)) (marks_fields (numbered_fields ns fs)) in
        omega arith

    numbered_piece_lem : (p : Piece) → tally f (marks_piece (numbered_piece ns p)) ≤ tally f (marks_piece p)
    numbered_piece_lem (Piece.one n) = numbered_tally n
    numbered_piece_lem (Piece.list is) = numbered_items_lem is
    numbered_piece_lem (Piece.text bs) = omega arith
    numbered_piece_lem (Piece.byte b) = omega arith
    numbered_piece_lem (Piece.mark b) = omega arith
    numbered_piece_lem (Piece.number b) = omega arith

    pub numbered_items_lem : (is : Items) → tally f (marks_items (numbered_items ns is)) ≤ tally f (marks_items is)
    numbered_items_lem Items.none = omega arith
    numbered_items_lem (Items.hole is) = numbered_items_lem is
    numbered_items_lem (Items.item n is) =
        let a = numbered_tally n in let b = numbered_items_lem is in
        let c = tally_append f (marks n) (marks_items is) in
        let d = tally_append f (marks (numbered ns n)) (marks_items (numbered_items ns is)) in
        omega arith

  pub numbered_entries : (es : List Entry) → tally f (over (λ e. marks_items e.declarators) (each_entry (λ is. numbered_items ns is) es)) ≤ tally f (over (λ e. marks_items e.declarators) es)
  unfolding over each_entry tally
  numbered_entries [] = omega arith
  numbered_entries (e ∷ es) =
      let a = numbered_items_lem e.declarators in
      let b = numbered_entries es in
      let c = tally_append f (marks_items e.declarators) (over (λ e. marks_items e.declarators) es) in
      let d = tally_append f (marks_items (numbered_items ns e.declarators)) (over (λ e. marks_items e.declarators) (each_entry (λ is. numbered_items ns is) es)) in
      omega arith

-- ---- a tree without marks that count weighs nothing

part_tally : (f : ℕ → ℕ) (fs : Fields) (i : ℕ) → tally f (marks_piece (piece_in fs i)) ≤ tally f (marks_fields fs)
unfolding marks tally piece_in
part_tally f Fields.done i = omega arith
part_tally f (Fields.absent fs) zero = omega arith
part_tally f (Fields.absent fs) (suc i) = part_tally f fs i
part_tally f (Fields.field p fs) zero = let c = tally_append f (marks_piece p) (marks_fields fs) in omega arith
part_tally f (Fields.field p fs) (suc i) = let r = part_tally f fs i in let c = tally_append f (marks_piece p) (marks_fields fs) in omega arith

node_tally : (f : ℕ → ℕ) (p : Piece) → tally f (marks (as_node p)) ≤ tally f (marks_piece p)
unfolding marks tally
node_tally f (Piece.one n) = omega arith
node_tally f (Piece.list n) = omega arith
node_tally f (Piece.text n) = omega arith
node_tally f (Piece.byte n) = omega arith
node_tally f (Piece.mark n) = omega arith
node_tally f (Piece.number n) = omega arith

at_tally : (f : ℕ → ℕ) (i : ℕ) (n : Node) → tally f (marks (node_at_of i n)) ≤ tally f (marks n)
unfolding node_at_of marks
at_tally f i (node at k fs) = let a = node_tally f (piece_in fs i) in let b = part_tally f fs i in omega arith

list_tally : (f : ℕ → ℕ) (p : Piece) → tally f (marks_items (as_items_of p)) ≤ tally f (marks_piece p)
unfolding marks tally
list_tally f (Piece.one n) = omega arith
list_tally f (Piece.list n) = omega arith
list_tally f (Piece.text n) = omega arith
list_tally f (Piece.byte n) = omega arith
list_tally f (Piece.mark n) = omega arith
list_tally f (Piece.number n) = omega arith

module _ (out : ℕ → ℕ) (kin : Node → ℕ) (none_kin : kin nothing ≡ 0) where
  -- names that weigh nothing are no more if they are read again
  pub sources_none : (ds : Items) → weigh_items out kin ds ≡ 0 → sources_items out kin ds ≡ 0
  unfolding weigh
  sources_none Items.none h = refl
  sources_none (Items.hole ds) h = sources_none ds h
  sources_none (Items.item d ds) h =
      let r = sources_none ds (omega arith) in
      let e = source_by out kin d in
      let a = at_most out kin 1 d in
      let b = twice (is_name_of (node_at_of 1 d)) (weigh out kin (node_at_of 1 d)) (omega arith) in
      omega arith
    where
      twice : (b : Bool) (x : ℕ) → x ≡ 0 → cond b (x + x) 0 ≡ 0
      twice true x h = omega arith
      twice false x h = refl

  pub key_none : (r : Bool) (k : Node) → (r ≡ true → kin k ≡ 0) → weigh out kin k ≡ 0 → of_key out kin r k ≡ 0
  key_none true k a b = let c = under (is_copied k) in let d = a refl in omega arith
    where
      under : (b : Bool) → cond b (weigh out kin k + kin k) 0 ≡ 0
      under true = let d = a refl in omega arith
      under false = refl
  key_none false k a b = refl

  module _ (f : ℕ → ℕ) (no-out : (x : ℕ) → f x ≡ 0 → out x ≡ 0) (no-kin : (k : Node) → tally f (marks k) ≡ 0 → kin k ≡ 0) where
    keys_none : (r : Bool) (qs : Items) → weigh_items out kin qs ≡ 0 → tally f (marks_items qs) ≡ 0 → keys_items out kin r qs ≡ 0
    unfolding weigh marks
    keys_none r Items.none h t = refl
    keys_none r (Items.hole qs) h t = keys_none r qs h t
    keys_none r (Items.item q qs) h t =
        let c = tally_append f (marks q) (marks_items qs) in
        let a = keys_none r qs (omega arith) (omega arith) in
        let e = key_by_lem out kin none_kin r q in
        let u = at_most out kin 0 q in
        let v = at_tally f 0 q in
        let z = key_none r (key q) (λ e. no-kin (key q) (omega arith)) (omega arith) in
        omega arith

    besides_none : (k : ℕ) (fs : Fields) → weigh_all out kin fs ≡ 0 → tally f (marks_fields fs) ≡ 0 → cond (eqb k 34) (keys_in out kin (stands_in fs 1) fs) (cond (eqb k 4) (sources_in out kin fs 2) 0) ≡ 0
    besides_none k fs h t =
        let a = piece_most out kin fs 0 in
        let a' = list_most out kin (piece_in fs 0) in
        let b = part_tally f fs 0 in
        let b' = list_tally f (piece_in fs 0) in
        let c = piece_most out kin fs 2 in
        let c' = list_most out kin (piece_in fs 2) in
        let u = keys_by out kin (stands_in fs 1) fs ∙ keys_none (stands_in fs 1) (as_items_of (piece_in fs 0)) (omega arith) (omega arith) in
        let v = sources_by out kin fs 2 ∙ sources_none (as_items_of (piece_in fs 2)) (omega arith) in
        both (eqb k 34) (eqb k 4) u v
      where
        both : (a b : Bool) {x y : ℕ} → x ≡ 0 → y ≡ 0 → cond a x (cond b y 0) ≡ 0
        both true b u v = u
        both false true u v = v
        both false false u v = refl

    mutual
      unfolding weigh marks tally

      pub weighs_none : (n : Node) → tally f (marks n) ≡ 0 → weigh out kin n ≡ 0
      weighs_none (node at k fs) t =
          let a = none_fields fs t in
          let b = besides_none k fs a t in
          omega arith

      none_fields : (fs : Fields) → tally f (marks_fields fs) ≡ 0 → weigh_all out kin fs ≡ 0
      none_fields Fields.done t = refl
      none_fields (Fields.absent fs) t = none_fields fs t
      none_fields (Fields.field p fs) t =
          let c = tally_append f (marks_piece p) (marks_fields fs) in
          let a = none_piece p (omega arith) in
          let b = none_fields fs (omega arith) in
          omega arith

      none_piece : (p : Piece) → tally f (marks_piece p) ≡ 0 → weigh_piece out kin p ≡ 0
      none_piece (Piece.one n) t = weighs_none n t
      none_piece (Piece.list is) t = none_items is t
      none_piece (Piece.text bs) t = refl
      none_piece (Piece.byte b) t = refl
      none_piece (Piece.mark m) t = no-out m (omega arith)
      none_piece (Piece.number b) t = refl

      none_items : (is : Items) → tally f (marks_items is) ≡ 0 → weigh_items out kin is ≡ 0
      none_items Items.none t = refl
      none_items (Items.hole is) t = none_items is t
      none_items (Items.item n is) t =
          let c = tally_append f (marks n) (marks_items is) in
          let a = weighs_none n (omega arith) in
          let b = none_items is (omega arith) in
          omega arith

-- ---- an input in which no key with a mark inside is copied weighs its marks

form_18 : (p : ℕ) → 0 < form_at rewritten p 18 → form_at rewritten p 18 ≡ 18
unfolding form_in kind_of places also among
form_18 = own_form 18 refl refl refl

-- fields of texts, bytes and numbers have no mark, and so a name has none
abbrev pub is_leaf_of : Sort → Bool
is_leaf_of (Sort.child p) = false
is_leaf_of (Sort.chosen p q) = false
is_leaf_of (Sort.many p) = false
is_leaf_of (Sort.gaps p) = false
is_leaf_of Sort.text = true
is_leaf_of (Sort.byte a b) = true
is_leaf_of Sort.mark = false
is_leaf_of Sort.number = true

abbrev pub are_leaves : List Field → Bool
are_leaves [] = true
are_leaves (f ∷ ts) = is_leaf_of (sort_in f) && are_leaves ts

leaf_piece : {b : ℕ} {s : Sort} {p : Piece} → FitPiece input b s p → is_leaf_of s ≡ true → marks_piece p ≡ []
unfolding marks
leaf_piece (FitPiece.child f) e = absurd (true≢false (sym e))
leaf_piece (FitPiece.chosen f) e = absurd (true≢false (sym e))
leaf_piece (FitPiece.many a f) e = absurd (true≢false (sym e))
leaf_piece (FitPiece.gaps a f) e = absurd (true≢false (sym e))
leaf_piece (FitPiece.text a b) e = refl
leaf_piece (FitPiece.byte a b c) e = refl
leaf_piece (FitPiece.mark a) e = absurd (true≢false (sym e))
leaf_piece (FitPiece.number a) e = refl

name_fields : {b : ℕ} {ts : List Field} {fs : Fields} → FitFields input b ts fs → are_leaves ts ≡ true → marks_fields fs ≡ []
unfolding marks
name_fields FitFields.done e = refl
name_fields (FitFields.absent {t = t} {ts = ts} f) e = name_fields f (and_right (is_leaf_of t) (are_leaves ts) e)
name_fields (FitFields.field {f = g} {ts = ts} {p = p} {fs = fs} a f) e =
    ap₂ (λ (x y : List ℕ). x ++ y) (leaf_piece a (and_left (is_leaf_of (sort_in g)) (are_leaves ts) e)) (name_fields f (and_right (is_leaf_of (sort_in g)) (are_leaves ts) e))

name_marks : {p : ℕ} {n : Node} → Fits input p n → is_name_of n ≡ true → marks n ≡ []
unfolding is_name_of is marks fields_of kinds
name_marks (Fits.fits {p = p} {k = k} {fs = fs} z f) e =
    by_test (eqb k 18)
    (λ a. let q = eqb-true k 18 a in
    let z₁ : 0 < form_at input p 18 = subst (λ (x : ℕ). 0 < form_at input p x) q z in
    let g : form_at input p 18 ≡ 18 = sym (input_form p 18 z₁) ∙ form_18 p (subst (λ (x : ℕ). 0 < x) (sym (input_form p 18 z₁)) z₁) in
    name_fields (subst (λ (x : ℕ). FitFields input 0 (fields_of x) fs) (ap (λ (x : ℕ). form_at input p x) q ∙ g) f) refl)
    (λ a. absurd (true≢false (sym (rw a at e) ∙ not_20 p k z)))

piece_name : {b : ℕ} {s : Sort} {p : Piece} → FitPiece input b s p → is_name_of (as_node p) ≡ true → marks (as_node p) ≡ []
unfolding marks
piece_name (FitPiece.child f) e = name_marks f e
piece_name (FitPiece.chosen f) e = name_marks f e
piece_name (FitPiece.many a f) e = refl
piece_name (FitPiece.gaps a f) e = refl
piece_name (FitPiece.text a b) e = refl
piece_name (FitPiece.byte a b c) e = refl
piece_name (FitPiece.mark a) e = refl
piece_name (FitPiece.number a) e = refl

field_name : {b : ℕ} {ts : List Field} {fs : Fields} → FitFields input b ts fs → (i : ℕ) → is_name_of (as_node (piece_in fs i)) ≡ true → marks (as_node (piece_in fs i)) ≡ []
unfolding piece_in marks
field_name FitFields.done i e = refl
field_name (FitFields.absent f) zero e = refl
field_name (FitFields.absent f) (suc i) e = field_name f i e
field_name (FitFields.field a f) zero e = piece_name a e
field_name (FitFields.field a f) (suc i) e = field_name f i e

at_name : {p : ℕ} (i : ℕ) {n : Node} → Fits input p n → is_name_of (node_at_of i n) ≡ true → marks (node_at_of i n) ≡ []
unfolding node_at_of
at_name i (Fits.fits z f) e = field_name f i e

again_name : (k : Node) → key_sort k ≡ again → is_name_of k ≡ true
unfolding key_sort is_name_of
again_name k e = go (is 38 k) (is 22 k) (is 23 k && eqb (count (items_at_of 0 k)) 1) (is 39 k) (is 20 k) (is 18 k) (stands 1 k) e
  where
    go : (a b c d t r s : Bool) → cond a name (cond b literal (cond c template (cond d private (cond (t || (r && s)) again other)))) ≡ again → (r || t) ≡ true
    go true b c d t r s w = let z : ◌≡◌ {A = ℕ} 0 1 = cc in absurd (omega arith)
    go false true c d t r s w = let z : ◌≡◌ {A = ℕ} 0 1 = cc in absurd (omega arith)
    go false false true d t r s w = let z : ◌≡◌ {A = ℕ} 0 1 = cc in absurd (omega arith)
    go false false false true t r s w = let z : ◌≡◌ {A = ℕ} 0 1 = cc in absurd (omega arith)
    go false false false false true true s w = refl
    go false false false false true false s w = refl
    go false false false false false true s w = refl
    go false false false false false false s w = let z : ◌≡◌ {A = ℕ} 0 1 = cc in absurd (omega arith)

pub template_is : (k : Node) → key_sort k ≡ template → (is 23 k ≡ true) × (eqb (count (items_at_of 0 k)) 1 ≡ true)
unfolding key_sort
template_is k e = go (is 38 k) (is 22 k) (is 23 k) (eqb (count (items_at_of 0 k)) 1) (is 39 k) (is 20 k || (is 18 k && stands 1 k)) e
  where
    go : (a b c d t r : Bool) → cond a name (cond b literal (cond (c && d) template (cond t private (cond r again other)))) ≡ template → (c ≡ true) × (d ≡ true)
    go true b c d t r w = let z : ◌≡◌ {A = ℕ} 0 1 = cc in absurd (omega arith)
    go false true c d t r w = let z : ◌≡◌ {A = ℕ} 0 1 = cc in absurd (omega arith)
    go false false true true t r w = (refl, refl)
    go false false true false true r w = let z : ◌≡◌ {A = ℕ} 0 1 = cc in absurd (omega arith)
    go false false true false false true w = let z : ◌≡◌ {A = ℕ} 0 1 = cc in absurd (omega arith)
    go false false true false false false w = let z : ◌≡◌ {A = ℕ} 0 1 = cc in absurd (omega arith)
    go false false false d true r w = let z : ◌≡◌ {A = ℕ} 0 1 = cc in absurd (omega arith)
    go false false false d false true w = let z : ◌≡◌ {A = ℕ} 0 1 = cc in absurd (omega arith)
    go false false false d false false w = let z : ◌≡◌ {A = ℕ} 0 1 = cc in absurd (omega arith)

none_any : (ms : List ℕ) → has_any ms ≡ false → ms ≡ []
none_any [] e = refl
none_any (m ∷ ms) e = absurd (true≢false e)

template_marks : (k : Node) → key_sort k ≡ template → holds_mark k ≡ false → marks k ≡ []
unfolding holds_mark
template_marks k e h = let t = template_is k e in none_any (marks k) (rw (t.0, t.1) at h)

-- a key that is copied has no mark
copied_marks : {p : ℕ} {q : Node} → Fits input p q → holds_mark (key q) ≡ false → is_copied (key q) ≡ true → marks (key q) ≡ []
unfolding is_copied
copied_marks {q = q} f h e =
    by_key (key_sort (key q))
    (λ a. absurd (true≢false (sym e ∙ rw (a, is_copied) refl)))
    (λ a. absurd (true≢false (sym e ∙ rw (a, is_copied) refl)))
    (λ a. template_marks (key q) a h)
    (λ a. absurd (true≢false (sym e ∙ rw (a, is_copied) refl)))
    (λ a. at_name 0 f (again_name (key q) a))
    (λ a. absurd (true≢false (sym e ∙ rw (a, is_copied) refl)))

module _ (out : ℕ → ℕ) where
  abbrev bare_kin : Node → ℕ
  bare_kin k = 0

  abbrev load : Node → ℕ
  load n = weigh out bare_kin n

  unmarked : (n : Node) → marks n ≡ [] → load n ≡ 0
  unfolding tally
  unmarked n e = weighs_none out bare_kin refl out (λ x h. h) (λ k h. refl) n (ap (tally out) e)

  -- the keys of an object pattern
  keys_plain : {p : ℕ} {h : Bool} {qs : Items} → FitItems input p h qs → (r : Bool) → (r ≡ true → any (λ q. holds_mark (key q)) qs ≡ false) → keys_items out bare_kin r qs ≡ 0
  unfolding weigh any
  keys_plain FitItems.none r k = refl
  keys_plain (FitItems.hole f) r k = keys_plain f r k
  keys_plain (FitItems.item {n = q} {is = qs} a f) r k =
      let e = key_by_lem out bare_kin refl r q in
      let z = keys_plain f r (λ y. or_right (holds_mark (key q)) (any (λ q. holds_mark (key q)) qs) (k y)) in
      let u = under (is_copied (key q)) r refl (λ y. or_left (holds_mark (key q)) (any (λ q. holds_mark (key q)) qs) (k y)) in
      omega arith
    where
      under : (b r : Bool) → is_copied (key q) ≡ b → (r ≡ true → holds_mark (key q) ≡ false) → cond r (0 + cond b (load (key q) + 0) 0) 0 ≡ 0
      under true true e h = let z = unmarked (key q) (copied_marks a (h refl) e) in omega arith
      under false true e h = refl
      under b false e h = refl

  sources_plain : {p : ℕ} {h : Bool} {ds : Items} → FitItems input p h ds → sources_items out bare_kin ds ≡ 0
  unfolding weigh
  sources_plain FitItems.none = refl
  sources_plain (FitItems.hole f) = sources_plain f
  sources_plain (FitItems.item {n = d} a f) =
      let e = source_by out bare_kin d in
      let z = sources_plain f in
      let u = under (is_name_of (node_at_of 1 d)) refl in
      omega arith
    where
      under : (b : Bool) → is_name_of (node_at_of 1 d) ≡ b → cond b (load (node_at_of 1 d) + load (node_at_of 1 d)) 0 ≡ 0
      under true e = let z = unmarked (node_at_of 1 d) (at_name 1 a e) in omega arith
      under false e = refl

  keys_piece_lem : {b : ℕ} {s : Sort} {p : Piece} → FitPiece input b s p → (r : Bool) → (r ≡ true → any (λ q. holds_mark (key q)) (as_items_of p) ≡ false) → keys_items out bare_kin r (as_items_of p) ≡ 0
  unfolding weigh
  keys_piece_lem (FitPiece.child f) r k = refl
  keys_piece_lem (FitPiece.chosen f) r k = refl
  keys_piece_lem (FitPiece.many a f) r k = keys_plain f r k
  keys_piece_lem (FitPiece.gaps a f) r k = keys_plain f r k
  keys_piece_lem (FitPiece.text a b) r k = refl
  keys_piece_lem (FitPiece.byte a b c) r k = refl
  keys_piece_lem (FitPiece.mark a) r k = refl
  keys_piece_lem (FitPiece.number a) r k = refl

  keys_field : {b : ℕ} {ts : List Field} {fs : Fields} → FitFields input b ts fs → (i : ℕ) (r : Bool) → (r ≡ true → any (λ q. holds_mark (key q)) (as_items_of (piece_in fs i)) ≡ false) → keys_items out bare_kin r (as_items_of (piece_in fs i)) ≡ 0
  unfolding weigh piece_in
  keys_field FitFields.done i r k = refl
  keys_field (FitFields.absent f) zero r k = refl
  keys_field (FitFields.absent f) (suc i) r k = keys_field f i r k
  keys_field (FitFields.field a f) zero r k = keys_piece_lem a r k
  keys_field (FitFields.field a f) (suc i) r k = keys_field f i r k

  sources_piece_lem : {b : ℕ} {s : Sort} {p : Piece} → FitPiece input b s p → sources_items out bare_kin (as_items_of p) ≡ 0
  unfolding weigh
  sources_piece_lem (FitPiece.child f) = refl
  sources_piece_lem (FitPiece.chosen f) = refl
  sources_piece_lem (FitPiece.many a f) = sources_plain f
  sources_piece_lem (FitPiece.gaps a f) = sources_plain f
  sources_piece_lem (FitPiece.text a b) = refl
  sources_piece_lem (FitPiece.byte a b c) = refl
  sources_piece_lem (FitPiece.mark a) = refl
  sources_piece_lem (FitPiece.number a) = refl

  sources_field : {b : ℕ} {ts : List Field} {fs : Fields} → FitFields input b ts fs → (i : ℕ) → sources_items out bare_kin (as_items_of (piece_in fs i)) ≡ 0
  unfolding weigh piece_in
  sources_field FitFields.done i = refl
  sources_field (FitFields.absent f) zero = refl
  sources_field (FitFields.absent f) (suc i) = sources_field f i
  sources_field (FitFields.field a f) zero = sources_piece_lem a
  sources_field (FitFields.field a f) (suc i) = sources_field f i

  besides_plain : {b : ℕ} {ts : List Field} (at k : ℕ) {fs : Fields} → FitFields input b ts fs → copies_at (node at k fs) ≡ false
      → cond (eqb k 34) (keys_in out bare_kin (stands_in fs 1) fs) (cond (eqb k 4) (sources_in out bare_kin fs 2) 0) ≡ 0
  unfolding copies_at keeps_rest is stands items_at_of
  besides_plain at k {fs = fs} f h =
      by_test (eqb k 34)
      (λ e. rw e (keys_by out bare_kin (stands_in fs 1) fs ∙ keys_field f 0 (stands_in fs 1) (λ r. rw (e, r) at h)))
      (λ e. let v = sources_by out bare_kin fs 2 ∙ sources_field f 2 in rw e (under (eqb k 4) v))
    where
      under : (b : Bool) {x : ℕ} → x ≡ 0 → cond b x 0 ≡ 0
      under true v = v
      under false v = refl

  mutual
    unfolding weigh marks tally nodes any_of

    pub weighs_marks : {p : ℕ} {n : Node} → Fits input p n → any_of copies_at (nodes n) ≡ false → load n ≤ tally out (marks n)
    weighs_marks (Fits.fits {at = at} {k = k} {fs = fs} z f) h =
        let a = marks_fields_lem f (or_right (copies_at (node at k fs)) (any_of copies_at (nodes_fields fs)) h) in
        let b = besides_plain at k f (or_left (copies_at (node at k fs)) (any_of copies_at (nodes_fields fs)) h) in
        omega arith

    marks_fields_lem : {b : ℕ} {ts : List Field} {fs : Fields} → FitFields input b ts fs → any_of copies_at (nodes_fields fs) ≡ false → weigh_all out bare_kin fs ≤ tally out (marks_fields fs)
    marks_fields_lem FitFields.done h = omega arith
    marks_fields_lem (FitFields.absent f) h = marks_fields_lem f h
    marks_fields_lem (FitFields.field {p = p} {fs = fs} a f) h =
        let s = any_split copies_at (nodes_piece p) (nodes_fields fs) h in
        let x = marks_piece_lem a s.0 in
        let y = marks_fields_lem f s.1 in
        let c = tally_append out (marks_piece p) (marks_fields fs) in
        omega arith

    marks_piece_lem : {b : ℕ} {s : Sort} {p : Piece} → FitPiece input b s p → any_of copies_at (nodes_piece p) ≡ false → weigh_piece out bare_kin p ≤ tally out (marks_piece p)
    marks_piece_lem (FitPiece.child f) h = weighs_marks f h
    marks_piece_lem (FitPiece.chosen f) h = weighs_marks f h
    marks_piece_lem (FitPiece.many a f) h = marks_items_lem f h
    marks_piece_lem (FitPiece.gaps a f) h = marks_items_lem f h
    marks_piece_lem (FitPiece.text a b) h = omega arith
    marks_piece_lem (FitPiece.byte a b c) h = omega arith
    marks_piece_lem (FitPiece.mark a) h = omega arith
    marks_piece_lem (FitPiece.number a) h = omega arith

    marks_items_lem : {p : ℕ} {h : Bool} {is : Items} → FitItems input p h is → any_of copies_at (nodes_items is) ≡ false → weigh_items out bare_kin is ≤ tally out (marks_items is)
    marks_items_lem FitItems.none h = omega arith
    marks_items_lem (FitItems.hole f) h = marks_items_lem f h
    marks_items_lem (FitItems.item {n = n} {is = is} a f) h =
        let s = any_split copies_at (nodes n) (nodes_items is) h in
        let x = weighs_marks a s.0 in
        let y = marks_items_lem f s.1 in
        let c = tally_append out (marks n) (marks_items is) in
        omega arith
