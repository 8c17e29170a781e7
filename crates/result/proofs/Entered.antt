-- Each entry has the mark of a statement that stands in a container of the tree that is written.
-- Assumes nothing.
use mathlib.Core.Path.{◌≡◌, refl, sym, ap, subst, ◌∙◌}
use mathlib.Core.Bool.{Bool, true, false, cond, ◌&&◌, ◌||◌, true≢false}
use mathlib.Core.List.{List, [], ◌∷◌, ◌++◌}
use mathlib.Core.Option.{Option, some}
use Prim.Native.Nat.{ℕ, zero, suc, ◌+◌, ◌<◌, ◌≤◌}
use native.Mathlib.Omega.{arith}
use lib.Dec.{eqb, ltb}
use borrow.Author.Tests.{eq-eqb, eqb-true}
use Rattle.tree.specs.Tree.{Node, Fields, Piece, Items}
use Rattle.tree.specs.Tree.Node.{node}
use Rattle.tree.specs.Grammar.{Sort, Field, among, form_at, form_in, fields_of, allowed, also, places, kinds, variants, kind_of}
use Rattle.tree.specs.Grammar.Stage.{rewritten}
use Rattle.tree.specs.Read.{sort_in}
use Rattle.lowering.specs.Parts.{is_empty}
use Rattle.lowering.specs.Made.{Context}
use Rattle.lowering.specs.Walk.{Note, Walked, each_item_of, each_piece, each_field, inside, unchanged, rewrite, within, walk, rule_of}
use Rattle.lowering.specs.Weight.{weight, walked}
use Rattle.lowering.specs.Collect.{Name, Visit, over, entry_at, entries, new_in, new_in_piece, is_container, mark_of, mark_in, marked, bare, bare_fields, bare_piece, bare_items, visits, visits_fields, visits_piece, visits_items, first_refusal, numbered, numbered_fields, numbered_piece, numbered_items}
use Rattle.equal.specs.Canonical.{each_entry}
use Rattle.joining.specs.Join as join
use Rattle.joining.specs.Join.{own_mark, first_mark, as_list, found, found_fields, found_piece, found_items}
use Rattle.joining.specs.Answer.{all_found_of}
use Rattle.lowering.proofs.Cases.{by_test, and_left, and_right}
use Rattle.lowering.proofs.All.{AllItems, AllPiece, AllFields, Each, weaker_each, weaker_piece}
use Rattle.lowering.proofs.Weights.{weight_pos}
use Rattle.lowering.proofs.Falls.{falls}
use Rattle.lowering.proofs.PlaceTests.{all_rows}
use Rattle.lowering.proofs.RefusalsMet.{no_refusal, no_refusal_here}
use Rattle.result.proofs.PlaceRows.{lone, own_form, plainly}
use Rattle.result.proofs.Lies.{Texts, Lies, LieFields, LiePiece, LieItems, apart, may_stand}
use Rattle.result.proofs.PatternPlaces.{place_passes}
use Rattle.result.proofs.Distinct.{is_leaf_of, are_leaves}
use Rattle.result.proofs.Rules.{leaves}
use Rattle.result.proofs.Comes.{not_refused}
use Rattle.rewritten.proofs.Marks.{same_either_way}

-- ---- the two tests for containers are one

same_container : (k : ℕ) → join.is_container k ≡ is_container k
unfolding is_container among
same_container k = rw (same_either_way 1 k, same_either_way 2 k, same_either_way 16 k, same_either_way 42 k, same_either_way 44 k) (ends (eqb k 1) (eqb k 2) (eqb k 16) (eqb k 42) (eqb k 44))
  where
    ends : (a b c d e : Bool) → (a || (b || (c || (d || (e || false))))) ≡ ((((a || b) || c) || d) || e)
    ends true b c d e = refl
    ends false true c d e = refl
    ends false false true d e = refl
    ends false false false true e = refl
    ends false false false false true = refl
    ends false false false false false = refl

-- ---- the grammar: what stands in a container's list is a statement, with its mark first, or a literal

-- a field of fields that lists statements or literals, if it is a list
abbrev listed : Sort → Bool
listed (Sort.child p) = true
listed (Sort.chosen p q) = true
listed (Sort.many p) = eqb p 1 || eqb p 10
listed (Sort.gaps p) = false
listed Sort.text = true
listed (Sort.byte a b) = true
listed Sort.mark = true
listed Sort.number = true

abbrev all_listed : List Field → Bool
all_listed [] = true
all_listed (f ∷ ts) = listed (sort_in f) && all_listed ts

abbrev begins : List Field → Bool
begins [] = false
begins (Field.must (Sort.child p) ∷ ts) = false
begins (Field.must (Sort.chosen p q) ∷ ts) = false
begins (Field.must (Sort.many p) ∷ ts) = false
begins (Field.must (Sort.gaps p) ∷ ts) = false
begins (Field.must Sort.text ∷ ts) = false
begins (Field.must (Sort.byte a b) ∷ ts) = false
begins (Field.must Sort.mark ∷ ts) = true
begins (Field.must Sort.number ∷ ts) = false
begins (Field.may s ∷ ts) = false

statement_begins : (k : ℕ) → 0 < form_at rewritten 1 k → begins (fields_of (form_at rewritten 1 k)) ≡ true
unfolding allowed also among places fields_of kinds variants
statement_begins k z = (place_passes (λ f. begins (fields_of f)) 1 k refl z).0

container_form : (q k : ℕ) → is_container k ≡ true → 0 < form_at rewritten q k → all_listed (fields_of (form_at rewritten q k)) ≡ true
unfolding is_container form_in kind_of places also among fields_of kinds
container_form q k c z =
    one 1 refl refl refl refl
    (λ e₁. one 2 refl refl refl refl
    (λ e₂. one 16 refl refl refl refl
    (λ e₃. one 42 refl refl refl refl
    (λ e₄. one 44 refl refl refl refl
    (λ e₅. absurd (true≢false (sym c ∙ rw (e₁, e₂, e₃, e₄, e₅) refl)))))))
  where
    one : (j : ℕ) → ltb j 64 ≡ true → plainly j [] ≡ true → all_rows (plainly j) places ≡ true → all_listed (fields_of j) ≡ true
        → (eqb k j ≡ false → all_listed (fields_of (form_at rewritten q k)) ≡ true) → all_listed (fields_of (form_at rewritten q k)) ≡ true
    one j l y a t other =
        by_test (eqb k j)
        (λ e. let u = eqb-true k j e in
        let v : form_at rewritten q k ≡ j = ap (form_at rewritten q) u ∙ own_form j l y a q (subst (λ (x : ℕ). 0 < form_at rewritten q x) u z) in
        rw v t)
        other

-- fields whose first is a mark
abbrev mark_first : Fields → Bool
mark_first Fields.done = false
mark_first (Fields.absent fs) = false
mark_first (Fields.field (Piece.one n) fs) = false
mark_first (Fields.field (Piece.list n) fs) = false
mark_first (Fields.field (Piece.text n) fs) = false
mark_first (Fields.field (Piece.byte n) fs) = false
mark_first (Fields.field (Piece.mark n) fs) = true
mark_first (Fields.field (Piece.number n) fs) = false

mark_first_lem : {T : Texts} {b : ℕ} {ts : List Field} {fs : Fields} → LieFields T b ts fs → begins ts ≡ true → mark_first fs ≡ true
mark_first_lem LieFields.done e = absurd (true≢false (sym e))
mark_first_lem (LieFields.absent a) e = absurd (true≢false (sym e))
mark_first_lem (LieFields.needed (LiePiece.child x) a) e = absurd (true≢false (sym e))
mark_first_lem (LieFields.needed (LiePiece.chosen x) a) e = absurd (true≢false (sym e))
mark_first_lem (LieFields.needed (LiePiece.many x) a) e = absurd (true≢false (sym e))
mark_first_lem (LieFields.needed (LiePiece.gaps x) a) e = absurd (true≢false (sym e))
mark_first_lem (LieFields.needed (LiePiece.text x) a) e = absurd (true≢false (sym e))
mark_first_lem (LieFields.needed (LiePiece.byte x y z) a) e = absurd (true≢false (sym e))
mark_first_lem (LieFields.needed (LiePiece.mark x) a) e = refl
mark_first_lem (LieFields.needed (LiePiece.number x) a) e = absurd (true≢false (sym e))
mark_first_lem (LieFields.given x a) e = absurd (true≢false (sym e))

own_first : (ns : List Name) (w : ℕ → ℕ → Node → Walked) (next : ℕ) (fs : Fields) → mark_first fs ≡ true → first_mark (numbered_fields ns (bare_fields next (each_field w 0 fs))) ≡ some (marked next (mark_in (each_field w 0 fs)))
unfolding first_mark numbered bare each_field each_piece mark_in
own_first ns w next Fields.done e = absurd (true≢false (sym e))
own_first ns w next (Fields.absent fs) e = absurd (true≢false (sym e))
own_first ns w next (Fields.field (Piece.one n) fs) e = absurd (true≢false (sym e))
own_first ns w next (Fields.field (Piece.list n) fs) e = absurd (true≢false (sym e))
own_first ns w next (Fields.field (Piece.text n) fs) e = absurd (true≢false (sym e))
own_first ns w next (Fields.field (Piece.byte n) fs) e = absurd (true≢false (sym e))
own_first ns w next (Fields.field (Piece.mark n) fs) e = refl
own_first ns w next (Fields.field (Piece.number n) fs) e = absurd (true≢false (sym e))

begins_at : (p k : ℕ) → p ≡ 1 → 0 < form_at rewritten p k → begins (fields_of (form_at rewritten p k)) ≡ true
begins_at p k e z = subst (λ (x : ℕ). 0 < form_at rewritten x k → begins (fields_of (form_at rewritten x k)) ≡ true) (sym e) (statement_begins k) z

no_temporary : (p : ℕ) → p ≡ 1 → 0 < form_at rewritten p 20 → ⊥
unfolding form_at form_in allowed also among places kind_of
no_temporary p e z = let y : 0 < form_at rewritten 1 20 = subst (λ (x : ℕ). 0 < form_at rewritten x 20) e z in omega arith

literal_leaves : (p k : ℕ) → p ≡ 10 → 0 < form_at rewritten p k → are_leaves (fields_of (form_at rewritten p k)) ≡ true
unfolding form_at form_in allowed also among places kind_of fields_of kinds
literal_leaves p k e z =
    let y : 0 < form_at rewritten 10 k = subst (λ (x : ℕ). 0 < form_at rewritten x k) e z in
    let q : k ≡ 22 = lone 10 22 k refl y in
    subst (λ (x : ℕ). are_leaves (fields_of (form_at rewritten x k)) ≡ true) (sym e) (subst (λ (x : ℕ). are_leaves (fields_of (form_at rewritten 10 x)) ≡ true) (sym q) refl)

literal_entry : {T : Texts} (c : Context) {p : ℕ} {n : Node} → Lies T p n → eqb p 10 ≡ true → is_empty (rewrite c n).note.entry ≡ true
unfolding rewrite rule_of is_empty form_in allowed also among places kind_of
literal_entry c (Lies.lies {p = p} {at = at} {k = k} {fs = fs} z t u f) e =
    let y : 0 < form_at rewritten 10 k = subst (λ (x : ℕ). 0 < form_at rewritten x k) (eqb-true p 10 e) z in
    let q : k ≡ 22 = lone 10 22 k refl y in
    subst (λ (x : ℕ). is_empty (rewrite c (node at x fs)).note.entry ≡ true) (sym q) refl
literal_entry c (Lies.named z a b) e = refl

program_kind : {T : Texts} {at k : ℕ} {fs : Fields} → Lies T 0 (node at k fs) → k ≡ 1
unfolding form_in allowed also among places kind_of
program_kind {k = k} l = lone 0 1 k refl (may_stand l)

falls_here : (c : Context) (at : ℕ) (fs : Fields) → Each (λ x. weight x < weight (node at 1 fs)) (node at 1 fs)
unfolding rewrite rule_of
falls_here c at fs = falls c (node at 1 fs)

-- ---- marks and visits

module _ (P : ℕ → Type 0) where
  abbrev AllMarks : List ℕ → Type 0
  AllMarks [] = Unit {0}
  AllMarks (m ∷ ms) = P m × AllMarks ms

  all_split : (ms ns : List ℕ) → AllMarks (ms ++ ns) → AllMarks ms × AllMarks ns
  all_split [] ns h = (tt, h)
  all_split (m ∷ ms) ns h = let r = all_split ms ns h.1 in ((h.0, r.0), r.1)

  -- what is handed out goes before a statement that is found
  abbrev Covered : Visit → Type 0
  Covered v = is_empty v.note.entry ≡ false → P v.containing

  abbrev AllCovered : List Visit → Type 0
  AllCovered [] = Unit {0}
  AllCovered (v ∷ vs) = Covered v × AllCovered vs

  all_covered : (us vs : List Visit) → AllCovered us → AllCovered vs → AllCovered (us ++ vs)
  all_covered [] vs h k = k
  all_covered (u ∷ us) vs h k = (h.0, all_covered us vs h.1 k)

  module _ (ns : List Name) where
    abbrev written_of : ℕ → Walked → Node
    written_of next w = numbered ns (bare next w)

    -- a walked node: what is handed out in it; the mark of a statement; a literal hands out nothing
    record Facts (p next m : ℕ) (w : Walked) : Type 0 where
      covered : AllMarks (found (written_of next w)) → P m → AllCovered (visits next m w)
      own : eqb p 1 ≡ true → own_mark (written_of next w) ≡ some (marked next (mark_of w))
      silent : eqb p 10 ≡ true → AllCovered (visits next m w)

    abbrev Given : (T : Texts) → Node → Walked → Type 0
    Given T n w = (p next m : ℕ) → Lies T p n → first_refusal (visits next m w) ≡ 0 → Facts p next m w

    own_in : (n : Node) (m : ℕ) → own_mark n ≡ some m → AllMarks (as_list (own_mark n)) → P m
    own_in n m e h = (subst (λ (o : Option ℕ). AllMarks (as_list o)) e h).0

    items_covered : {T : Texts} (w : ℕ → Node → Walked) {p : ℕ} {h : Bool} {is : Items} → LieItems T p h is → AllItems (λ n. (j : ℕ) → Given T n (w j n)) is → (j : ℕ) (l : Bool) (next m : ℕ)
        → (l ≡ true → (eqb p 1 || eqb p 10) ≡ true) → first_refusal (visits_items l next m (each_item_of w j is)) ≡ 0
        → AllMarks (found_items l (numbered_items ns (bare_items next (each_item_of w j is)))) → (l ≡ false → P m) → AllCovered (visits_items l next m (each_item_of w j is))
    unfolding each_item_of visits bare numbered found
    items_covered w LieItems.none g j l next m o r a k = tt
    items_covered w (LieItems.hole x) g j l next m o r a k = items_covered w x g (suc j) l next m o r a k
    items_covered {T = T} w (LieItems.item {p = p} {n = n} {is = is} x y) g j true next m o r a k =
        let i : ℕ = marked next (mark_of (w j n)) in
        let s = no_refusal (visits next i (w j n)) (visits_items true (next + new_in (w j n)) m (each_item_of w (suc j) is)) r in
        let f = g.0 j p next i x s.0 in
        let rest = numbered_items ns (bare_items (next + new_in (w j n)) (each_item_of w (suc j) is)) in
        let a₁ = all_split (as_list (own_mark (written_of next (w j n))) ++ found (written_of next (w j n))) (found_items true rest) a in
        let a₂ = all_split (as_list (own_mark (written_of next (w j n)))) (found (written_of next (w j n))) a₁.0 in
        all_covered (visits next i (w j n)) (visits_items true (next + new_in (w j n)) m (each_item_of w (suc j) is))
        (by_test (eqb p 1)
        (λ e. f.covered a₂.1 (own_in (written_of next (w j n)) i (f.own e) a₂.0))
        (λ e. f.silent (rw e at (o refl))))
        (items_covered w y g.1 (suc j) true (next + new_in (w j n)) m o s.1 a₁.1 k)
    items_covered {T = T} w (LieItems.item {p = p} {n = n} {is = is} x y) g j false next m o r a k =
        let s = no_refusal (visits next m (w j n)) (visits_items false (next + new_in (w j n)) m (each_item_of w (suc j) is)) r in
        let f = g.0 j p next m x s.0 in
        let rest = numbered_items ns (bare_items (next + new_in (w j n)) (each_item_of w (suc j) is)) in
        let a₂ = all_split (found (written_of next (w j n))) (found_items false rest) a in
        all_covered (visits next m (w j n)) (visits_items false (next + new_in (w j n)) m (each_item_of w (suc j) is))
        (f.covered a₂.0 (k refl))
        (items_covered w y g.1 (suc j) false (next + new_in (w j n)) m o s.1 a₂.1 k)

    piece_covered : {T : Texts} (w : ℕ → Node → Walked) {b d : ℕ} {t : Sort} {p : Piece} → LiePiece T b t p d → AllPiece (λ n. (j : ℕ) → Given T n (w j n)) p → (l : Bool) (next m : ℕ)
        → (l ≡ true → listed t ≡ true) → first_refusal (visits_piece l next m (each_piece w p)) ≡ 0
        → AllMarks (found_piece l (numbered_piece ns (bare_piece next (each_piece w p)))) → P m → AllCovered (visits_piece l next m (each_piece w p))
    unfolding each_piece visits bare numbered found
    piece_covered w (LiePiece.child {p = p} x) g l next m o r a k = (g 0 p next m x r).covered a k
    piece_covered w (LiePiece.chosen {b = u} {p = p} {q = q} x) g l next m o r a k = (g 0 (cond (eqb u 1) p q) next m x r).covered a k
    piece_covered w (LiePiece.many x) g l next m o r a k = items_covered w x g 0 l next m o r a (λ e. k)
    piece_covered w (LiePiece.gaps x) g l next m o r a k = items_covered w x g 0 l next m (λ e. absurd (true≢false (sym (o e)))) r a (λ e. k)
    piece_covered w (LiePiece.text x) g l next m o r a k = tt
    piece_covered w (LiePiece.byte x y z) g l next m o r a k = tt
    piece_covered w (LiePiece.mark x) g l next m o r a k = tt
    piece_covered w (LiePiece.number x) g l next m o r a k = tt

    fields_covered : {T : Texts} (w : ℕ → ℕ → Node → Walked) {b : ℕ} {ts : List Field} {fs : Fields} → LieFields T b ts fs → AllFields (λ n. (i j : ℕ) → Given T n (w i j n)) fs → (i : ℕ) (l : Bool) (next m : ℕ)
        → (l ≡ true → all_listed ts ≡ true) → first_refusal (visits_fields l next m (each_field w i fs)) ≡ 0
        → AllMarks (found_fields l (numbered_fields ns (bare_fields next (each_field w i fs)))) → P m → AllCovered (visits_fields l next m (each_field w i fs))
    unfolding each_field visits bare numbered found
    fields_covered w LieFields.done g i l next m o r a k = tt
    fields_covered w (LieFields.absent {t = t} {ts = ts} x) g i l next m o r a k = fields_covered w x g (suc i) l next m (λ e. and_right (listed t) (all_listed ts) (o e)) r a k
    fields_covered {T = T} w (LieFields.needed {t = t} {ts = ts} {p = p} {fs = fs} x y) g i l next m o r a k =
        let q = each_piece (w i) p in
        let s = no_refusal (visits_piece l next m q) (visits_fields l (next + new_in_piece q) m (each_field w (suc i) fs)) r in
        let u = all_split (found_piece l (numbered_piece ns (bare_piece next q))) (found_fields l (numbered_fields ns (bare_fields (next + new_in_piece q) (each_field w (suc i) fs)))) a in
        all_covered (visits_piece l next m q) (visits_fields l (next + new_in_piece q) m (each_field w (suc i) fs))
        (piece_covered (w i) x (weaker_piece (λ n. (i j : ℕ) → Given T n (w i j n)) (λ n. (j : ℕ) → Given T n (w i j n)) (λ n h. h i) p g.0) l next m (λ e. and_left (listed t) (all_listed ts) (o e)) s.0 u.0 k)
        (fields_covered w y g.1 (suc i) l (next + new_in_piece q) m (λ e. and_right (listed t) (all_listed ts) (o e)) s.1 u.1 k)
    fields_covered {T = T} w (LieFields.given {t = t} {ts = ts} {p = p} {fs = fs} x y) g i l next m o r a k =
        let q = each_piece (w i) p in
        let s = no_refusal (visits_piece l next m q) (visits_fields l (next + new_in_piece q) m (each_field w (suc i) fs)) r in
        let u = all_split (found_piece l (numbered_piece ns (bare_piece next q))) (found_fields l (numbered_fields ns (bare_fields (next + new_in_piece q) (each_field w (suc i) fs)))) a in
        all_covered (visits_piece l next m q) (visits_fields l (next + new_in_piece q) m (each_field w (suc i) fs))
        (piece_covered (w i) x (weaker_piece (λ n. (i j : ℕ) → Given T n (w i j n)) (λ n. (j : ℕ) → Given T n (w i j n)) (λ n h. h i) p g.0) l next m (λ e. and_left (listed t) (all_listed ts) (o e)) s.0 u.0 k)
        (fields_covered w y g.1 (suc i) l (next + new_in_piece q) m (λ e. and_right (listed t) (all_listed ts) (o e)) s.1 u.1 k)

    -- a literal has no parts
    leaf_silent : {T : Texts} (w : ℕ → ℕ → Node → Walked) {b : ℕ} {ts : List Field} {fs : Fields} → LieFields T b ts fs → are_leaves ts ≡ true → (i : ℕ) (l : Bool) (next m : ℕ) → AllCovered (visits_fields l next m (each_field w i fs))
    unfolding each_field each_piece visits new_in
    leaf_silent w LieFields.done e i l next m = tt
    leaf_silent w (LieFields.absent {t = t} {ts = ts} x) e i l next m = leaf_silent w x (and_right (is_leaf_of t) (are_leaves ts) e) (suc i) l next m
    leaf_silent w (LieFields.needed (LiePiece.child x) a) e i l next m = absurd (true≢false (sym e))
    leaf_silent w (LieFields.needed (LiePiece.chosen x) a) e i l next m = absurd (true≢false (sym e))
    leaf_silent w (LieFields.needed (LiePiece.many x) a) e i l next m = absurd (true≢false (sym e))
    leaf_silent w (LieFields.needed (LiePiece.gaps x) a) e i l next m = absurd (true≢false (sym e))
    leaf_silent w (LieFields.needed (LiePiece.text x) a) e i l next m = leaf_silent w a e (suc i) l (next + 0) m
    leaf_silent w (LieFields.needed (LiePiece.byte x y z) a) e i l next m = leaf_silent w a e (suc i) l (next + 0) m
    leaf_silent w (LieFields.needed (LiePiece.mark x) a) e i l next m = absurd (true≢false (sym e))
    leaf_silent w (LieFields.needed (LiePiece.number x) a) e i l next m = leaf_silent w a e (suc i) l (next + 0) m
    leaf_silent w (LieFields.given (LiePiece.child x) a) e i l next m = absurd (true≢false (sym e))
    leaf_silent w (LieFields.given (LiePiece.chosen x) a) e i l next m = absurd (true≢false (sym e))
    leaf_silent w (LieFields.given (LiePiece.many x) a) e i l next m = absurd (true≢false (sym e))
    leaf_silent w (LieFields.given (LiePiece.gaps x) a) e i l next m = absurd (true≢false (sym e))
    leaf_silent w (LieFields.given (LiePiece.text x) a) e i l next m = leaf_silent w a e (suc i) l (next + 0) m
    leaf_silent w (LieFields.given (LiePiece.byte x y z) a) e i l next m = leaf_silent w a e (suc i) l (next + 0) m
    leaf_silent w (LieFields.given (LiePiece.mark x) a) e i l next m = absurd (true≢false (sym e))
    leaf_silent w (LieFields.given (LiePiece.number x) a) e i l next m = leaf_silent w a e (suc i) l (next + 0) m

    -- a node that was rewritten
    node_covered : {T : Texts} (note : Note) (w : ℕ → ℕ → Node → Walked) {p : ℕ} {r : Node} → Lies T p r → (eqb p 10 ≡ true → is_empty note.entry ≡ true) → Each (λ n. (i j : ℕ) → Given T n (w i j n)) r
        → (next m : ℕ) → first_refusal (visits next m (inside note w r)) ≡ 0 → Facts p next m (inside note w r)
    unfolding inside visits bare numbered found each_field each_piece
    node_covered {T = T} note w (Lies.lies {p = p} {at = at} {k = k} {fs = fs} z t u f) q g next m r =
        let s = no_refusal_here (record { containing = m; note = note }) (visits_fields (is_container k) next m (each_field w 0 fs)) r in
        record {
          covered = λ a y. (
            λ e. y,
            fields_covered w f g 0 (is_container k) next m (λ e. container_form p k e z) s.1
                (subst (λ (l : Bool). AllMarks (found_fields l (numbered_fields ns (bare_fields next (each_field w 0 fs))))) (same_container k) (rw t at a)) y,
          );
          own = λ e. rw t (own_first ns w next fs (mark_first_lem f (begins_at p k (eqb-true p 1 e) z)));
          silent = λ e. (λ y. absurd (true≢false (sym (q e) ∙ y)), leaf_silent w f (literal_leaves p k (eqb-true p 10 e) z) 0 (is_container k) next m);
        }
    node_covered note w (Lies.named {p = p} z x y) q g next m r =
        record {
          covered = λ a y. (λ e. y, tt);
          own = λ e. absurd (no_temporary p (eqb-true p 1 e) z);
          silent = λ e. (λ y. absurd (true≢false (sym (q e) ∙ y)), tt);
        }

    walk_covered : {T : Texts} (f : ℕ) (c : Context) (n : Node) → weight n ≤ f → Given T n (walk f c n)
    unfolding walk
    walk_covered zero c n h p next m l r = absurd (let z = weight_pos n in omega arith)
    walk_covered {T = T} (suc f) c n h p next m l r =
        let w : ℕ → ℕ → Node → Walked = λ i j k. walk f (within c (rewrite c n).result i j) k in
        node_covered (rewrite c n).note w ((leaves c p n l).tree (not_refused (rewrite c n).note w (rewrite c n).result next m r)) (literal_entry c l)
        (weaker_each (λ x. weight x < weight n) (λ x. (i j : ℕ) → Given T x (w i j x)) (λ x k i j. walk_covered f (within c (rewrite c n).result i j) x (omega arith)) (rewrite c n).result (falls c n))
        next m r

    -- a Program hands nothing out, and its list is one of statements
    program_fields : {T : Texts} (w : ℕ → ℕ → Node → Walked) {fs : Fields} → LieFields T 0 (Field.must (Sort.many 1) ∷ []) fs → AllFields (λ n. (i j : ℕ) → Given T n (w i j n)) fs → (next : ℕ)
        → first_refusal (visits_fields true next 0 (each_field w 0 fs)) ≡ 0 → AllMarks (found_fields true (numbered_fields ns (bare_fields next (each_field w 0 fs)))) → AllCovered (visits_fields true next 0 (each_field w 0 fs))
    unfolding each_field each_piece visits bare numbered found
    program_fields {T = T} w (LieFields.needed (LiePiece.many {is = is} x) LieFields.done) g next r a =
        let vs = visits_items true next 0 (each_item_of (w 0) 0 is) in
        let s = no_refusal vs [] r in
        let u = all_split (found_items true (numbered_items ns (bare_items next (each_item_of (w 0) 0 is)))) [] a in
        all_covered vs []
        (items_covered (w 0) x (weaker_piece (λ n. (i j : ℕ) → Given T n (w i j n)) (λ n. (j : ℕ) → Given T n (w 0 j n)) (λ n h. h 0) (Piece.list is) g.0) 0 true next 0 (λ e. refl) s.0 u.0 (λ e. absurd (true≢false e)))
        tt

    program_covered : {T : Texts} (f : ℕ) (c : Context) (at : ℕ) (fs : Fields) → weight (node at 1 fs) ≤ f → Lies T 0 (node at 1 fs) → (next : ℕ)
        → first_refusal (visits next 0 (walk f c (node at 1 fs))) ≡ 0 → AllMarks (found (written_of next (walk f c (node at 1 fs)))) → AllCovered (visits next 0 (walk f c (node at 1 fs)))
    unfolding walk rewrite rule_of inside visits bare numbered found is_container is_empty form_in form_at allowed also among places kind_of fields_of kinds
    program_covered zero c at fs h l next r a = absurd (let z = weight_pos (node at 1 fs) in omega arith)
    program_covered {T = T} (suc f) c at fs h l next r a =
        let n = node at 1 fs in
        let w : ℕ → ℕ → Node → Walked = λ i j k. walk f (within c n i j) k in
        let s = no_refusal_here (record { containing = 0; note = (unchanged n).note }) (visits_fields true next 0 (each_field w 0 fs)) r in (
          λ e. absurd (true≢false e),
          program_fields w (apart 1 l refl refl)
              (weaker_each (λ x. weight x < weight n) (λ x. (i j : ℕ) → Given T x (w i j x)) (λ x k i j. walk_covered f (within c n i j) x (omega arith)) n (falls_here c at fs))
              next s.1 a,
        )

-- ---- the entries

-- each of some marks is among them
abbrev Among : List ℕ → ℕ → Type 0
Among ms m = among ms m ≡ true

all_among : (ms : List ℕ) → AllMarks (Among ms) ms
unfolding among
all_among [] = tt
all_among (m ∷ ms) = (rw (eq-eqb m m refl) refl, weaker ms (all_among ms))
  where
    weaker : (ns : List ℕ) → AllMarks (Among ms) ns → AllMarks (Among (m ∷ ms)) ns
    weaker [] h = tt
    weaker (x ∷ ns) h = (later x h.0, weaker ns h.1)
      where
        later : (x : ℕ) → among ms x ≡ true → (eqb m x || among ms x) ≡ true
        later x e = by_test (eqb m x) (λ f. rw f refl) (λ f. rw f e)

entries_found_lem : (ms : List ℕ) (f : Items → Items) (vs : List Visit) → AllCovered (Among ms) vs → all_found_of ms (each_entry f (entries vs)) ≡ true
unfolding all_found_of entries over entry_at each_entry
entries_found_lem ms f [] h = refl
entries_found_lem ms f (v ∷ vs) h =
    by_test (is_empty v.note.entry)
    (λ e. rw e (entries_found_lem ms f vs h.1))
    (λ e. rw e (rw (h.0 e) (entries_found_lem ms f vs h.1)))

pub all_entered : {T : Texts} (ns : List Name) (c : Context) (n : Node) (next : ℕ) → Lies T 0 n → first_refusal (visits next 0 (walked c n)) ≡ 0
    → all_found_of (found (numbered ns (bare next (walked c n)))) (each_entry (λ is. numbered_items ns is) (entries (visits next 0 (walked c n)))) ≡ true
unfolding walked
all_entered {T = T} ns c (node at k fs) next l r =
    let n = node at k fs in
    let ms = found (numbered ns (bare next (walk (weight n) c n))) in
    let q : k ≡ 1 = program_kind l in
    entries_found_lem ms (λ is. numbered_items ns is) (visits next 0 (walk (weight n) c n))
    (subst (λ (x : ℕ). Lies T 0 (node at x fs) → first_refusal (visits next 0 (walk (weight (node at x fs)) c (node at x fs))) ≡ 0
    → AllMarks (Among ms) (found (numbered ns (bare next (walk (weight (node at x fs)) c (node at x fs))))) → AllCovered (Among ms) (visits next 0 (walk (weight (node at x fs)) c (node at x fs)))) (sym q)
    (λ l r a. program_covered (Among ms) ns (weight (node at 1 fs)) c at fs (omega arith) l next r a) l r (all_among ms))
