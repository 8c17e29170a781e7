-- Where the tree is no pattern, and which fields lead into one: by the grammar's table.
-- Assumes nothing.
use mathlib.Core.Path.{◌≡◌, refl, sym, ap, subst, ◌∙◌}
use mathlib.Core.Bool.{Bool, true, false, cond, not, ◌&&◌, ◌||◌, true≢false}
use mathlib.Core.List.{List, [], ◌∷◌}
use Prim.Native.Nat.{ℕ, zero, suc, ◌+◌, ◌<◌}
use native.Mathlib.Omega.{arith}
use lib.Dec.{eqb, ltb}
use borrow.Author.Tests.{eqb-true}
use Rattle.tree.specs.Tree.{Node, Fields, Piece}
use Rattle.tree.specs.Grammar.{Sort, Field, places, allowed, also, among, kind_of, form_in, form_at, fields_of, kinds, variants}
use Rattle.tree.specs.Grammar.Stage.{rewritten}
use Rattle.tree.specs.Read.{sort_in}
use Rattle.lowering.specs.Parts.{kind, piece_in, as_node, as_items_of}
use Rattle.lowering.specs.Made.{Context}
use Rattle.lowering.specs.Visits.{ItemAt, NodeIn, FieldAt}
use Rattle.lowering.specs.Walk.{Rule, rule_of, rewrite}
use Rattle.lowering.specs.Walk.Rule.{literals, declarations, assignments, functions, arrows, catches, fors, nowhere}
use Rattle.lowering.proofs.Cases.{by_test, and_left, and_right}
use Rattle.result.proofs.Lies.{Texts, Lies, LieFields, LiePiece, sort_at, may_stand}
use Rattle.result.proofs.Comes.{Comes, Left}
use Rattle.result.proofs.Standing.{lie_item}

-- ---- a test of each number of a list, and of each form of a row

abbrev pub every : (ℕ → Bool) → List ℕ → Bool
every t [] = true
every t (f ∷ fs) = t f && every t fs

among_passes : (t : ℕ → Bool) (xs : List ℕ) → every t xs ≡ true → (p : ℕ) → among xs p ≡ true → t p ≡ true
unfolding among
among_passes t [] h p e = absurd (true≢false (sym e))
among_passes t (x ∷ xs) h p e =
    by_test (eqb x p)
    (λ q. subst (λ (y : ℕ). t y ≡ true) (eqb-true x p q) (and_left (t x) (every t xs) h))
    (λ q. among_passes t xs (and_right (t x) (every t xs) h) p (rw q at e))

form_passes : (t : ℕ → Bool) (r : List ℕ) (k : ℕ) → every t r ≡ true → 0 < form_in r k → (t (form_in r k) ≡ true) × (kind_of (form_in r k) ≡ k)
unfolding form_in
form_passes t [] k h z = absurd (omega arith)
form_passes t (f ∷ r) k h z = go (eqb (kind_of f) k) refl (λ y. form_passes t r k (and_right (t f) (every t r) h) y) z
  where
    go : (b : Bool) → eqb (kind_of f) k ≡ b → (0 < form_in r k → (t (form_in r k) ≡ true) × (kind_of (form_in r k) ≡ k)) → 0 < cond b f (form_in r k)
        → (t (cond b f (form_in r k)) ≡ true) × (kind_of (cond b f (form_in r k)) ≡ k)
    go true e i y = (and_left (t f) (every t r) h, eqb-true (kind_of f) k e)
    go false e i y = i y

pub place_passes : (t : ℕ → Bool) (p k : ℕ) → every t (allowed rewritten p) ≡ true → 0 < form_at rewritten p k → (t (form_at rewritten p k) ≡ true) × (kind_of (form_at rewritten p k) ≡ k)
unfolding form_at
place_passes t p k h z = go (ltb k 64) z
  where
    go : (b : Bool) → 0 < cond b (form_in (allowed rewritten p) k) 0 → (t (cond b (form_in (allowed rewritten p) k) 0) ≡ true) × (kind_of (cond b (form_in (allowed rewritten p) k) 0) ≡ k)
    go true y = form_passes t (allowed rewritten p) k h y
    go false y = absurd (omega arith)

-- ---- places outside patterns

abbrev pub is_outside : ℕ → Bool
is_outside p = among (0 ∷ 1 ∷ 2 ∷ 3 ∷ 5 ∷ 6 ∷ 8 ∷ 9 ∷ 10 ∷ 11 ∷ 12 ∷ 13 ∷ 14 ∷ 16 ∷ 20 ∷ 24 ∷ 25 ∷ []) p

-- a field whose nodes stand outside
abbrev pub out_sort : Sort → Bool
out_sort (Sort.child q) = is_outside q
out_sort (Sort.chosen p q) = false
out_sort (Sort.many q) = is_outside q
out_sort (Sort.gaps q) = is_outside q
out_sort Sort.text = true
out_sort (Sort.byte low high) = true
out_sort Sort.mark = true
out_sort Sort.number = true

-- the fields that lead to patterns, declarators or parameters
unfoldable pub leads : ℕ → ℕ → Bool
leads k i =
    cond (eqb k 4) (eqb i 2)
    (cond (eqb k 14) (eqb i 3 || eqb i 4)
    (cond (eqb k 17) (eqb i 0 || eqb i 1)
    (cond (eqb k 10) (eqb i 0)
    (cond (eqb k 27 || (eqb k 7 || eqb k 8)) (eqb i 1) false))))

unfoldable tidy_from : ℕ → ℕ → List Field → Bool
tidy_from k i [] = true
tidy_from k i (f ∷ ts) = (out_sort (sort_in f) || leads k i) && tidy_from k (suc i) ts

-- the forms of a place outside: no pattern, and each field stands outside or leads
unfoldable tidy_form : ℕ → Bool
tidy_form f = not (eqb (kind_of f) 34) && tidy_from (kind_of f) 0 (fields_of f)

tidy_places : every (λ p. every tidy_form (allowed rewritten p)) (0 ∷ 1 ∷ 2 ∷ 3 ∷ 5 ∷ 6 ∷ 8 ∷ 9 ∷ 10 ∷ 11 ∷ 12 ∷ 13 ∷ 14 ∷ 16 ∷ 20 ∷ 24 ∷ 25 ∷ []) ≡ true
unfolding tidy_form tidy_from leads allowed places also among form_in kind_of fields_of kinds variants
tidy_places = refl

tidy_at : (k n : ℕ) (ts : List Field) → tidy_from k n ts ≡ true → (i : ℕ) → (out_sort (sort_at ts i) || leads k (n + i)) ≡ true
unfolding tidy_from
tidy_at k n [] h i = refl
tidy_at k n (f ∷ ts) h zero = subst (λ (j : ℕ). (out_sort (sort_in f) || leads k j) ≡ true) (omega arith) (and_left (out_sort (sort_in f) || leads k n) (tidy_from k (suc n) ts) h)
tidy_at k n (f ∷ ts) h (suc i) = subst (λ (j : ℕ). (out_sort (sort_at ts i) || leads k j) ≡ true) (omega arith) (tidy_at k (suc n) ts (and_right (out_sort (sort_in f) || leads k n) (tidy_from k (suc n) ts) h) i)

pub outside_tidy : (p k : ℕ) → is_outside p ≡ true → 0 < form_at rewritten p k → (eqb k 34 ≡ false) × ((i : ℕ) → (out_sort (sort_at (fields_of (form_at rewritten p k)) i) || leads k i) ≡ true)
unfolding tidy_form
outside_tidy p k o z =
    let a = place_passes tidy_form p k (among_passes (λ p. every tidy_form (allowed rewritten p)) _ tidy_places p o) z in
    let f = form_at rewritten p k in
    let n : not (eqb (kind_of f) 34) ≡ true = and_left (not (eqb (kind_of f) 34)) (tidy_from (kind_of f) 0 (fields_of f)) a.0 in
    let d : tidy_from (kind_of f) 0 (fields_of f) ≡ true = and_right (not (eqb (kind_of f) 34)) (tidy_from (kind_of f) 0 (fields_of f)) a.0 in (
      subst (λ (j : ℕ). eqb j 34 ≡ false) a.1 (is_not (eqb (kind_of f) 34) n),
      λ i. subst (λ (j : ℕ). (out_sort (sort_at (fields_of f) i) || leads j i) ≡ true) a.1 (subst (λ (j : ℕ). (out_sort (sort_at (fields_of f) i) || leads (kind_of f) j) ≡ true) (omega arith) (tidy_at (kind_of f) 0 (fields_of f) d i)),
    )
  where
    is_not : (b : Bool) → not b ≡ true → b ≡ false
    is_not true h = absurd (true≢false (sym h))
    is_not false h = refl

-- ---- places where nothing is rewritten

abbrev is_nowhere : Rule → Bool
is_nowhere literals = false
is_nowhere declarations = false
is_nowhere assignments = false
is_nowhere functions = false
is_nowhere arrows = false
is_nowhere catches = false
is_nowhere fors = false
is_nowhere nowhere = true

is_nowhere_lem : (r : Rule) → is_nowhere r ≡ true → r ≡ nowhere
is_nowhere_lem literals h = absurd (true≢false (sym h))
is_nowhere_lem declarations h = absurd (true≢false (sym h))
is_nowhere_lem assignments h = absurd (true≢false (sym h))
is_nowhere_lem functions h = absurd (true≢false (sym h))
is_nowhere_lem arrows h = absurd (true≢false (sym h))
is_nowhere_lem catches h = absurd (true≢false (sym h))
is_nowhere_lem fors h = absurd (true≢false (sym h))
is_nowhere_lem nowhere h = refl

abbrev pub is_quiet : ℕ → Bool
is_quiet p = among (4 ∷ 7 ∷ 15 ∷ 16 ∷ 17 ∷ 18 ∷ 19 ∷ 20 ∷ 22 ∷ 23 ∷ []) p

quiet_places : every (λ p. every (λ f. is_nowhere (rule_of (kind_of f))) (allowed rewritten p)) (4 ∷ 7 ∷ 15 ∷ 16 ∷ 17 ∷ 18 ∷ 19 ∷ 20 ∷ 22 ∷ 23 ∷ []) ≡ true
unfolding rule_of allowed places also among form_in kind_of
quiet_places = refl

still_there : (c : Context) (n : Node) → rule_of (kind n) ≡ nowhere → (rewrite c n).result ≡ n
unfolding rewrite
still_there c n e = rw (e, rewrite) refl

pub quiet_left : {T : Texts} {x y : Node} → Comes x y → (p : ℕ) → Lies T p x → is_quiet p ≡ true → Left x y
quiet_left (Comes.comes c {n = n} {y = y} e l) p m q =
    let a = place_passes (λ f. is_nowhere (rule_of (kind_of f))) p (kind n) (among_passes (λ p. every (λ f. is_nowhere (rule_of (kind_of f))) (allowed rewritten p)) _ quiet_places p q) (may_stand m) in
    subst (λ (r : Node). Left r y) (still_there c n (ap rule_of (sym a.1) ∙ is_nowhere_lem (rule_of (kind_of (form_at rewritten p (kind n)))) a.0)) l

-- ---- a part by the sort of its field

abbrev pub SortLies : (T : Texts) → Sort → Node → Type 0
SortLies T (Sort.child q) x = Lies T q x
SortLies T (Sort.chosen p q) x = (o : Bool) × Lies T (cond o p q) x
SortLies T (Sort.many q) x = Lies T q x
SortLies T (Sort.gaps q) x = Lies T q x
SortLies T Sort.text x = ⊥
SortLies T (Sort.byte low high) x = ⊥
SortLies T Sort.mark x = ⊥
SortLies T Sort.number x = ⊥

sort_in_lem : {T : Texts} {b d : ℕ} {s : Sort} {p : Piece} → LiePiece T b s p d → {j : ℕ} {x : Node} → NodeIn p j x → SortLies T s x
sort_in_lem (LiePiece.child x) NodeIn.one = x
sort_in_lem (LiePiece.chosen {b = b} x) NodeIn.one = (eqb b 1, x)
sort_in_lem (LiePiece.many a) (NodeIn.list i) = lie_item a i
sort_in_lem (LiePiece.gaps a) (NodeIn.list i) = lie_item a i
sort_in_lem (LiePiece.text a) i = elim i [ ]
sort_in_lem (LiePiece.byte a b c) i = elim i [ ]
sort_in_lem (LiePiece.mark a) i = elim i [ ]
sort_in_lem (LiePiece.number a) i = elim i [ ]

pub lie_sort : {T : Texts} {b : ℕ} {ts : List Field} {fs : Fields} → LieFields T b ts fs → {i j : ℕ} {x : Node} → FieldAt fs i j x → SortLies T (sort_at ts i) x
lie_sort (LieFields.absent a) (FieldAt.behind_absent f) = lie_sort a f
lie_sort (LieFields.needed x a) (FieldAt.first f) = sort_in_lem x f
lie_sort (LieFields.needed x a) (FieldAt.behind f) = lie_sort a f
lie_sort (LieFields.given x a) (FieldAt.first f) = sort_in_lem x f
lie_sort (LieFields.given x a) (FieldAt.behind f) = lie_sort a f
lie_sort LieFields.done f = elim f [ ]

pub out_place : {T : Texts} (s : Sort) {x : Node} → out_sort s ≡ true → SortLies T s x → (q : ℕ) × (is_outside q ≡ true) × Lies T q x
out_place (Sort.child q) e l = (q, e, l)
out_place (Sort.chosen p q) e l = absurd (true≢false (sym e))
out_place (Sort.many q) e l = (q, e, l)
out_place (Sort.gaps q) e l = (q, e, l)
out_place Sort.text e l = absurd l
out_place (Sort.byte low high) e l = absurd l
out_place Sort.mark e l = absurd l
out_place Sort.number e l = absurd l

-- ---- a part is the node, or an item of the list, that its field has

abbrev pub ByNode : Sort → Piece → ℕ → Node → Type 0
ByNode (Sort.child q) p j x = as_node p ≡ x
ByNode (Sort.chosen r q) p j x = as_node p ≡ x
ByNode (Sort.many q) p j x = ItemAt (as_items_of p) j x
ByNode (Sort.gaps q) p j x = ItemAt (as_items_of p) j x
ByNode Sort.text p j x = Unit {0}
ByNode (Sort.byte low high) p j x = Unit {0}
ByNode Sort.mark p j x = Unit {0}
ByNode Sort.number p j x = Unit {0}

node_by : {T : Texts} {b d : ℕ} {s : Sort} {p : Piece} → LiePiece T b s p d → {j : ℕ} {x : Node} → NodeIn p j x → ByNode s p j x
node_by (LiePiece.child x) NodeIn.one = refl
node_by (LiePiece.chosen x) NodeIn.one = refl
node_by (LiePiece.many a) (NodeIn.list i) = i
node_by (LiePiece.gaps a) (NodeIn.list i) = i
node_by (LiePiece.text _) i = elim i [ ]
node_by (LiePiece.byte _ _ _) i = elim i [ ]
node_by (LiePiece.mark _) i = elim i [ ]
node_by (LiePiece.number _) i = elim i [ ]

pub by_node : {T : Texts} {b : ℕ} {ts : List Field} {fs : Fields} → LieFields T b ts fs → {i j : ℕ} {x : Node} → FieldAt fs i j x → ByNode (sort_at ts i) (piece_in fs i) j x
unfolding piece_in
by_node (LieFields.absent a) (FieldAt.behind_absent f) = by_node a f
by_node (LieFields.needed x a) (FieldAt.first f) = node_by x f
by_node (LieFields.needed x a) (FieldAt.behind f) = by_node a f
by_node (LieFields.given x a) (FieldAt.first f) = node_by x f
by_node (LieFields.given x a) (FieldAt.behind f) = by_node a f
by_node LieFields.done f = elim f [ ]

-- ---- leaves of patterns: all that they have stands outside

unfoldable out_fields : List Field → Bool
out_fields [] = true
out_fields (f ∷ ts) = out_sort (sort_in f) && out_fields ts

out_at : (ts : List Field) → out_fields ts ≡ true → (i : ℕ) → out_sort (sort_at ts i) ≡ true
unfolding out_fields
out_at [] h i = refl
out_at (f ∷ ts) h zero = and_left (out_sort (sort_in f)) (out_fields ts) h
out_at (f ∷ ts) h (suc i) = out_at ts (and_right (out_sort (sort_in f)) (out_fields ts) h) i

leaf_places : every (λ p. every (λ f. out_fields (fields_of f)) (allowed rewritten p)) (16 ∷ 20 ∷ []) ≡ true
unfolding out_fields allowed places also among form_in kind_of fields_of kinds variants
leaf_places = refl

pub leaf_out : (p k : ℕ) → among (16 ∷ 20 ∷ []) p ≡ true → 0 < form_at rewritten p k → (i : ℕ) → out_sort (sort_at (fields_of (form_at rewritten p k)) i) ≡ true
leaf_out p k o z i =
    out_at (fields_of (form_at rewritten p k)) (place_passes (λ f. out_fields (fields_of f)) p k (among_passes (λ p. every (λ f. out_fields (fields_of f)) (allowed rewritten p)) _ leaf_places p o) z).0 i
