-- Equal trees differ by no more than a renaming that keeps temporaries apart, and equal results too. So equal trees are equal as before.
-- Assumes nothing.
use mathlib.Core.Path.{◌≡◌, refl, sym, ap, ◌∙◌, subst}
use mathlib.Core.Bool.{cond}
use mathlib.Core.List.{List, [], ◌∷◌, ◌++◌, append-nil, append_assoc}
use Prim.Native.Nat.{ℕ, suc, ◌≤◌}
use native.Mathlib.Omega.{arith}
use lib.Dec.{eqb}
use lib.ListN.{length}
use borrow.Author.Tests.{eqb-true, eq-eqb, ne_eqb}
use Rattle.tree.specs.Tree.{Node, wide_bytes, encode, encode_piece}
use Rattle.tree.specs.Tree.Piece.{list}
use Rattle.tree.specs.Grammar.{Stage}
use Rattle.tree.specs.Grammar.Stage.{rewritten}
use Rattle.lowering.specs.Collect.{Entry, over, distinct, number_in}
use Rattle.lowering.proofs.Appearance.{In, here, there}
use Rattle.lowering.proofs.Cases.{by_test}
use Rattle.equal.specs.Canonical.{Written, numbers, renumbered, place_of, canonical, numbers_written, each_entry, renumbered_written, canonical_written}
use Rattle.equal.specs.Equal.{Equal, entry_encoded, list_encoded, EqualWritten, EqualBefore}
use Rattle.equal.specs.Unspelled.{unspelled}
use Rattle.equal.specs.Renaming.{KeepsApart, unplaced, unplaced_items, unplaced_written, Renamed, RenamedWritten, Formed, FitEntries, FormedWritten}
use Rattle.equal.proofs.PlacesByAppearance.{changed, own_number, among, places_apart}
use Rattle.equal.proofs.Renumber.{Renumbers, trees, results, written}
use Rattle.equal.proofs.Unplaced.{numbers_unplaced, renumbered_unplaced, unspelled_unplaced, written_numbers_unplaced, written_renumbered_unplaced}
use Rattle.equal.proofs.Equals.{bytes_unplaced}
use Rattle.equal.proofs.Unique.{wide_same, node_same, list_by, items_same}
use Rattle.equal.proofs.RenumberedFits.{canonical_fits, canonical_written_fits}

-- ---- from a place back to its number

unfoldable value_at : ℕ → List ℕ → ℕ → ℕ
value_at from [] k = 0
value_at from (x ∷ xs) k = cond (eqb k from) x (value_at (suc from) xs k)

number_later : (from : ℕ) (xs : List ℕ) (a : ℕ) → from ≤ number_in eqb from xs a
unfolding number_in
number_later from [] a = omega arith
number_later from (x ∷ xs) a =
    by_test (eqb a x) (λ t. rw t (omega arith)) (λ t. rw t (let h = number_later (suc from) xs a in omega arith))

value_number : (from : ℕ) (xs : List ℕ) (a : ℕ) → In a xs → value_at from xs (number_in eqb from xs a) ≡ a
unfolding value_at number_in
value_number from (x ∷ xs) a (here e) = rw (eq-eqb a x e, own_number from) (sym e)
value_number from (x ∷ xs) a (there i) =
    by_test (eqb a x)
    (λ t. rw (t, own_number from) (sym (eqb-true a x t)))
    (λ t.
    let h = number_later (suc from) xs a in
    rw (t, ne_eqb (number_in eqb (suc from) xs a) from (λ z. absurd (omega arith))) (value_number (suc from) xs a i))
value_number from [] a x' = elim x' [ ]

-- the number that has the place among those of the list
unfoldable value_of : List ℕ → ℕ → ℕ
value_of xs k = value_at 1 (distinct eqb xs) k

value_place_lem : (xs : List ℕ) (a : ℕ) → In a xs → value_of xs (place_of xs a) ≡ a
unfolding value_of place_of
value_place_lem xs a i = value_number 1 (distinct eqb xs) a (among eqb own_number eqb-true a xs i)

-- ---- what a changed list holds

in_changed : (f : ℕ → ℕ) (xs : List ℕ) (a : ℕ) → In a xs → In (f a) (changed f xs)
in_changed f (x ∷ xs) a (here e) = here (ap f e)
in_changed f (x ∷ xs) a (there i) = there (in_changed f xs a i)
in_changed f [] a x' = elim x' [ ]

record From (f : ℕ → ℕ) (xs : List ℕ) (b : ℕ) : Type 0 where
  a : ℕ
  stands : In a xs
  is : b ≡ f a

changed_in : (f : ℕ → ℕ) (xs : List ℕ) (b : ℕ) → In b (changed f xs) → From f xs b
changed_in f (x ∷ xs) b (here e) = record { a = x; stands = here refl; is = e }
changed_in f (x ∷ xs) b (there i) = let h = changed_in f xs b i in record { a = h.a; stands = there h.stands; is = h.is }
changed_in f [] b x' = elim x' [ ]

-- ---- two things whose canonical forms are the same, positions aside, differ by a renaming

module _ {X : Type 0} (of : X → List ℕ) (to : (ℕ → ℕ) → X → X) (laws : Renumbers of to)
    (un : X → X) (of-un : (x : X) → of (un x) ≡ of x) (to-un : (f : ℕ → ℕ) (x : X) → to f (un x) ≡ un (to f x)) where
  abbrev form : X → X
  form x = to (place_of (of x)) x

  -- to the place, and from there to the number of the other
  abbrev across : X → X → ℕ → ℕ
  across x y a = value_of (of y) (place_of (of x) a)

  module _ (x y : X) (e : un (form x) ≡ un (form y)) where
    places : changed (place_of (of x)) (of x) ≡ changed (place_of (of y)) (of y)
    places =
        sym (laws.numbers (place_of (of x)) x)
        ∙ (sym (of-un (form x)) ∙ (ap of e ∙ (of-un (form y) ∙ laws.numbers (place_of (of y)) y)))

    met : (a : ℕ) → In a (of x) → From (place_of (of y)) (of y) (place_of (of x) a)
    met a i =
        changed_in (place_of (of y)) (of y) (place_of (of x) a)
        (subst (λ (xs : List ℕ). In (place_of (of x) a) xs) places (in_changed (place_of (of x)) (of x) a i))

    across_is : (a : ℕ) (i : In a (of x)) → across x y a ≡ (met a i).a
    across_is a i = ap (value_of (of y)) (met a i).is ∙ value_place_lem (of y) (met a i).a (met a i).stands

    across_apart : KeepsApart (across x y) (of x)
    unfolding KeepsApart
    across_apart a b i j h =
        let s : (met a i).a ≡ (met b j).a = sym (across_is a i) ∙ (h ∙ across_is b j) in
        places_apart (of x) a b i j ((met a i).is ∙ (ap (place_of (of y)) s ∙ sym (met b j).is))

    across_same : un (to (across x y) x) ≡ un y
    across_same =
        ap un (sym (laws.twice (value_of (of y)) (place_of (of x)) x))
        ∙ (sym (to-un (value_of (of y)) (form x))
        ∙ (ap (to (value_of (of y))) e
        ∙ (to-un (value_of (of y)) (form y)
        ∙ (ap un (laws.twice (value_of (of y)) (place_of (of y)) y)
        ∙ (ap un (laws.agree (λ a. value_of (of y) (place_of (of y) a)) (λ a. a) y (value_place_lem (of y)))
        ∙ ap un (laws.nothing y))))))

-- ---- trees

-- equal trees have the same canonical form, positions aside
pub equal_unplaced : (stage : Stage) (m n : Node) → Formed stage m → Formed stage n → Equal m n → unplaced (canonical m) ≡ unplaced (canonical n)
unfolding Equal
equal_unplaced stage m n f g e =
    (node_same stage (canonical_fits stage m f) (canonical_fits stage n g) [] []
    (append-nil (encode (canonical m)) ∙ (e ∙ sym (append-nil (encode (canonical n)))))).0

pub equal_renamed : (stage : Stage) (m n : Node) → Formed stage m → Formed stage n → Equal m n → Renamed m n
unfolding canonical
equal_renamed stage m n f g e =
    let u = equal_unplaced stage m n f g e in
    record {
      by = across numbers renumbered trees unplaced numbers_unplaced renumbered_unplaced m n;
      apart = across_apart numbers renumbered trees unplaced numbers_unplaced renumbered_unplaced m n u;
      same = across_same numbers renumbered trees unplaced numbers_unplaced renumbered_unplaced m n u;
    }

-- equal trees are equal as before: the new equality is finer
pub spelled_finer : (stage : Stage) (m n : Node) → Formed stage m → Formed stage n → Equal m n → EqualBefore m n
unfolding EqualBefore
spelled_finer stage m n f g e =
    bytes_unplaced (unspelled (canonical m)) (unspelled (canonical n))
    (sym (unspelled_unplaced (canonical m)) ∙ (ap unspelled (equal_unplaced stage m n f g e) ∙ unspelled_unplaced (canonical n)))

-- ---- results

entries_same : (es ds : List Entry) → FitEntries es → FitEntries ds → length es ≡ length ds → (x y : List ℕ)
    → over entry_encoded es ++ x ≡ over entry_encoded ds ++ y → (each_entry unplaced_items es ≡ each_entry unplaced_items ds) × (x ≡ y)
unfolding over entry_encoded each_entry unplaced
entries_same [] [] f g l x y h = (refl, h)
entries_same [] (d ∷ ds) f g l x y h = absurd (omega arith)
entries_same (e ∷ es) [] f g l x y h = absurd (omega arith)
entries_same (e ∷ es) (d ∷ ds) f g l x y h =
    let a = encode_piece (list e.declarators) in
    let b = encode_piece (list d.declarators) in
    let k = sym (append_assoc (wide_bytes e.containing ++ a) (over entry_encoded es) x) ∙ (h ∙ append_assoc (wide_bytes d.containing ++ b) (over entry_encoded ds) y) in
    let m = wide_same e.containing d.containing (a ++ (over entry_encoded es ++ x)) (b ++ (over entry_encoded ds ++ y)) k in
    let r = list_by e.declarators d.declarators (over entry_encoded es ++ x) (over entry_encoded ds ++ y)
    (λ c t. items_same rewritten f.0 g.0 c (over entry_encoded es ++ x) (over entry_encoded ds ++ y) t) m.1 in
    let s = entries_same es ds f.1 g.1 (omega arith) x y r.1 in
    let p = m.0 in
    let q : unplaced_items e.declarators ≡ unplaced_items d.declarators = (let z = r.0 in cc) in
    let t = s.0 in
    ((λ j. record { containing = (p) j; declarators = (q) j } ∷ (t) j), s.1)

pub equal_written_unplaced : (v w : Written) → FormedWritten v → FormedWritten w → EqualWritten v w
    → unplaced_written (canonical_written v) ≡ unplaced_written (canonical_written w)
unfolding list_encoded unplaced_written unplaced
equal_written_unplaced v w f g e =
    let a = canonical_written v in
    let b = canonical_written w in
    let c = canonical_written_fits v f in
    let d = canonical_written_fits w g in
    let t = (node_same rewritten c.tree d.tree [] [] (append-nil (encode a.tree) ∙ (e.trees ∙ sym (append-nil (encode b.tree))))).0 in
    let x = encode_piece (list a.excluded) in
    let y = encode_piece (list b.excluded) in
    let l = wide_same (length a.entries) (length b.entries) (over entry_encoded a.entries ++ x) (over entry_encoded b.entries ++ y) e.lists in
    let s = entries_same a.entries b.entries c.entries d.entries l.0 x y l.1 in
    let r = list_by a.excluded b.excluded [] [] (λ z u. items_same rewritten c.excluded d.excluded z [] [] u) (append-nil x ∙ (s.1 ∙ sym (append-nil y))) in
    let p = s.0 in
    let q : unplaced_items a.excluded ≡ unplaced_items b.excluded = (let z = r.0 in cc) in
    λ j. written ((t) j) ((p) j) ((q) j)

pub equal_written_renamed : (v w : Written) → FormedWritten v → FormedWritten w → EqualWritten v w → RenamedWritten v w
unfolding canonical_written
equal_written_renamed v w f g e =
    let u = equal_written_unplaced v w f g e in
    record {
      by = across numbers_written renumbered_written results unplaced_written written_numbers_unplaced written_renumbered_unplaced v w;
      apart = across_apart numbers_written renumbered_written results unplaced_written written_numbers_unplaced written_renumbered_unplaced v w u;
      same = across_same numbers_written renumbered_written results unplaced_written written_numbers_unplaced written_renumbered_unplaced v w u;
    }
