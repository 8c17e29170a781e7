-- Equality is an equivalence that its test decides, and a renaming that keeps temporaries apart leads to equal trees.
-- Assumes nothing.
use mathlib.Core.Path.{◌≡◌, refl, sym, ap, ap₂, ◌∙◌}
use mathlib.Core.Bool.{Bool, true, ◌&&◌, true≢false}
use mathlib.Core.List.{List}
use mathlib.Core.Logic.{◌↔◌}
use Prim.Native.Nat.{ℕ}
use Rattle.tree.specs.Tree.{Node, encode}
use Rattle.lowering.specs.Parts.{same_numbers}
use Rattle.lowering.proofs.Appearance.{same_numbers_lem, numbers_self}
use Rattle.lowering.proofs.Cases.{and_left, and_right}
use Rattle.equal.specs.Canonical.{Written, numbers, renumbered, place_of, canonical, numbers_written, renumbered_written, canonical_written}
use Rattle.equal.specs.Equal.{Equal, is_equal, list_encoded, EqualWritten, is_equal_written, EqualBefore, is_equal_before}
use Rattle.equal.specs.Unspelled.{unspelled}
use Rattle.equal.specs.Renaming.{KeepsApart, unplaced, unplaced_written, Renamed, RenamedWritten}
use Rattle.equal.specs.Examples.{hexadecimal, decimal, apart_examples}
use Rattle.equal.proofs.PlacesByAppearance.{place_changed}
use Rattle.equal.proofs.Renumber.{Renumbers, trees, results}
use Rattle.equal.proofs.Unplaced.{encode_unplaced, numbers_unplaced, renumbered_unplaced, list_unplaced, written_numbers_unplaced, written_renumbered_unplaced}

-- ---- an equivalence

pub record Equivalence {A : Type 0} (R : A → A → Type 0) : Type 0 where
  pub self : (a : A) → R a a
  pub turned : (a b : A) → R a b → R b a
  pub carries : (a b c : A) → R a b → R b c → R a c

pub equal_equivalence : Equivalence Equal
unfolding Equal
equal_equivalence = record { self = λ a. refl; turned = λ a b e. sym e; carries = λ a b c e f. e ∙ f }

pub equal_written_equivalence : Equivalence EqualWritten
equal_written_equivalence =
    record {
      self = λ a. record { trees = refl; lists = refl };
      turned = λ a b e. record { trees = sym e.trees; lists = sym e.lists };
      carries = λ a b c e f. record { trees = e.trees ∙ f.trees; lists = e.lists ∙ f.lists };
    }

-- ---- the tests decide

text_same : (p q : List ℕ) → p ≡ q → same_numbers p q ≡ true
text_same p q e = ap (same_numbers p) (sym e) ∙ numbers_self p

-- a test says yes exactly if it is so
pub equal_decides : (m n : Node) → (is_equal m n ≡ true) ↔ Equal m n
unfolding is_equal Equal
equal_decides m n =
    (same_numbers_lem (encode (canonical m)) (encode (canonical n)), text_same (encode (canonical m)) (encode (canonical n)))

pub equal_before_decides : (m n : Node) → (is_equal_before m n ≡ true) ↔ EqualBefore m n
unfolding is_equal_before EqualBefore
equal_before_decides m n = (
  same_numbers_lem (encode (unspelled (canonical m))) (encode (unspelled (canonical n))),
  text_same (encode (unspelled (canonical m))) (encode (unspelled (canonical n))),
)

pub equal_written_decides : (v w : Written) → (is_equal_written v w ≡ true) ↔ EqualWritten v w
unfolding is_equal_written
equal_written_decides v w =
    let a = encode (canonical_written v).tree in
    let b = encode (canonical_written w).tree in
    let c = list_encoded (canonical_written v).entries (canonical_written v).excluded in
    let d = list_encoded (canonical_written w).entries (canonical_written w).excluded in (
      λ e. record { trees = same_numbers_lem a b (and_left (same_numbers a b) (same_numbers c d) e); lists = same_numbers_lem c d (and_right (same_numbers a b) (same_numbers c d) e) },
      λ h. ap₂ (λ (x y : Bool). x && y) (text_same a b h.trees) (text_same c d h.lists),
    )

-- `0x10;` and `16;`, whose numbers have one form: equal before, not now
pub spelled_apart : EqualBefore hexadecimal decimal × (Equal hexadecimal decimal → ⊥)
spelled_apart = (
  (equal_before_decides hexadecimal decimal).0 apart_examples.equal_before,
  λ h. true≢false (sym ((equal_decides hexadecimal decimal).1 h) ∙ apart_examples.not_now),
)

-- ---- a renaming that keeps temporaries apart does not change the canonical form

module _ {X : Type 0} (of : X → List ℕ) (to : (ℕ → ℕ) → X → X) (laws : Renumbers of to) where
  pub canonical_renamed : (f : ℕ → ℕ) (x : X) → KeepsApart f (of x) → to (place_of (of (to f x))) (to f x) ≡ to (place_of (of x)) x
  canonical_renamed f x h =
      laws.twice (place_of (of (to f x))) f x
      ∙ laws.agree (λ a. place_of (of (to f x)) (f a)) (place_of (of x)) x
      (λ a i. ap (λ (xs : List ℕ). place_of xs (f a)) (laws.numbers f x) ∙ place_changed f (of x) h a i)

-- ---- nor do positions

pub canonical_unplaced : (n : Node) → canonical (unplaced n) ≡ unplaced (canonical n)
unfolding canonical
canonical_unplaced n =
    ap (λ (xs : List ℕ). renumbered (place_of xs) (unplaced n)) (numbers_unplaced n) ∙ renumbered_unplaced (place_of (numbers n)) n

pub canonical_written_unplaced : (w : Written) → canonical_written (unplaced_written w) ≡ unplaced_written (canonical_written w)
unfolding canonical_written
canonical_written_unplaced w =
    ap (λ (xs : List ℕ). renumbered_written (place_of xs) (unplaced_written w)) (written_numbers_unplaced w)
    ∙ written_renumbered_unplaced (place_of (numbers_written w)) w

-- ---- trees that differ by such a renaming are equal

-- the canonical forms are the same tree, positions aside
pub renamed_canonical : (m n : Node) → Renamed m n → unplaced (canonical m) ≡ unplaced (canonical n)
unfolding canonical
renamed_canonical m n r =
    ap unplaced (sym (canonical_renamed numbers renumbered trees r.by m r.apart))
    ∙ (sym (canonical_unplaced (renumbered r.by m)) ∙ (ap canonical r.same ∙ canonical_unplaced n))

-- trees that are the same, positions aside, have the same bytes
pub bytes_unplaced : (m n : Node) → unplaced m ≡ unplaced n → encode m ≡ encode n
bytes_unplaced m n e = sym (encode_unplaced m) ∙ (ap encode e ∙ encode_unplaced n)

pub renamed_equal : (m n : Node) → Renamed m n → Equal m n
unfolding Equal
renamed_equal m n r = bytes_unplaced (canonical m) (canonical n) (renamed_canonical m n r)

pub renamed_written_canonical : (v w : Written) → RenamedWritten v w → unplaced_written (canonical_written v) ≡ unplaced_written (canonical_written w)
unfolding canonical_written
renamed_written_canonical v w r =
    ap unplaced_written (sym (canonical_renamed numbers_written renumbered_written results r.by v r.apart))
    ∙ (sym (canonical_written_unplaced (renumbered_written r.by v)) ∙ (ap canonical_written r.same ∙ canonical_written_unplaced w))

pub written_unplaced_equal : (v w : Written) → unplaced_written (canonical_written v) ≡ unplaced_written (canonical_written w) → EqualWritten v w
unfolding unplaced_written
written_unplaced_equal v w e =
    let a = canonical_written v in
    let b = canonical_written w in
    record {
      trees = bytes_unplaced a.tree b.tree (ap (λ (x : Written). x.tree) e);
      lists =
          sym (list_unplaced a.entries a.excluded)
          ∙ (ap (λ (x : Written). list_encoded x.entries x.excluded) e ∙ list_unplaced b.entries b.excluded);
    }

pub renamed_written_equal : (v w : Written) → RenamedWritten v w → EqualWritten v w
renamed_written_equal v w r = written_unplaced_equal v w (renamed_written_canonical v w r)
