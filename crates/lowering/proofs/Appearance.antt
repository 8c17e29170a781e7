-- Numbers by first appearance are kept by a renaming that keeps apart the names that occur. So code may name temporaries as it likes.
-- And a number is given to one name.
-- Assumes nothing.
use mathlib.Core.Path.{◌≡◌, refl, sym, ap, ap₂, subst, ◌∙◌}
use mathlib.Core.Bool.{Bool, true, false, cond, ◌&&◌, false≢true}
use mathlib.Core.List.{List, [], ◌∷◌, ◌++◌}
use Prim.Native.Nat.{ℕ, suc, ◌≤◌}
use native.Mathlib.Omega.{arith}
use lib.Dec.{eqb}
use borrow.Author.Tests.{eq-eqb, eqb-true}
use Rattle.tree.specs.Tree.{Node}
use Rattle.lowering.specs.Parts.{same_numbers, is}
use Rattle.lowering.specs.Collect.{Name, over, name_of, name_at, same, except, distinct, number_in}
use Rattle.lowering.proofs.Cases.{by_test}

-- ---- `same` tells names apart

pub both : (a b : Bool) → a && b ≡ true → (a ≡ true) × (b ≡ true)
both true true h = (refl, refl)
both true false h = absurd (false≢true h)
both false b h = absurd (false≢true h)

pub same_numbers_lem : (p q : List ℕ) → same_numbers p q ≡ true → p ≡ q
unfolding same_numbers
same_numbers_lem [] [] h = refl
same_numbers_lem [] (b ∷ q) h = absurd (false≢true h)
same_numbers_lem (a ∷ p) [] h = absurd (false≢true h)
same_numbers_lem (a ∷ p) (b ∷ q) h =
    let k = both (eqb a b) (same_numbers p q) h in
    ap₂ (λ (x : ℕ) (y : List ℕ). x ∷ y) (eqb-true a b k.0) (same_numbers_lem p q k.1)

pub same_is : (a b : Name) → same a b ≡ true → a ≡ b
unfolding same
same_is a b h =
    let k = both (eqb a.place b.place) (eqb a.stem b.stem && same_numbers a.path b.path) h in
    let l = both (eqb a.stem b.stem) (same_numbers a.path b.path) k.1 in
    let p : a.path ≡ b.path = same_numbers_lem a.path b.path l.1 in
    let s : a.stem ≡ b.stem = eqb-true a.stem b.stem l.0 in
    let x : a.place ≡ b.place = eqb-true a.place b.place k.0 in
    λ j. record { path = (p) j; stem = (s) j; place = (x) j }

-- ---- renaming

pub data In {A : Type 0} (a : A) : List A → Type 0 where
  here : {b : A} {xs : List A} → a ≡ b → In a (b ∷ xs)
  there : {b : A} {xs : List A} → In a xs → In a (b ∷ xs)

module _ {A B : Type 0} (alike : A → A → Bool) (alike' : B → B → Bool) (f : A → B) where
  abbrev pub renamed : List A → List B
  renamed [] = []
  renamed (a ∷ rest) = f a ∷ renamed rest

  -- f keeps apart what occurs
  abbrev pub Keeps : List A → Type 0
  Keeps xs = (a b : A) → In a xs → In b xs → alike' (f a) (f b) ≡ alike a b

  in_except : (a b : A) (xs : List A) → In a (except alike b xs) → In a xs
  unfolding except
  in_except a b [] i = i
  in_except a b (d ∷ xs) i = go (alike b d) i (λ z. in_except a b xs z)
    where
      after : (ys : List A) → In a (d ∷ ys) → (In a ys → In a xs) → In a (d ∷ xs)
      after ys (here e) k = here e
      after ys (there z) k = there (k z)

      go : (t : Bool) → In a (cond t (except alike b xs) (d ∷ except alike b xs)) → (In a (except alike b xs) → In a xs) → In a (d ∷ xs)
      go true z k = there (k z)
      go false z k = after (except alike b xs) z k

  pub in_distinct : (a : A) (xs : List A) → In a (distinct alike xs) → In a xs
  unfolding distinct
  in_distinct a [] i = i
  in_distinct a (d ∷ xs) i = after (except alike d (distinct alike xs)) i (λ z. in_distinct a xs (in_except a d (distinct alike xs) z))
    where
      after : (ys : List A) → In a (d ∷ ys) → (In a ys → In a xs) → In a (d ∷ xs)
      after ys (here e) k = here e
      after ys (there z) k = there (k z)

  except_renamed : (a : A) (bs : List A) → ((b : A) → In b bs → alike' (f a) (f b) ≡ alike a b)
      → except alike' (f a) (renamed bs) ≡ renamed (except alike a bs)
  unfolding except
  except_renamed a [] k = refl
  except_renamed a (b ∷ bs) k = rw (k b (here refl)) (go (alike a b) (except_renamed a bs (λ d i. k d (there i))))
    where
      go : (t : Bool) → except alike' (f a) (renamed bs) ≡ renamed (except alike a bs)
          → cond t (except alike' (f a) (renamed bs)) (f b ∷ except alike' (f a) (renamed bs)) ≡ renamed (cond t (except alike a bs) (b ∷ except alike a bs))
      go true h = h
      go false h = ap (λ (x : List B). f b ∷ x) h

  pub distinct_renamed : (xs : List A) → Keeps xs → distinct alike' (renamed xs) ≡ renamed (distinct alike xs)
  unfolding distinct
  distinct_renamed [] k = refl
  distinct_renamed (a ∷ rest) k =
      ap (λ (x : List B). f a ∷ x)
      (ap (except alike' (f a)) (distinct_renamed rest (λ x y i j. k x y (there i) (there j)))
      ∙ except_renamed a (distinct alike rest) (λ b i. k a b (here refl) (there (in_distinct b rest i))))

  pub number_renamed : (from : ℕ) (xs : List A) (a : A) → ((b : A) → In b xs → alike' (f a) (f b) ≡ alike a b)
      → number_in alike' from (renamed xs) (f a) ≡ number_in alike from xs a
  unfolding number_in
  number_renamed from [] a k = refl
  number_renamed from (b ∷ bs) a k = rw (k b (here refl), number_renamed (suc from) bs a (λ d i. k d (there i)))

-- ---- the name of a temporary that stands in a list of nodes is among the names

pub in_first : {A : Type 0} {a : A} {xs : List A} (ys : List A) → In a xs → In a (xs ++ ys)
in_first ys (here e) = here e
in_first ys (there i) = there (in_first ys i)

pub in_second : {A : Type 0} {a : A} (xs : List A) {ys : List A} → In a ys → In a (xs ++ ys)
in_second [] i = i
in_second (x ∷ xs) i = there (in_second xs i)

pub name_over : (t : Node) → is 20 t ≡ true → {ns : List Node} → In t ns → In (name_of t) (over name_at ns)
unfolding over name_at
name_over t k (here {b = b} {xs = ns} e) = in_first (over name_at ns) (subst (λ (x : Node). In (name_of t) (cond (is 20 x) (name_of x ∷ []) [])) e (rw k (here refl)))
name_over t k (there {b = b} i) = in_second (cond (is 20 b) (name_of b ∷ []) []) (name_over t k i)

pub numbers_self : (p : List ℕ) → same_numbers p p ≡ true
unfolding same_numbers
numbers_self [] = refl
numbers_self (x ∷ p) = rw (eq-eqb x x refl) (numbers_self p)

pub name_self : (a : Name) → same a a ≡ true
unfolding same
name_self a = rw (eq-eqb a.place a.place refl, eq-eqb a.stem a.stem refl) (numbers_self a.path)

except_in : (a b : Name) {xs : List Name} → same b a ≡ false → In a xs → In a (except same b xs)
unfolding except
except_in a b n (here {b = d} {xs = xs} e) = rw (ap (same b) (sym e) ∙ n) (here e)
except_in a b n (there {b = d} {xs = xs} i) = go (same b d) (except_in a b n i)
  where
    go : (t : Bool) → In a (except same b xs) → In a (cond t (except same b xs) (d ∷ except same b xs))
    go true i = i
    go false i = there i

pub distinct_in : (a : Name) {xs : List Name} → In a xs → In a (distinct same xs)
unfolding distinct
distinct_in a (here e) = here e
distinct_in a (there {b = b} {xs = xs} i) = by_test (same b a) (λ t. here (sym (same_is b a t))) (λ t. there (except_in a b t (distinct_in a i)))

-- ---- a number is given to one name

number_from : (from : ℕ) (xs : List Name) (a : Name) → from ≤ number_in same from xs a
unfolding number_in
number_from from [] a = omega arith
number_from from (x ∷ xs) a = by_test (same a x) (λ e. rw e (omega arith)) (λ e. rw e (let r = number_from (suc from) xs a in omega arith))

pub number_apart : (a : Name) (from : ℕ) {xs : List Name} (b : Name) → In a xs → number_in same from xs a ≡ number_in same from xs b → same a b ≡ true
unfolding number_in
number_apart a from b (here {b = x} {xs = xs} e) q =
    by_test (same b x)
    (λ t. subst (λ (y : Name). same a y ≡ true) (e ∙ sym (same_is b x t)) (name_self a))
    (λ t. absurd (let f : same a x ≡ true = subst (λ (y : Name). same a y ≡ true) e (name_self a) in
    let z : from ≡ number_in same (suc from) xs b = simp (f, t) at q in let r = number_from (suc from) xs b in omega arith))
number_apart a from b (there {b = x} {xs = xs} i) q =
    by_test (same a x)
    (λ s. by_test (same b x)
    (λ t. subst (λ (y : Name). same a y ≡ true) (same_is a x s ∙ sym (same_is b x t)) (name_self a))
    (λ t. absurd (let z : from ≡ number_in same (suc from) xs b = simp (s, t) at q in let r = number_from (suc from) xs b in omega arith)))
    (λ s. by_test (same b x)
    (λ t. absurd (let z : number_in same (suc from) xs a ≡ from = simp (s, t) at q in let r = number_from (suc from) xs a in omega arith))
    (λ t. number_apart a (suc from) b i (simp (s, t) at q)))
