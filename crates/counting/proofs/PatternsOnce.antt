-- `patterns n` has each pattern of length n once, and no other; and laws of counting.
-- Assumes nothing.
use mathlib.Core.Path.{◌≡◌, refl, sym, ap, ◌∙◌}
use mathlib.Core.Bool.{Bool, true, false}
use mathlib.Core.List.{List, [], ◌∷◌, ◌++◌}
use Prim.Native.Nat.{ℕ, zero, suc, ◌+◌, ◌^◌}
use native.Mathlib.Nat.{two-pow-succ}
use native.Mathlib.Omega.{arith}
use lib.Dec.{eqb, eqb-suc-suc, eqb-zero-suc, eqb-suc-zero}
use lib.ListN.{length}
use Rattle.counting.specs.Patterns.{Pattern, before, patterns, number, count, having, same}

-- ---- counting

count_append : (f : Pattern → Bool) (ps qs : List Pattern) → count f (ps ++ qs) ≡ count f ps + count f qs
unfolding count
count_append f [] qs = omega arith
count_append f (p ∷ ps) qs = let r = count_append f ps qs in omega arith

count_before : (f : Pattern → Bool) (b : Bool) (ps : List Pattern) → count f (before b ps) ≡ count (λ p. f (b ∷ p)) ps
unfolding count before
count_before f b [] = refl
count_before f b (p ∷ ps) = let r = count_before f b ps in omega arith

-- tests that agree count alike
pub count_same : (f g : Pattern → Bool) → ((p : Pattern) → f p ≡ g p) → (ps : List Pattern) → count f ps ≡ count g ps
unfolding count
count_same f g e [] = refl
count_same f g e (p ∷ ps) =
    let r = count_same f g e ps in
    let n = ap (λ (b : Bool). number b) (e p) in
    omega arith

count_none : (f : Pattern → Bool) → ((p : Pattern) → f p ≡ false) → (ps : List Pattern) → count f ps ≡ 0
unfolding count
count_none f e [] = refl
count_none f e (p ∷ ps) =
    let r = count_none f e ps in
    let n = ap (λ (b : Bool). number b) (e p) in
    omega arith

-- the patterns of length n + 1, by their first choice
count_split : (f : Pattern → Bool) (n : ℕ) → count f (patterns (suc n)) ≡ count (λ p. f (false ∷ p)) (patterns n) + count (λ p. f (true ∷ p)) (patterns n)
unfolding patterns
count_split f n =
    let a = count_append f (before false (patterns n)) (before true (patterns n)) in
    let b = count_before f false (patterns n) in
    let c = count_before f true (patterns n) in
    omega arith

-- the one pattern of length 0
count_single : (f : Pattern → Bool) → count f (patterns 0) ≡ number (f [])
unfolding patterns count
count_single f = omega arith

-- ---- for how many patterns a number f is c

pub having_single : (f : Pattern → ℕ) (c : ℕ) → having f 0 c ≡ number (eqb (f []) c)
having_single f c = count_single (λ p. eqb (f p) c)

-- behind a first item that is ordinary f is g, and behind a spread it is h and 1 more
module _ (f g h : Pattern → ℕ) (ordinary : (p : Pattern) → f (false ∷ p) ≡ g p) (spread : (p : Pattern) → f (true ∷ p) ≡ suc (h p)) where
  first_ordinary : (n c : ℕ) → count (λ p. eqb (f (false ∷ p)) c) (patterns n) ≡ having g n c
  first_ordinary n c = count_same (λ p. eqb (f (false ∷ p)) c) (λ p. eqb (g p) c) (λ p. ap (λ (k : ℕ). eqb k c) (ordinary p)) (patterns n)

  pub having_zero : (n : ℕ) → having f (suc n) 0 ≡ having g n 0
  having_zero n =
      let s = count_split (λ p. eqb (f p) 0) n in
      let o = first_ordinary n 0 in
      let z = count_none (λ p. eqb (f (true ∷ p)) 0) (λ p. ap (λ (k : ℕ). eqb k 0) (spread p) ∙ eqb-suc-zero (h p)) (patterns n) in
      omega arith

  pub having_suc : (n c : ℕ) → having f (suc n) (suc c) ≡ having g n (suc c) + having h n c
  having_suc n c =
      let s = count_split (λ p. eqb (f p) (suc c)) n in
      let o = first_ordinary n (suc c) in
      let e = count_same (λ p. eqb (f (true ∷ p)) (suc c)) (λ p. eqb (h p) c) (λ p. ap (λ (k : ℕ). eqb k (suc c)) (spread p) ∙ eqb-suc-suc (h p) c) (patterns n) in
      omega arith

-- ---- each once

-- each pattern of length n stands once among them, and a pattern of another length does not
pub each_once : (n : ℕ) (p : Pattern) → count (λ q. same p q) (patterns n) ≡ number (eqb (length p) n)
unfolding same
each_once zero [] = count_single (λ q. same [] q)
each_once zero (b ∷ p) = count_single (λ q. same (b ∷ p) q) ∙ ap (λ (t : Bool). number t) (sym (eqb-suc-zero (length p)))
each_once (suc n) [] =
    let s = count_split (λ q. same [] q) n in
    let a = count_none (λ q. same [] (false ∷ q)) (λ q. refl) (patterns n) in
    let b = count_none (λ q. same [] (true ∷ q)) (λ q. refl) (patterns n) in
    let e = ap (λ (t : Bool). number t) (eqb-zero-suc n) in
    omega arith
each_once (suc n) (true ∷ p) =
    let s = count_split (λ q. same (true ∷ p) q) n in
    let a = count_none (λ q. same (true ∷ p) (false ∷ q)) (λ q. refl) (patterns n) in
    let r = each_once n p in
    let e = ap (λ (t : Bool). number t) (eqb-suc-suc (length p) n) in
    omega arith
each_once (suc n) (false ∷ p) =
    let s = count_split (λ q. same (false ∷ p) q) n in
    let a = count_none (λ q. same (false ∷ p) (true ∷ q)) (λ q. refl) (patterns n) in
    let r = each_once n p in
    let e = ap (λ (t : Bool). number t) (eqb-suc-suc (length p) n) in
    omega arith

-- ---- there are 2 ^ n

all_counted : (n : ℕ) → count (λ p. true) (patterns n) ≡ 2 ^ n
all_counted zero = count_single (λ p. true)
all_counted (suc n) =
    let s = count_split (λ p. true) n in
    let r = all_counted n in
    let e = two-pow-succ n in
    omega arith

count_length : (ps : List Pattern) → count (λ p. true) ps ≡ length ps
unfolding count
count_length [] = refl
count_length (p ∷ ps) = let r = count_length ps in omega arith

pub patterns_length : (n : ℕ) → length (patterns n) ≡ 2 ^ n
patterns_length n = sym (count_length (patterns n)) ∙ all_counted n
