-- The figures count the patterns.
-- Assumes nothing.
use mathlib.Core.Path.{◌≡◌, refl, sym, ap, ◌∙◌}
use mathlib.Core.Bool.{Bool, true, false}
use Prim.Native.Nat.{ℕ, zero, suc, ◌+◌, ◌*◌}
use native.Mathlib.Omega.{arith}
use lib.Dec.{eqb, eqb-suc-suc, eqb-zero-suc}
use Rattle.counting.specs.Patterns.{patterns, number, count, having, spreads}
use Rattle.counting.specs.Calls.{calls}
use Rattle.counting.specs.Figures.{choose, figure}
use Rattle.counting.proofs.Calls.{more, starting, calls_start}
use Rattle.counting.proofs.PatternsOnce.{count_same, having_single, having_zero, having_suc}
use Rattle.counting.proofs.Figures.{choose_none}

-- ---- the ways to choose

-- the ways to choose k of n are the patterns of length n with k spreads
pub choose_counts : (n k : ℕ) → choose n k ≡ having spreads n k
unfolding choose spreads
choose_counts zero zero = sym (having_single spreads 0)
choose_counts zero (suc k) = sym (having_single spreads (suc k) ∙ ap (λ (t : Bool). number t) (eqb-zero-suc k))
choose_counts (suc n) zero =
    let s = having_zero spreads spreads spreads (λ p. refl) (λ p. refl) n in
    let r = choose_counts n 0 in
    let z = choose_none n in
    omega arith
choose_counts (suc n) (suc k) =
    let s = having_suc spreads spreads spreads (λ p. refl) (λ p. refl) n k in
    let a = choose_counts n k in
    let b = choose_counts n (suc k) in
    omega arith

-- ---- behind a call, with or without pending properties

more_zero : (b : Bool) (n : ℕ) → having (more b) (suc n) 0 ≡ having (more true) n 0
unfolding more
more_zero b n = having_zero (more b) (more true) (more false) (λ p. refl) (λ p. refl) n

more_suc : (b : Bool) (n d : ℕ) → having (more b) (suc n) (suc d) ≡ having (more true) n (suc d) + having (more false) n d
unfolding more
more_suc b n d = having_suc (more b) (more true) (more false) (λ p. refl) (λ p. refl) n d

-- with pending properties some call is still to come
none_behind : (n : ℕ) → having (more true) n 0 ≡ 0
unfolding more
none_behind zero = having_single (more true) 0
none_behind (suc n) = more_zero true n ∙ none_behind n

more_choose : (n : ℕ) (b : Bool) (d : ℕ) → having (more b) (suc n) (suc d) ≡ 2 * choose n d
unfolding choose more
more_choose zero b zero =
    let s = more_suc b 0 0 in
    let x = having_single (more true) 1 in
    let y = having_single (more false) 0 in
    omega arith
more_choose zero b (suc d) =
    let s = more_suc b 0 (suc d) in
    let x = having_single (more true) (suc (suc d)) in
    let y = having_single (more false) (suc d) in
    let u = ap (λ (t : Bool). number t) (eqb-suc-suc 0 (suc d)) in
    let v = ap (λ (t : Bool). number t) (eqb-zero-suc d) in
    omega arith
more_choose (suc n) b zero =
    let s = more_suc b (suc n) 0 in
    let x = more_choose n true 0 in
    let y = more_zero false n in
    let z = none_behind n in
    let w = choose_none n in
    omega arith
more_choose (suc n) b (suc d) =
    let s = more_suc b (suc n) (suc d) in
    let x = more_choose n true (suc d) in
    let y = more_choose n false d in
    omega arith

-- ---- from the start

starting_zero : (n : ℕ) → having starting (suc n) 0 ≡ having starting n 0
unfolding starting
starting_zero n = having_zero starting starting (more false) (λ p. refl) (λ p. refl) n

starting_suc : (n d : ℕ) → having starting (suc n) (suc d) ≡ having starting n (suc d) + having (more false) n d
unfolding starting
starting_suc n d = having_suc starting starting (more false) (λ p. refl) (λ p. refl) n d

starting_figure : (n c : ℕ) → having starting n c ≡ figure n c
unfolding figure starting more choose
starting_figure zero zero = having_single starting 0
starting_figure zero (suc c) = having_single starting (suc c) ∙ ap (λ (t : Bool). number t) (eqb-zero-suc c)
starting_figure (suc zero) zero = let s = starting_zero 0 in let r = starting_figure zero 0 in omega arith
starting_figure (suc (suc n)) zero = let s = starting_zero (suc n) in let r = starting_figure (suc n) 0 in omega arith
starting_figure (suc zero) (suc zero) =
    let s = starting_suc 0 0 in
    let r = starting_figure zero 1 in
    let y = having_single (more false) 0 in
    omega arith
starting_figure (suc (suc n)) (suc zero) =
    let s = starting_suc (suc n) 0 in
    let r = starting_figure (suc n) 1 in
    let y = more_zero false n in
    let z = none_behind n in
    omega arith
starting_figure (suc zero) (suc (suc c)) =
    let s = starting_suc 0 (suc c) in
    let r = starting_figure zero (suc (suc c)) in
    let y = having_single (more false) (suc c) in
    let v = ap (λ (t : Bool). number t) (eqb-zero-suc c) in
    omega arith
starting_figure (suc (suc n)) (suc (suc c)) =
    let s = starting_suc (suc n) (suc c) in
    let r = starting_figure (suc n) (suc (suc c)) in
    let y = more_choose n false c in
    omega arith

-- ---- the figure is the number of patterns of length n whose literal gives c calls

pub figure_counts : (n c : ℕ) → figure n c ≡ count (λ p. eqb (calls p) c) (patterns n)
figure_counts n c =
    sym (starting_figure n c)
    ∙ count_same (λ p. eqb (starting p) c) (λ p. eqb (calls p) c) (λ p. ap (λ (k : ℕ). eqb k c) (sym (calls_start p))) (patterns n)
