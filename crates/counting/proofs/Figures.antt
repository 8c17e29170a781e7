-- The figures: none above n, a row's sum, the step from one binomial to the next, the largest.
-- Assumes nothing.
use mathlib.Core.Path.{◌≡◌, refl, sym, ap, ◌∙◌}
use Prim.Native.Nat.{ℕ, zero, suc, ◌+◌, ◌*◌, ◌-◌, ◌/◌, ◌^◌, ◌<◌, ◌≤◌}
use native.Mathlib.Nat.{two-pow-succ, mul-suc, add-mul, zero-mul, mul-sub, mul-le-mul, div-eq_of_eq-mul_left}
use native.Mathlib.Numerals.{add-one}
use native.Mathlib.Omega.{arith}
use borrow.Author.Tests.{lt-ltb, le-ltb, ltb-true, ltb-false}
use lib.Dec.{T, leb, ltb, leb→le}
use Rattle.tree.proofs.Table.{below, below_at}
use Rattle.lowering.proofs.Cases.{by_test}
use Rattle.counting.specs.Figures.{choose, figure, total, longest, pattern_too_long, answer_of, number_of}

pub choose_none : (n : ℕ) → choose n 0 ≡ 1
unfolding choose
choose_none zero = refl
choose_none (suc n) = refl

pub choose_above : (n k : ℕ) → n < k → choose n k ≡ 0
unfolding choose
choose_above zero zero h = absurd (omega arith)
choose_above zero (suc k) h = refl
choose_above (suc n) zero h = absurd (omega arith)
choose_above (suc n) (suc k) h =
    let a = choose_above n k (omega arith) in
    let b = choose_above n (suc k) (omega arith) in
    omega arith

pub above_none : (n c : ℕ) → n < c → figure n c ≡ 0
unfolding figure
above_none zero zero h = absurd (omega arith)
above_none zero (suc c) h = refl
above_none (suc n) zero h = absurd (omega arith)
above_none (suc n) (suc zero) h = absurd (omega arith)
above_none (suc n) (suc (suc c)) h = let a = choose_above n (suc c) (omega arith) in omega arith

-- ---- sums

choose_rows : (n m : ℕ) → total (choose (suc n)) (suc m) ≡ total (choose n) (suc m) + total (choose n) m
unfolding total choose
choose_rows n zero = let z = choose_none n in omega arith
choose_rows n (suc m) = let r = choose_rows n m in omega arith

choose_sum : (n : ℕ) → total (choose n) (suc n) ≡ 2 ^ n
unfolding total choose
choose_sum zero = refl
choose_sum (suc n) =
    let r = choose_rows n (suc n) in
    let h = choose_sum n in
    let z = choose_above n (suc n) (omega arith) in
    let e = two-pow-succ n in
    omega arith

figure_sum : (n m : ℕ) → total (figure (suc n)) (suc (suc m)) ≡ 2 * total (choose n) (suc m)
unfolding total figure
figure_sum n zero = let z = choose_none n in omega arith
figure_sum n (suc m) = let r = figure_sum n m in omega arith

-- the figures of a row, c from 0 to n, add up to all patterns
pub row_sum : (n : ℕ) → total (figure n) (suc n) ≡ 2 ^ n
unfolding total figure
row_sum zero = refl
row_sum (suc n) =
    let a = figure_sum n n in
    let b = choose_sum n in
    let e = two-pow-succ n in
    omega arith

-- ---- from one binomial to the next

step : (a b c i m : ℕ) → b * suc i + a * i ≡ a * m → c * suc (suc i) + b * suc i ≡ b * m → (b + c) * suc (suc i) + (a + b) * suc i ≡ (a + b) * suc m
step a b c i m h k =
    let p = add-mul b c (suc (suc i)) in
    let q = add-mul a b (suc i) in
    let r = add-mul a b (suc m) in
    let s = mul-suc b (suc i) in
    let t = mul-suc a i in
    let u = mul-suc a m in
    let v = mul-suc b m in
    omega arith

pub next_choose : (m j : ℕ) → choose m (suc j) * suc j + choose m j * j ≡ choose m j * m
unfolding choose
next_choose zero zero = refl
next_choose zero (suc j) = let a = zero-mul (suc (suc j)) in let b = zero-mul (suc j) in omega arith
next_choose (suc m) zero =
    let z = choose_none m in
    let h = next_choose m zero ∙ ap (λ (x : ℕ). x * m) z in
    omega arith
next_choose (suc m) (suc i) = step (choose m i) (choose m (suc i)) (choose m (suc (suc i))) i m (next_choose m i) (next_choose m (suc i))

-- ---- the largest

-- half of it
abbrev pub half : ℕ
half = 300540195

-- each binomial of a row below 32 is tested
tested : T (below longest (λ m. below longest (λ k. leb (choose m k) half)))
unfolding choose
tested = tt

pub choose_largest : (m k : ℕ) → m < longest → choose m k ≤ half
choose_largest m k h =
    by_test (ltb k longest)
    (λ e.
    let row : T (below longest (λ j. leb (choose m j) half)) = below_at (λ i. below longest (λ j. leb (choose i j) half)) longest tested m h in
    leb→le (choose m k) half (below_at (λ j. leb (choose m j) half) longest row k (ltb-true k longest e)))
    (λ e. let l = ltb-false k longest e in let z = choose_above m k (omega arith) in omega arith)

-- no figure is larger than that of 32 and 16
pub figure_largest : (n c : ℕ) → n ≤ longest → figure n c ≤ 601080390
unfolding figure
figure_largest zero zero h = omega arith
figure_largest zero (suc c) h = omega arith
figure_largest (suc n) zero h = omega arith
figure_largest (suc n) (suc zero) h = omega arith
figure_largest (suc n) (suc (suc c)) h = let l = choose_largest n (suc c) (omega arith) in omega arith

-- ---- what the code needs

pub way_fits : (m j r : ℕ) → r ≡ choose m j → m < longest → r * (m - j) ≤ 9617286240
way_fits m j r e h =
    let l = choose_largest m j h in
    mul-le-mul {n₁ = r} {m₁ = m - j} {n₂ = half} {m₂ = longest} (omega arith) (omega arith)

next_way : (m j : ℕ) → choose m j * (m - j) / (j + 1) ≡ choose m (j + 1)
next_way m j =
    let p = next_choose m j in
    let q = mul-sub (choose m j) m j in
    let e : choose m j * (m - j) ≡ choose m (suc j) * suc j = omega arith in
    rw (add-one j) (div-eq_of_eq-mul_left {n = suc j} {m = choose m j * (m - j)} {k = choose m (suc j)} (omega arith) e)

pub way_on : (m j r : ℕ) → r ≡ choose m j → r * (m - j) / (j + 1) ≡ choose m (j + 1)
way_on m j r e = ap (λ (x : ℕ). x * (m - j) / (j + 1)) e ∙ next_way m j

pub figured_above : (n c : ℕ) → n < c → 0 ≡ figure n c
figured_above n c h = sym (above_none n c h)

pub figured_one : (n c : ℕ) → c < 2 → c ≤ n → 1 ≡ figure n c
unfolding figure
figured_one zero zero e h = refl
figured_one zero (suc c) e h = absurd (omega arith)
figured_one (suc n) zero e h = refl
figured_one (suc n) (suc zero) e h = refl
figured_one (suc n) (suc (suc c)) e h = absurd (omega arith)

pub figured_twice : (n c r : ℕ) → 2 ≤ c → c ≤ n → r ≡ choose (n - 1) (c - 1) → 2 * r ≡ figure n c
unfolding figure
figured_twice zero c r t h e = absurd (omega arith)
figured_twice (suc n) zero r t h e = absurd (omega arith)
figured_twice (suc n) (suc zero) r t h e = absurd (omega arith)
figured_twice (suc n) (suc (suc c)) r t h e =
    let a : suc n - 1 ≡ n = omega arith in
    let b : suc (suc c) - 1 ≡ suc c = omega arith in
    let f : r ≡ choose n (suc c) = e ∙ ap (λ (x : ℕ). choose x (suc (suc c) - 1)) a ∙ ap (λ (x : ℕ). choose n x) b in
    ap (λ (x : ℕ). 2 * x) f

pub refused : (n c : ℕ) → longest < n → (pattern_too_long ≡ answer_of n) × (0 ≡ number_of n c)
unfolding number_of
refused n c h = (rw (lt-ltb longest n h), rw (lt-ltb longest n h))

pub answered : (n c r : ℕ) → n ≤ longest → r ≡ figure n c → (0 ≡ answer_of n) × (r ≡ number_of n c)
unfolding number_of
answered n c r h e = (rw (le-ltb longest n h), rw (le-ltb longest n h) e)
