-- fresh-lowest: the marks that are given are the lowest that are free, rising.
-- Assumes nothing.
use Prim.Native.Nat.{ℕ, zero, suc, ◌+◌, ◌-◌, ◌<◌, ◌≤◌}
use mathlib.Core.Path.{◌≡◌, refl, sym, ap, ◌∙◌}
use mathlib.Core.List.{List, [], ◌∷◌}
use mathlib.Core.Bool.{Bool, true, false, cond, ◌||◌}
use native.Mathlib.Omega.{arith}
use lib.Dec.{eqb}
use lib.ListN.{length}
use borrow.Author.Tests.{ne_eqb, eqb-true}
use Rattle.tree.specs.Grammar.{among}
use Rattle.tree.proofs.Sound.{never}
use Rattle.rewritten.proofs.Marks.{by_same}
use Rattle.joining.specs.Join.{seek, fresh}
use Rattle.joining.proofs.JoinedWritten.{fresh_most}

-- the first above m that is free; or all are taken as far as it goes
record Sought (taken : List ℕ) (most m r : ℕ) : Type 0 where
  pub above : m ≤ r
  pub below : r ≤ m + most
  pub between : (x : ℕ) → m < x → x < r → among taken x ≡ true
  pub free : r < m + most → (m < r) × (among taken r ≡ false)

sought : (taken : List ℕ) (most m : ℕ) → Sought taken most m (seek taken most m)
unfolding seek
sought taken zero m = record { above = omega arith; below = omega arith; between = λ x a b. absurd (omega arith); free = λ h. absurd (omega arith) }
sought taken (suc most) m = go (among taken (suc m)) refl (sought taken most (suc m))
  where
    go : (b : Bool) → among taken (suc m) ≡ b → Sought taken most (suc m) (seek taken most (suc m)) → Sought taken (suc most) m (cond b (seek taken most (suc m)) (suc m))
    go true e s =
        let lo : suc m ≤ seek taken most (suc m) = s.above in
        let hi : seek taken most (suc m) ≤ suc m + most = s.below in
        record {
          above = omega arith;
          below = omega arith;
          between = λ x a b. by_same x (suc m) (λ w. rw w e) (λ d. s.between x (omega arith) b);
          free = λ h. let f = s.free (omega arith) in (omega arith, f.1);
        }
    go false e s = record { above = omega arith; below = omega arith; between = λ x a b. absurd (omega arith); free = λ h. (omega arith, e) }

-- the one that was given before, 0 at first
abbrev pub earlier_mark : List ℕ → ℕ → ℕ
earlier_mark taken zero = 0
earlier_mark taken (suc i) = fresh taken i

fresh_is : (taken : List ℕ) (i : ℕ) → fresh taken i ≡ seek taken (65535 - earlier_mark taken i) (earlier_mark taken i)
unfolding fresh
fresh_is taken zero = refl
fresh_is taken (suc i) = refl

earlier_most : (taken : List ℕ) (i : ℕ) → earlier_mark taken i ≤ 65535
earlier_most taken zero = omega arith
earlier_most taken (suc i) = fresh_most taken i

pub record Lowest (taken : List ℕ) (i : ℕ) : Type 0 where
  pub most : fresh taken i ≤ 65535
  -- what lies between it and the one before is taken
  pub between : (x : ℕ) → earlier_mark taken i < x → x < fresh taken i → among taken x ≡ true
  -- a mark of 16 bits other than the last is above the one before, and free
  pub free : fresh taken i < 65535 → (earlier_mark taken i < fresh taken i) × (among taken (fresh taken i) ≡ false)

pub fresh_lowest : (taken : List ℕ) (i : ℕ) → Lowest taken i
fresh_lowest taken i = found
  where
    s : Sought taken (65535 - earlier_mark taken i) (earlier_mark taken i) (seek taken (65535 - earlier_mark taken i) (earlier_mark taken i))
    s = sought taken (65535 - earlier_mark taken i) (earlier_mark taken i)

    same : fresh taken i ≡ seek taken (65535 - earlier_mark taken i) (earlier_mark taken i)
    same = fresh_is taken i

    found : Lowest taken i
    found = record {
      most = fresh_most taken i;
      between = λ x a b. s.between x a (rw same at b);
      free = λ h. let e : earlier_mark taken i ≤ 65535 = earlier_most taken i in let f = s.free (let g : seek taken (65535 - earlier_mark taken i) (earlier_mark taken i) < 65535 = rw same at h in omega arith) in (rw same f.0, rw same f.1);
    }

-- ---- fresh-below: there are enough of them

-- a list without a number
without : ℕ → List ℕ → List ℕ
without x [] = []
without x (m ∷ ms) = cond (eqb m x) (without x ms) (m ∷ without x ms)

without_other : (x y : ℕ) (ms : List ℕ) → (x ≡ y → ⊥) → among (without x ms) y ≡ among ms y
unfolding without among
without_other x y [] d = refl
without_other x y (m ∷ ms) d = go (eqb m x) refl (without_other x y ms d)
  where
    go : (b : Bool) → eqb m x ≡ b → among (without x ms) y ≡ among ms y → among (cond b (without x ms) (m ∷ without x ms)) y ≡ (eqb m y || among ms y)
    go true e r = r ∙ ap (λ (c : Bool). c || among ms y) (sym (ne_eqb m y (λ w. d (sym (eqb-true m x e) ∙ w))))
    go false e r = ap (λ (c : Bool). eqb m y || c) r

without_less : (x : ℕ) (ms : List ℕ) → length (without x ms) ≤ length ms
unfolding without
without_less x [] = omega arith
without_less x (m ∷ ms) = go (eqb m x) (without_less x ms)
  where
    go : (b : Bool) → length (without x ms) ≤ length ms → length (cond b (without x ms) (m ∷ without x ms)) ≤ suc (length ms)
    go true h = omega arith
    go false h = omega arith

without_short : (x : ℕ) (ms : List ℕ) → among ms x ≡ true → suc (length (without x ms)) ≤ length ms
unfolding without among
without_short x [] h = never h
without_short x (m ∷ ms) h = go (eqb m x) h (without_less x ms) (without_short x ms)
  where
    go : (b : Bool) → (b || among ms x) ≡ true → length (without x ms) ≤ length ms → (among ms x ≡ true → suc (length (without x ms)) ≤ length ms) → suc (length (cond b (without x ms) (m ∷ without x ms))) ≤ suc (length ms)
    go true w l f = omega arith
    go false w l f = let z : suc (length (without x ms)) ≤ length ms = f w in omega arith

-- what is left of a list when a run of numbers is taken out
record Left (ms : List ℕ) (m k : ℕ) : Type 0 where
  pub rest : List ℕ
  pub short : length rest + k ≤ length ms
  pub kept : (x : ℕ) → m + k < x → among ms x ≡ true → among rest x ≡ true

run_out : (k : ℕ) (ms : List ℕ) (m : ℕ) → ((x : ℕ) → m < x → x ≤ m + k → among ms x ≡ true) → Left ms m k
run_out zero ms m h = record { rest = ms; short = omega arith; kept = λ x a b. b }
run_out (suc k) ms m h =
    let l : Left (without (suc m) ms) (suc m) k = run_out k (without (suc m) ms) (suc m) (λ x a b. without_other (suc m) x ms (λ e. omega arith) ∙ h x (omega arith) (omega arith)) in
    let s : suc (length (without (suc m) ms)) ≤ length ms = without_short (suc m) ms (h (suc m) (omega arith) (omega arith)) in
    let t : length l.rest + k ≤ length (without (suc m) ms) = l.short in
    record {
      rest = l.rest;
      short = omega arith;
      kept = λ x a b. l.kept x (omega arith) (without_other (suc m) x ms (λ e. omega arith) ∙ b);
    }

record Spent (taken : List ℕ) (i : ℕ) : Type 0 where
  pub rest : List ℕ
  pub short : length rest + fresh taken i ≤ length taken + suc i
  pub kept : (x : ℕ) → fresh taken i < x → among taken x ≡ true → among rest x ≡ true

-- one step: from what was left after the mark before
spent_step : (taken before : List ℕ) (i : ℕ) → length before + earlier_mark taken i ≤ length taken + i → ((x : ℕ) → earlier_mark taken i < x → among taken x ≡ true → among before x ≡ true) → Spent taken i
spent_step taken before i short kept =
    let s : Sought taken (65535 - earlier_mark taken i) (earlier_mark taken i) (seek taken (65535 - earlier_mark taken i) (earlier_mark taken i)) = sought taken (65535 - earlier_mark taken i) (earlier_mark taken i) in
    let same : fresh taken i ≡ seek taken (65535 - earlier_mark taken i) (earlier_mark taken i) = fresh_is taken i in
    let lo : earlier_mark taken i ≤ seek taken (65535 - earlier_mark taken i) (earlier_mark taken i) = s.above in
    let l : Left before (earlier_mark taken i) (fresh taken i - earlier_mark taken i - 1) = run_out (fresh taken i - earlier_mark taken i - 1) before (earlier_mark taken i) (λ x a b. kept x a (s.between x a (omega arith))) in
    let t : length l.rest + (fresh taken i - earlier_mark taken i - 1) ≤ length before = l.short in
    record {
      rest = l.rest;
      short = omega arith;
      kept = λ x a b. l.kept x (omega arith) (kept x (omega arith) b);
    }

spent : (taken : List ℕ) (i : ℕ) → Spent taken i
spent taken zero = spent_step taken taken 0 (omega arith) (λ x a b. b)
spent taken (suc i) = let p : Spent taken i = spent taken i in spent_step taken p.rest (suc i) p.short p.kept

pub fresh_below : (taken : List ℕ) (i : ℕ) → fresh taken i ≤ length taken + suc i
fresh_below taken i = let p : length (spent taken i).rest + fresh taken i ≤ length taken + suc i = (spent taken i).short in omega arith
