-- The lowest bit of a bit map, and the map without it.
-- Assumes nothing.
use mathlib.Core.Path.{◌≡◌, refl, sym, ap, ◌∙◌}
use mathlib.Core.Bool.{Bool, true, false}
use Prim.Native.Nat.{ℕ, zero, suc, ◌+◌, ◌-◌, ◌*◌, ◌/◌, ◌%◌, ◌^◌, ◌<◌, ◌≤◌}
use native.Mathlib.Omega.{arith}
use native.Mathlib.Numerals.{add-one}
use native.Mathlib.Decide.{dec_lt}
use native.Mathlib.Nat.{pow-succ'}
use lib.Dec.{eqb}
use lib.Count.{count_trailing_zeros, under, trailing_le}
use borrow.Author.Tests.{eq-eqb, ne_eqb}
use Rattle.printer.specs.Places.{lowest_from, lowest, without_from, without, field_in}
use Rattle.printer.specs.Stacks.{frame_in}

pick_low : Bool → Bool → ℕ → ℕ
pick_low true b x = 0
pick_low false true x = suc x
pick_low false false x = 0

pick_without : Bool → Bool → ℕ → ℕ → ℕ
pick_without true b r x = 0
pick_without false true r x = 2 * x
pick_without false false r x = r - 1

low_step : (f r : ℕ) → lowest_from (suc f) r ≡ pick_low (eqb r 0) (eqb (r % 2) 0) (lowest_from f (r / 2))
unfolding lowest_from pick_low
low_step f r = go (eqb r 0) (eqb (r % 2) 0)
  where
    go : (a b : Bool) → elim a [ true ↦ 0 | false ↦ elim b [ true ↦ suc (lowest_from f (r / 2)) | false ↦ 0 ] ] ≡ pick_low a b (lowest_from f (r / 2))
    go true b = refl
    go false true = refl
    go false false = refl

without_step : (f r : ℕ) → without_from (suc f) r ≡ pick_without (eqb r 0) (eqb (r % 2) 0) r (without_from f (r / 2))
unfolding without_from pick_without
without_step f r = go (eqb r 0) (eqb (r % 2) 0)
  where
    go : (a b : Bool) → elim a [ true ↦ 0 | false ↦ elim b [ true ↦ 2 * without_from f (r / 2) | false ↦ r - 1 ] ] ≡ pick_without a b r (without_from f (r / 2))
    go true b = refl
    go false true = refl
    go false false = refl

by_zero : {A : Type 0} (r : ℕ) → (r ≡ 0 → A) → (0 < r → A) → A
by_zero r f g = elim (dec_lt 0 r) [ yes h ↦ g h | no h ↦ f (omega arith) ]

none_left : (f r : ℕ) → r ≡ 0 → lowest_from f r ≡ 0
unfolding lowest_from pick_low
none_left zero r e = refl
none_left (suc f) r e = low_step f r ∙ rw (eq-eqb r 0 e)

none_without : (f r : ℕ) → r ≡ 0 → without_from f r ≡ 0
unfolding without_from pick_without
none_without zero r e = refl
none_without (suc f) r e = without_step f r ∙ rw (eq-eqb r 0 e)

low_fuel : (f g r : ℕ) → r ≤ f → r ≤ g → lowest_from f r ≡ lowest_from g r
low_fuel zero g r a b = none_left zero r (omega arith) ∙ sym (none_left g r (omega arith))
low_fuel (suc f) zero r a b = none_left (suc f) r (omega arith) ∙ sym (none_left zero r (omega arith))
low_fuel (suc f) (suc g) r a b =
    by_zero r (λ e. none_left (suc f) r e ∙ sym (none_left (suc g) r e))
    (λ h. low_step f r ∙ ap (pick_low (eqb r 0) (eqb (r % 2) 0)) (low_fuel f g (r / 2) (omega arith) (omega arith)) ∙ sym (low_step g r))

without_fuel : (f g r : ℕ) → r ≤ f → r ≤ g → without_from f r ≡ without_from g r
without_fuel zero g r a b = none_without zero r (omega arith) ∙ sym (none_without g r (omega arith))
without_fuel (suc f) zero r a b = none_without (suc f) r (omega arith) ∙ sym (none_without zero r (omega arith))
without_fuel (suc f) (suc g) r a b =
    by_zero r (λ e. none_without (suc f) r e ∙ sym (none_without (suc g) r e))
    (λ h. without_step f r ∙ ap (pick_without (eqb r 0) (eqb (r % 2) 0) r) (without_fuel f g (r / 2) (omega arith) (omega arith)) ∙ sym (without_step g r))

pub lowest_zero : (r : ℕ) → r ≡ 0 → lowest r ≡ 0
unfolding lowest
lowest_zero r e = none_left r r e

pub lowest_even : (r : ℕ) → (r ≡ 0 → ⊥) → r % 2 ≡ 0 → lowest r ≡ lowest (r / 2) + 1
unfolding lowest pick_low
lowest_even r n e =
    low_fuel r (suc r) r (omega arith) (omega arith)
    ∙ low_step r r
    ∙ rw (ne_eqb r 0 n, eq-eqb (r % 2) 0 e) (ap suc (low_fuel r (r / 2) (r / 2) (omega arith) (omega arith)) ∙ sym (add-one (lowest_from (r / 2) (r / 2))))

pub lowest_odd : (r : ℕ) → (r ≡ 0 → ⊥) → (r % 2 ≡ 0 → ⊥) → lowest r ≡ 0
unfolding lowest pick_low
lowest_odd r n e = low_fuel r (suc r) r (omega arith) (omega arith) ∙ low_step r r ∙ rw (ne_eqb r 0 n, ne_eqb (r % 2) 0 e)

pub without_zero : (r : ℕ) → r ≡ 0 → without r ≡ 0
unfolding without
without_zero r e = none_without r r e

pub without_even : (r : ℕ) → (r ≡ 0 → ⊥) → r % 2 ≡ 0 → without r ≡ without (r / 2) * 2
unfolding without pick_without
without_even r n e =
    without_fuel r (suc r) r (omega arith) (omega arith)
    ∙ without_step r r
    ∙ rw (ne_eqb r 0 n, eq-eqb (r % 2) 0 e) (ap (λ (x : ℕ). 2 * x) (without_fuel r (r / 2) (r / 2) (omega arith) (omega arith)) ∙ omega arith)

pub without_odd : (r : ℕ) → (r ≡ 0 → ⊥) → (r % 2 ≡ 0 → ⊥) → without r ≡ r - 1
unfolding without pick_without
without_odd r n e = without_fuel r (suc r) r (omega arith) (omega arith) ∙ without_step r r ∙ rw (ne_eqb r 0 n, ne_eqb (r % 2) 0 e)

without_under : (f r : ℕ) → without_from f r ≤ r
unfolding without_from pick_without
without_under zero r = omega arith
without_under (suc f) r = rw (without_step f r) (go (eqb r 0) (eqb (r % 2) 0) (without_from f (r / 2)) (without_under f (r / 2)))
  where
    go : (a b : Bool) (x : ℕ) → x ≤ r / 2 → pick_without a b r x ≤ r
    go true b x h = omega arith
    go false true x h = omega arith
    go false false x h = omega arith

pub without_less : (r : ℕ) → without r ≤ r
unfolding without
without_less r = without_under r r

low_under : (f r : ℕ) → lowest_from f r ≤ f
unfolding lowest_from pick_low
low_under zero r = omega arith
low_under (suc f) r = rw (low_step f r) (go (eqb r 0) (eqb (r % 2) 0) (lowest_from f (r / 2)) (low_under f (r / 2)))
  where
    go : (a b : Bool) (x : ℕ) → x ≤ f → pick_low a b x ≤ suc f
    go true b x h = omega arith
    go false true x h = omega arith
    go false false x h = omega arith

lowest_less : (r : ℕ) → lowest r ≤ r
unfolding lowest
lowest_less r = low_under r r

-- ---- the same by the zeros below the lowest bit

record Trailing (r t : ℕ) : Type 0 where
  pub low : t ≡ lowest r
  pub rest : r - 2 ^ t ≡ without r
  pub within : 2 ^ t ≤ r

trailing_even : (r t : ℕ) → (r ≡ 0 → ⊥) → r % 2 ≡ 0 → Trailing (r / 2) t → Trailing r (suc t)
trailing_even r t n e p =
    let w : 2 ^ suc t ≡ 2 * 2 ^ t = pow-succ' 2 t in
    let a : without r ≡ without (r / 2) * 2 = without_even r n e in
    let b : r / 2 - 2 ^ t ≡ without (r / 2) = p.rest in
    let d : 2 ^ t ≤ r / 2 = p.within in
    record {
      low = ap suc p.low ∙ sym (add-one (lowest (r / 2))) ∙ sym (lowest_even r n e);
      rest = omega arith;
      within = omega arith;
    }

trailing_odd : (r : ℕ) → (r ≡ 0 → ⊥) → (r % 2 ≡ 0 → ⊥) → Trailing r 0
trailing_odd r n e = record {
  low = sym (lowest_odd r n e);
  rest = sym (without_odd r n e);
  within = by_zero r (λ z. absurd (n z)) (λ h. h);
}

trailing : (k r : ℕ) → (r ≡ 0 → ⊥) → r < 2 ^ k → Trailing r (count_trailing_zeros k r)
unfolding count_trailing_zeros
trailing zero r n h = absurd (n (omega arith))
trailing (suc k) r n h = go (r % 2) refl (trailing k (r / 2))
  where
    go : (d : ℕ) → r % 2 ≡ d → ((r / 2 ≡ 0 → ⊥) → r / 2 < 2 ^ k → Trailing (r / 2) (count_trailing_zeros k (r / 2))) → Trailing r (under d (count_trailing_zeros k (r / 2)))
    go zero e f =
        let w : 2 ^ suc k ≡ 2 * 2 ^ k = pow-succ' 2 k in
        trailing_even r (count_trailing_zeros k (r / 2)) n e (f (λ z. n (omega arith)) (omega arith))
    go (suc d) e f = trailing_odd r n (λ z. absurd (omega arith))

trailing_below : (k r : ℕ) → (r ≡ 0 → ⊥) → r < 2 ^ k → count_trailing_zeros k r < k
trailing_below k r n h = elim (dec_lt (count_trailing_zeros k r) k) [
  | yes g ↦ g
  | no g ↦
      let e : count_trailing_zeros k r ≡ k = omega (arith, trailing_le k r) in
      let w : 2 ^ k ≤ r = rw e at (trailing k r n h).within in
      absurd (omega arith)
]

-- a field's number is below 8
pub lowest_byte : (r : ℕ) → r < 256 → lowest r < 8
lowest_byte r h =
    by_zero r (λ z. omega (arith, lowest_zero r z))
    (λ g. let n : r ≡ 0 → ⊥ = λ z. absurd (omega arith) in rw (← (trailing 8 r n h).low) (trailing_below 8 r n h))

-- the number of a packed frame's next field
pub field_below : (v : ℕ) → field_in (frame_in v) < 8
unfolding field_in
field_below v = lowest_byte (frame_in v).rem (omega arith)

-- ---- the same of a word

module _ (r : ℕ) (n : r ≡ 0 → ⊥) (h : r < 18446744073709551616) where
  pub zeros_below : count_trailing_zeros 64 r < 64
  zeros_below = trailing_below 64 r n h

  pub zeros_low : count_trailing_zeros 64 r ≡ lowest r
  zeros_low = (trailing 64 r n h).low

  pub zeros_less : count_trailing_zeros 64 r ≤ r
  zeros_less = omega (arith, zeros_low, lowest_less r)

  pub bit_within : 1 * 2 ^ count_trailing_zeros 64 r % 18446744073709551616 ≤ r
  bit_within = omega (arith, (trailing 64 r n h).within)

  pub bit_away : r - 1 * 2 ^ count_trailing_zeros 64 r % 18446744073709551616 ≡ without r
  bit_away = omega (arith, (trailing 64 r n h).within, (trailing 64 r n h).rest)
