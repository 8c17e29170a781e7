-- The fields of a node that are still to come, as one number.
-- Assumes nothing.
use mathlib.Core.Path.{◌≡◌, refl, sym, ap, ◌∙◌}
use mathlib.Core.Bool.{Bool, true, false, cond}
use mathlib.Core.List.{List, [], ◌∷◌}
use Prim.Native.Nat.{ℕ, zero, suc, ◌+◌, ◌*◌, ◌/◌, ◌%◌, ◌^◌, ◌<◌, ◌≤◌}
use native.Mathlib.Nat.{pow-suc, pow-le-pow_right, one-le-pow, mul-le-mul_left, mul-add, mul_assoc, mul_comm, mod-lt, mod-one, zero-mod}
use native.Mathlib.Omega.{arith}
use native.Mathlib.Decide.{dec_lt}
use lib.Count.{count_trailing_zeros}
use lib.Dec.{T, eqb, leb, leb→le}
use lib.ListN.{length}
use lib.Pow.{pow_pos, mod-pow-add, shl_exact}
use borrow.Author.Tests.{eq-eqb, ne_eqb, eqb-false}
use Rattle.tree.specs.Grammar.{Sort, Field, kinds, variants, fields_of}
use Rattle.tree.specs.Grammar.Field.{must, may}
use Rattle.tree.specs.Read.{sort_in}
use Rattle.tree.specs.Rows.{sort_of, unpacked, fields_in_of}
use Rattle.tree.proofs.GrammarRows.{row_done, row_first, first_sort}
use Rattle.tree.proofs.Sound.{never}
use Rattle.tree.proofs.Table.{below, below_at}
use Rattle.tree.proofs.Within.{at_form, all_lists}
use Rattle.rewritten.specs.Pending.{by_bit_of, standing, sorts}
use Rattle.rewritten.specs.Numbers.{marked}
use Rattle.rewritten.specs.Steps.{Planned}

pub sorts_none : (v : ℕ) → v ≡ 0 → sorts (fields_in_of v) ≡ []
unfolding sorts
sorts_none v e = rw (row_done v e)

pub sorts_first : (v : ℕ) → 0 < v → sorts (fields_in_of v) ≡ sort_of (v % 512) ∷ sorts (fields_in_of (v / 1024))
unfolding sorts
sorts_first v h = rw (row_first v h) (ap (λ (s : Sort). s ∷ sorts (fields_in_of (v / 1024))) (first_sort v))

standing_none : (v m : ℕ) → v ≡ 0 → standing (fields_in_of v) m ≡ []
unfolding standing
standing_none v m e = rw (row_done v e)

standing_first : (v m : ℕ) → 0 < v → standing (fields_in_of v) m ≡ by_bit_of (m % 2) (sort_of (v % 512)) (standing (fields_in_of (v / 1024)) (m / 2))
unfolding standing
standing_first v m h = rw (row_first v h) (ap (λ (s : Sort). by_bit_of (m % 2) s (standing (fields_in_of (v / 1024)) (m / 2))) (first_sort v))

module _ (row map : ℕ) where
  plan_none : row ≡ 0 → Planned row map 0
  plan_none z = record { less = λ n h. omega arith; is = λ h. sorts_none 0 refl ∙ sym (standing_none row map z) }

  module _ (some : row ≡ 0 → ⊥) (rest : ℕ) (p : Planned (row / 1024) (map / 2) rest) where
    plan_absent : map % 2 ≡ 0 → Planned row map rest
    plan_absent z = record { less = less; is = λ h. p.is (omega arith) ∙ sym (standing_first row map (omega arith) ∙ ap (λ (b : ℕ). by_bit_of b (sort_of (row % 512)) (standing (fields_in_of (row / 1024)) (map / 2))) z) }
      where
        less : (n : ℕ) → row < 1024 ^ n → rest < 1024 ^ n
        less zero h = absurd (some (omega arith))
        less (suc n) h =
            let e : 1024 ^ suc n ≡ 1024 ^ n * 1024 = pow-suc 1024 n in
            let g : rest < 1024 ^ n = p.less n (omega arith) in
            omega arith

    plan_stands : (map % 2 ≡ 0 → ⊥) → Planned row map (rest * 1024 + 512 + row % 512)
    plan_stands b = record { less = less; is = is }
      where
        less : (n : ℕ) → row < 1024 ^ n → rest * 1024 + 512 + row % 512 < 1024 ^ n
        less zero h = absurd (some (omega arith))
        less (suc n) h =
            let e : 1024 ^ suc n ≡ 1024 ^ n * 1024 = pow-suc 1024 n in
            let g : rest < 1024 ^ n = p.less n (omega arith) in
            omega arith

        is : row < 1024 ^ 6 → sorts (fields_in_of (rest * 1024 + 512 + row % 512)) ≡ standing (fields_in_of row) map
        is h =
            let v : ℕ = rest * 1024 + 512 + row % 512 in
            let one : map % 2 ≡ 1 = omega arith in
            let low : (rest * 1024 + 512 + row % 512) % 512 ≡ row % 512 = omega arith in
            let high : (rest * 1024 + 512 + row % 512) / 1024 ≡ rest = omega arith in
            sorts_first v (omega arith)
            ∙ ap (λ (c : ℕ). sort_of c ∷ sorts (fields_in_of (v / 1024))) low
            ∙ ap (λ (c : ℕ). sort_of (row % 512) ∷ sorts (fields_in_of c)) high
            ∙ ap (λ (ss : List Sort). sort_of (row % 512) ∷ ss) (p.is (omega arith))
            ∙ sym (standing_first row map (omega arith) ∙ ap (λ (c : ℕ). by_bit_of c (sort_of (row % 512)) (standing (fields_in_of (row / 1024)) (map / 2))) one)

-- ---- the first fields stand, and no others

plan_absents : (n row : ℕ) → row ≤ n → Planned row 0 0
plan_absents zero row h = plan_none row 0 (omega arith)
plan_absents (suc n) row h = elim (dec_lt 0 row) [
  | yes g ↦ plan_absent row 0 (λ z. absurd (omega arith)) 0 (plan_absents n (row / 1024) (omega arith)) refl
  | no g ↦ plan_none row 0 (omega arith)
]

plan_as : (row map a b : ℕ) → b ≡ a → Planned row map a → Planned row map b
plan_as row map a b e p = rw e p

plan_one_lem : (row : ℕ) → 0 < row → Planned row 1 (512 + row % 512)
plan_one_lem row h = plan_as row 1 (0 * 1024 + 512 + row % 512) _ (omega arith) (plan_stands row 1 (λ z. absurd (omega arith)) 0 (plan_absents row (row / 1024) (omega arith)) (λ z. absurd (omega arith)))

pub plan_one : (row : ℕ) → 0 < row → (512 + row % 512 < 1024 ^ 6) × Planned row 1 (512 + row % 512)
plan_one row h = (omega arith, plan_one_lem row h)

pub plan_two : (row : ℕ) → 1023 < row → (512 + row % 512 + 1024 * (512 + row / 1024 % 512) < 1024 ^ 6) × Planned row 3 (512 + row % 512 + 1024 * (512 + row / 1024 % 512))
plan_two row h = (omega arith, plan_as row 3 ((512 + row / 1024 % 512) * 1024 + 512 + row % 512) _ (omega arith) (plan_stands row 3 (λ z. absurd (omega arith)) (512 + row / 1024 % 512) (plan_one_lem (row / 1024) (omega arith)) (λ z. absurd (omega arith))))

-- ---- the loop: so much is made, and what is left goes above it

pub record Planning (row map left bits made scale : ℕ) : Type 0 where
  pub taken : ℕ
  pub places : ℕ
  pub power : scale ≡ 1024 ^ taken
  pub few : left < 1024 ^ places
  pub both : taken + places ≤ 6
  pub below : made < scale
  pub will : (q : ℕ) → Planned left bits q → Planned row map (made + scale * q)

pub planning_start : (row map : ℕ) → row ≤ 1152921504606846975 → Planning row map row map 0 1
planning_start row map h = record {
  taken = 0;
  places = 6;
  power = refl;
  few = omega arith;
  both = omega arith;
  below = omega arith;
  will = λ q p. let e : 0 + 1 * q ≡ q = omega arith in rw e p;
}

-- more than six fields are none
pub plan_long : (row map : ℕ) → 1152921504606846975 < row → (0 < 1024 ^ 6) × Planned row map 0
plan_long row map h = (omega arith, record { less = λ n g. let p : 0 < 1024 ^ n = one-le-pow n 1024 (omega arith) in omega arith; is = λ g. absurd (omega arith) })

module _ (row map left bits made scale : ℕ) (g : Planning row map left bits made scale) where
  pub planning_ends : left ≤ 0 → (made < 1024 ^ 6) × Planned row map made
  planning_ends z =
      let t : g.taken + g.places ≤ 6 = g.both in
      let h : 1024 ^ g.taken ≤ 1024 ^ 6 = pow-le-pow_right (omega arith) {i = g.taken} {j = 6} (omega arith) in
      let p : scale ≡ 1024 ^ g.taken = g.power in
      let b : made < scale = g.below in
      let e : made + scale * 0 ≡ made = omega arith in
      (omega arith, rw e at (g.will 0 (plan_none left bits (omega arith))))

  module _ (some : 0 < left) where
    place_left : (places : ℕ) → left < 1024 ^ places → (m : ℕ) × (places ≡ suc m) × (left / 1024 < 1024 ^ m)
    place_left zero h = absurd (omega arith)
    place_left (suc m) h = let e : 1024 ^ suc m ≡ 1024 ^ m * 1024 = pow-suc 1024 m in (m, refl, omega arith)

    fewer : (m : ℕ) × (g.places ≡ suc m) × (left / 1024 < 1024 ^ m)
    fewer = place_left g.places g.few

    pub planning_scale : scale ≤ 1125899906842624
    planning_scale =
        let a : g.places ≡ suc fewer.0 = fewer.1 in
        let b : g.taken + g.places ≤ 6 = g.both in
        let h : 1024 ^ g.taken ≤ 1024 ^ 5 = pow-le-pow_right (omega arith) {i = g.taken} {j = 5} (omega arith) in
        let e : scale ≡ 1024 ^ g.taken = g.power in
        omega arith

    pub planning_digit : scale * (512 + left % 512) ≤ scale * 1023
    planning_digit = mul-le-mul_left scale (omega arith)

    pub planning_absent : (bits % 2 ≡ 1 → ⊥) → Planning row map (left / 1024) (bits / 2) made scale
    planning_absent b =
        let a : g.places ≡ suc fewer.0 = fewer.1 in
        let t : g.taken + g.places ≤ 6 = g.both in
        record {
          taken = g.taken;
          places = fewer.0;
          power = g.power;
          few = fewer.2;
          both = omega arith;
          below = g.below;
          will = λ q p. g.will q (plan_absent left bits (λ z. absurd (omega arith)) q p (omega arith));
        }

    pub planning_stands : bits % 2 ≡ 1 → Planning row map (left / 1024) (bits / 2) (made + scale * (512 + left % 512)) (scale * 1024)
    planning_stands b =
        let a : g.places ≡ suc fewer.0 = fewer.1 in
        let t : g.taken + g.places ≤ 6 = g.both in
        let c : made < scale = g.below in
        let d : scale * (512 + left % 512) ≤ scale * 1023 = planning_digit in
        record {
          taken = suc g.taken;
          places = fewer.0;
          power = ap (λ (x : ℕ). x * 1024) g.power ∙ sym (pow-suc 1024 g.taken);
          few = fewer.2;
          both = omega arith;
          below = omega arith;
          will = λ q p. rw (above q) (g.will (q * 1024 + 512 + left % 512) (plan_stands left bits (λ z. absurd (omega arith)) q p (λ z. absurd (omega arith))));
        }
      where
        above : (q : ℕ) → made + scale * (512 + left % 512) + scale * 1024 * q ≡ made + scale * (q * 1024 + 512 + left % 512)
        above q =
            let u : q * 1024 + 512 + left % 512 ≡ q * 1024 + (512 + left % 512) = omega arith in
            let v : scale * (q * 1024 + 512 + left % 512) ≡ scale * (q * 1024) + scale * (512 + left % 512) = ap (λ (x : ℕ). scale * x) u ∙ mul-add scale (q * 1024) (512 + left % 512) in
            let w : scale * 1024 * q ≡ scale * (q * 1024) = mul_assoc scale 1024 q ∙ ap (λ (x : ℕ). scale * x) (mul_comm 1024 q) in
            omega (arith, v, w)

-- ---- a plan: the tenth digit of each field is set already

marked_first : (v : ℕ) → 0 < v → marked (fields_in_of v) ≡ true → (v % 1024 ≡ 512 + v % 512) × (marked (fields_in_of (v / 1024)) ≡ true)
unfolding marked
marked_first v h m = go (eqb (v % 1024 / 512) 0) refl (rw (row_first v h) at m)
  where
    go : (b : Bool) → eqb (v % 1024 / 512) 0 ≡ b → marked (cond b (must (sort_of (v % 1024 % 512))) (may (sort_of (v % 1024 % 512))) ∷ fields_in_of (v / 1024)) ≡ true → (v % 1024 ≡ 512 + v % 512) × (marked (fields_in_of (v / 1024)) ≡ true)
    go true e t = never t
    go false e t = let n : v % 1024 / 512 ≡ 0 → ⊥ = eqb-false (v % 1024 / 512) 0 e in (omega arith, t)

-- the first k fields stand, and no others
pub first_fields : (k plan map : ℕ) → marked (fields_in_of plan) ≡ true → map + 1 ≡ 2 ^ k → Planned plan map (plan % 2 ^ (10 * k))
first_fields zero plan map m e =
    let z : map ≡ 0 = omega arith in
    let w : plan % 2 ^ (10 * 0) ≡ 0 = mod-one plan in
    rw (z, w) (plan_absents plan plan (omega arith))
first_fields (suc k) plan map m e = elim (dec_lt 0 plan) [
  | yes h ↦
      let d : 2 ^ suc k ≡ 2 ^ k * 2 = pow-suc 2 k in
      let f = marked_first plan h m in
      let s : 10 * suc k ≡ 10 * k + 10 = omega arith in
      let v : plan % 2 ^ (10 * suc k) ≡ plan / 1024 % 2 ^ (10 * k) * 1024 + plan % 1024 = ap (λ (x : ℕ). plan % 2 ^ x) s ∙ mod-pow-add plan (10 * k) 10 in
      plan_as plan map (plan / 1024 % 2 ^ (10 * k) * 1024 + 512 + plan % 512) _ (omega (arith, v, f.0))
      (plan_stands plan map (λ z. absurd (omega arith)) (plan / 1024 % 2 ^ (10 * k)) (first_fields k (plan / 1024) (map / 2) f.1 (omega arith)) (λ z. absurd (omega arith)))
  | no h ↦
      let z : plan ≡ 0 = omega arith in
      let w : plan % 2 ^ (10 * suc k) ≡ 0 = ap (λ (x : ℕ). x % 2 ^ (10 * suc k)) z ∙ zero-mod (2 ^ (10 * suc k)) in
      rw w (plan_none plan map z)
]

few_zeros : ℕ → Bool
few_zeros map = leb (count_trailing_zeros 64 (map + 1)) 6

few_all : T (below 64 few_zeros)
unfolding few_zeros count_trailing_zeros
few_all = tt

-- a bit map has six digits
pub few_zeros_lem : (map : ℕ) → map < 64 → count_trailing_zeros 64 (map + 1) ≤ 6
unfolding few_zeros
few_zeros_lem map h = leb→le _ _ (below_at few_zeros 64 few_all map h)

shifted : (k : ℕ) → k < 64 → 1 * 2 ^ k % 2 ^ 64 ≡ 2 ^ k
shifted k h = shl_exact 1 k 64 (omega arith) (omega arith) ∙ (omega arith)

pub shifted_some : (k : ℕ) → k ≤ 6 → 0 < 1 * 2 ^ (10 * k) % 2 ^ 64
shifted_some k h = rw (shifted (10 * k) (omega arith)) (pow_pos (10 * k))

pub plan_firsts : (plan map k : ℕ) → k ≤ 6 → map + 1 ≡ 1 * 2 ^ k % 2 ^ 64 → (plan % (1 * 2 ^ (10 * k) % 2 ^ 64) < 1024 ^ 6) × (marked (fields_in_of plan) ≡ true → Planned plan map (plan % (1 * 2 ^ (10 * k) % 2 ^ 64)))
plan_firsts plan map k h e =
    let a : 2 ^ (10 * k) ≤ 2 ^ 60 = pow-le-pow_right (omega arith) {i = 10 * k} {j = 60} (omega arith) in
    let b : plan % 2 ^ (10 * k) < 2 ^ (10 * k) = mod-lt plan (pow_pos (10 * k)) in
    rw (shifted (10 * k) (omega arith)) (omega arith, λ m. first_fields k plan map m (e ∙ shifted k (omega arith)))

-- ---- fields of the same sorts

same_standing : (fs gs : List Field) (m : ℕ) → sorts fs ≡ sorts gs → standing fs m ≡ standing gs m
unfolding sorts standing
same_standing [] [] m e = refl
same_standing [] (g ∷ gs) m e = let z : ◌≡◌ {A = ℕ} 0 1 = cc in absurd (omega arith)
same_standing (f ∷ fs) [] m e = let z : ◌≡◌ {A = ℕ} 0 1 = cc in absurd (omega arith)
same_standing (f ∷ fs) (g ∷ gs) m e =
    let h : sort_in f ≡ sort_in g = cc in
    let t : sorts fs ≡ sorts gs = cc in
    rw (h, same_standing fs gs (m / 2) t) refl

length_sorts : (fs : List Field) → length (sorts fs) ≡ length fs
unfolding sorts
length_sorts [] = refl
length_sorts (f ∷ fs) = ap suc (length_sorts fs)

-- a plan or a row of a form, and what is made of it
pub planned_stands : (row map r f : ℕ) → sorts (fields_in_of row) ≡ sorts (fields_of f) → row < 1024 ^ 6 → Planned row map r → sorts (fields_in_of r) ≡ standing (fields_of f) map
planned_stands row map r f e h p = p.is h ∙ same_standing (fields_in_of row) (fields_of f) map e

-- ---- a row of a form is below 2 ^ 60

fits_in : (n row : ℕ) → row ≤ n → row < 1024 ^ length (unpacked n row)
unfolding unpacked
fits_in zero row h = omega arith
fits_in (suc n) row h = elim (dec_lt 0 row) [
  | yes g ↦
      let e : 1024 ^ suc (length (unpacked n (row / 1024))) ≡ 1024 ^ length (unpacked n (row / 1024)) * 1024 = pow-suc 1024 (length (unpacked n (row / 1024))) in
      let s : row / 1024 < 1024 ^ length (unpacked n (row / 1024)) = fits_in n (row / 1024) (omega arith) in
      rw (ne_eqb row 0 (λ z. absurd (omega arith)), unpacked) (omega arith)
  | no g ↦ rw (eq-eqb row 0 (omega arith), unpacked) (omega arith)
]

short : List Field → Bool
short fs = leb (1024 ^ length fs) (1024 ^ 6)

pub row_small : (row f : ℕ) → sorts (fields_in_of row) ≡ sorts (fields_of f) → row < 1024 ^ 6
unfolding kinds variants all_lists short
row_small row f e =
    let a : row < 1024 ^ length (fields_in_of row) = fits_in row row (omega arith) in
    let n : length (fields_in_of row) ≡ length (fields_of f) = sym (length_sorts (fields_in_of row)) ∙ ap length e ∙ length_sorts (fields_of f) in
    let b : row < 1024 ^ length (fields_of f) = rw n at a in
    let c : 1024 ^ length (fields_of f) ≤ 1024 ^ 6 = leb→le _ _ (at_form short tt tt tt f) in
    omega arith
