-- What a text is as a number, case by case: what each function answers is the definition, where its callees answer so.
-- Assumes nothing.
use mathlib.Core.Path.{◌≡◌, refl, sym, ap, ap₂, subst, ◌∙◌}
use mathlib.Core.Bool.{Bool, true, false, cond, not, ◌&&◌, true≢false}
use mathlib.Core.Logic.{◌⊎◌}
use mathlib.Core.Logic.◌⊎◌.{inl, inr}
use mathlib.Core.Option.{Option, some}
use mathlib.Core.List.{List, [], ◌∷◌, ◌++◌, append_assoc, append-nil}
use Prim.Native.Nat.{ℕ, zero, suc, ◌+◌, ◌-◌, ◌*◌, ◌/◌, ◌%◌, ◌≤◌, ◌<◌}
use native.Mathlib.Omega.{arith}
use lib.Dec.{eqb, ltb}
use lib.ListN.{length, get_or, drop, take, set, drop_of_length-le, length-set}
use lib.Seq.{take_all, drop-cons, set_split, drop_at, length-take-le}
use borrow.Author.Tests.{ltb-true, ltb-false, lt-ltb, le-ltb, eqb-true, eq-eqb, ne_eqb}
use Rattle.tree.specs.Read.{byte_at}
use Rattle.tree.specs.Answer.{Peeked}
use Rattle.lowering.specs.Numbers as numbers
use Rattle.lowering.specs.Numbers.{digit_of, are_digits, value_from, spelling_of, spelling_of_one, spelling_behind_zero, digits_of, string_of, number_string, highest_number}
use Rattle.lowering.proofs.NumberLaws.{value_grows, digits_one, digits_more, digit_own, own_string, string_spelled, value_of_string, power}
use Rattle.lowering.proofs.Appearance.{same_numbers_lem, numbers_self}
use Rattle.lowering.specs.Parts.{same_numbers}
use Rattle.lowering.proofs.Cases.{by_test, and_left}
use Rattle.std.specs.Prelude as std
use Rattle.std.specs.Prelude.{Some, None, IfSome, unwrap_or, option_map}
use Rattle.pattern.specs.declared.numbers.Spelling.{Spelling}
use Rattle.pattern.specs.declared.numbers.Spelling.TheVariants.{Decimal, Hexadecimal}
use Rattle.pattern.specs.Numbers.{Numeral, spelling_value, base_of, value_in, decimal_in, hexadecimal_in, spelled_as_of, is_string_of}

-- ---- the value of a digit

module _ (b : ℕ) where
  pub digit_below : b < 48 → 16 ≡ digit_of b
  unfolding digit_of
  digit_below h = rw (lt-ltb b 48 h)

  pub digit_decimal : 48 ≤ b → b < 58 → b - 48 ≡ digit_of b
  unfolding digit_of
  digit_decimal g h = rw (le-ltb b 48 g, lt-ltb b 58 h)

  pub digit_between : 58 ≤ b → b < 65 → 16 ≡ digit_of b
  unfolding digit_of
  digit_between g h = rw (le-ltb b 48 (omega arith), le-ltb b 58 g, lt-ltb b 65 h)

  pub digit_capital : 65 ≤ b → b < 71 → b - 55 ≡ digit_of b
  unfolding digit_of
  digit_capital g h = rw (le-ltb b 48 (omega arith), le-ltb b 58 (omega arith), le-ltb b 65 g, lt-ltb b 71 h)

  pub digit_behind : 71 ≤ b → b < 97 → 16 ≡ digit_of b
  unfolding digit_of
  digit_behind g h = rw (le-ltb b 48 (omega arith), le-ltb b 58 (omega arith), le-ltb b 65 (omega arith), le-ltb b 71 g, lt-ltb b 97 h)

  pub digit_small : 97 ≤ b → b < 103 → b - 87 ≡ digit_of b
  unfolding digit_of
  digit_small g h =
      rw (le-ltb b 48 (omega arith), le-ltb b 58 (omega arith), le-ltb b 65 (omega arith), le-ltb b 71 (omega arith), le-ltb b 97 g, lt-ltb b 103 h)

  pub digit_above : 103 ≤ b → 16 ≡ digit_of b
  unfolding digit_of
  digit_above g =
      rw (le-ltb b 48 (omega arith), le-ltb b 58 (omega arith), le-ltb b 65 (omega arith), le-ltb b 71 (omega arith), le-ltb b 97 (omega arith), le-ltb b 103 g)

-- ---- the value of digits

base_grows : (h : Bool) (w : ℕ) → w ≤ w * base_of h
base_grows true w = omega arith
base_grows false w = omega arith

-- it does not leave the machine's numbers
base_small : (h : Bool) (v b : ℕ) → b ≡ base_of h → v ≤ highest_number → v * b ≤ 144115188075855856
base_small h v b e k = rw e (go h)
  where
    go : (h : Bool) → v * base_of h ≤ 144115188075855856
    go true = omega arith
    go false = omega arith

base_low : (h : Bool) (b : ℕ) → b ≡ base_of h → b ≤ 16
base_low h b e = rw e (go h)
  where
    go : (h : Bool) → base_of h ≤ 16
    go true = omega arith
    go false = omega arith

-- the first byte is no digit, or makes the value too high, or is a digit
value_not : (h : Bool) (v b : ℕ) (bs : List ℕ) → base_of h ≤ digit_of b → suc highest_number ≡ value_in (base_of h) v (b ∷ bs)
unfolding value_in are_digits
value_not h v b bs m = rw (le-ltb (digit_of b) (base_of h) m)

value_digit : (h : Bool) (v b : ℕ) (bs : List ℕ) → digit_of b < base_of h → value_in (base_of h) v (b ∷ bs) ≡ value_in (base_of h) (v * base_of h + digit_of b) bs
unfolding value_in are_digits value_from
value_digit h v b bs m = rw (lt-ltb (digit_of b) (base_of h) m)

value_high : (h : Bool) (v : ℕ) (bs : List ℕ) → highest_number < v → suc highest_number ≡ value_in (base_of h) v bs
unfolding value_in
value_high h v bs n =
    let g = value_grows (base_of h) v bs (base_grows h) in
    rw (lt-ltb highest_number (value_from (base_of h) v bs) (omega arith)) (go (are_digits (base_of h) bs))
  where
    go : (b : Bool) → suc highest_number ≡ cond (b && false) (value_from (base_of h) v bs) (suc highest_number)
    go true = refl
    go false = refl

-- the digits up to i have the value v
pub record Reading (h : Bool) (l : List ℕ) (b v i : ℕ) : Type 0 where
  pub low : v ≤ highest_number
  pub base : b ≡ base_of h
  pub same : value_in (base_of h) v (drop i l) ≡ value_in (base_of h) 0 l

pub reading_start : (h : Bool) (l : List ℕ) (b : ℕ) → b ≡ base_of h → Reading h l b 0 0
reading_start h l b e = record { low = omega arith; base = e; same = refl }

module _ (h : Bool) (l : List ℕ) (b v i : ℕ) (r : Reading h l b v i) where
  ended : v ≡ value_in (base_of h) v []
  unfolding value_in are_digits value_from
  ended = rw (le-ltb highest_number v r.low)

  pub reading_end : length l ≤ i → v ≡ value_in (base_of h) 0 l
  reading_end k = ended ∙ ap (value_in (base_of h) v) (sym (drop_of_length-le l {i = i} k)) ∙ r.same

  -- at a byte of the text, with the value d as a digit
  pub product_fits : v * b ≤ 144115188075855856
  product_fits = base_small h v b r.base r.low

  pub sum_fits : (d : ℕ) → d < b → v * b + d ≤ 144115188075855872
  sum_fits d m = let p = product_fits in let q = base_low h b r.base in omega arith

  module _ (d : ℕ) (k : i < length l) (q : d ≡ digit_of (get_or l i 0)) where
    opened : drop i l ≡ get_or l i 0 ∷ drop (suc i) l
    opened = drop-cons l i 0 k

    pub reading_stops : b ≤ d → suc highest_number ≡ value_in (base_of h) 0 l
    reading_stops m = let e = r.base in value_not h v (get_or l i 0) (drop (suc i) l) (omega arith) ∙ ap (value_in (base_of h) v) (sym opened) ∙ r.same

    -- a byte that is no digit has the value 16
    pub reading_none : d ≡ 16 → suc highest_number ≡ value_in (base_of h) 0 l
    reading_none m = let e = base_low h b r.base in reading_stops (omega arith)

    next : d < b → value_in (base_of h) (v * b + d) (drop (i + 1) l) ≡ value_in (base_of h) 0 l
    next m =
        let e : i + 1 ≡ suc i = omega arith in
        let z = r.base in
        ap₂ (λ (y j : ℕ). value_in (base_of h) (v * y + d) (drop j l)) z e
        ∙ ap (λ (y : ℕ). value_in (base_of h) (v * base_of h + y) (drop (suc i) l)) q
        ∙ sym (value_digit h v (get_or l i 0) (drop (suc i) l) (omega arith))
        ∙ ap (value_in (base_of h) v) (sym opened)
        ∙ r.same

    pub reading_high : d < b → highest_number < v * b + d → suc highest_number ≡ value_in (base_of h) 0 l
    reading_high m n = value_high h (v * b + d) (drop (i + 1) l) n ∙ next m

    pub reading_on : d < b → v * b + d ≤ highest_number → Reading h l b (v * b + d) (i + 1)
    reading_on m n = record { low = n; base = r.base; same = next m }

-- ---- a number by its value

pub decimal_high : (v : ℕ) → highest_number < v → Numeral.another ≡ decimal_in v
unfolding decimal_in
decimal_high v h = rw (lt-ltb highest_number v h)

pub decimal_low : (v : ℕ) → v ≤ highest_number → Numeral.decimal v ≡ decimal_in v
unfolding decimal_in
decimal_low v h = rw (le-ltb highest_number v h)

pub hexadecimal_high : (v : ℕ) → highest_number < v → Numeral.another ≡ hexadecimal_in v
unfolding hexadecimal_in
hexadecimal_high v h = rw (lt-ltb highest_number v h)

pub hexadecimal_low : (v : ℕ) → v ≤ highest_number → Numeral.hexadecimal v ≡ hexadecimal_in v
unfolding hexadecimal_in
hexadecimal_low v h = rw (le-ltb highest_number v h)

-- what was read, by its value
module _ (r : std.Option ℕ) (o : std.Option Spelling) (low : IfSome r (λ v. v ≤ highest_number)) where
  pub decimal_read : o ≡ option_map Decimal r → spelling_value o ≡ decimal_in (unwrap_or r (suc highest_number))
  decimal_read e = ap spelling_value e ∙ go r low
    where
      go : (r : std.Option ℕ) → IfSome r (λ v. v ≤ highest_number) → spelling_value (option_map Decimal r) ≡ decimal_in (unwrap_or r (suc highest_number))
      go None h = decimal_high (suc highest_number) (omega arith)
      go (Some v) h = decimal_low v h

  pub hexadecimal_read : o ≡ option_map Hexadecimal r → spelling_value o ≡ hexadecimal_in (unwrap_or r (suc highest_number))
  hexadecimal_read e = ap spelling_value e ∙ go r low
    where
      go : (r : std.Option ℕ) → IfSome r (λ v. v ≤ highest_number) → spelling_value (option_map Hexadecimal r) ≡ hexadecimal_in (unwrap_or r (suc highest_number))
      go None h = hexadecimal_high (suc highest_number) (omega arith)
      go (Some v) h = hexadecimal_low v h

-- ---- what a text is

-- digits that were read, as a number of each spelling
module _ (base : ℕ) (ds : List ℕ) (made : ℕ → Numeral) (high : (v : ℕ) → highest_number < v → made v ≡ Numeral.another) where
  read_is : made (value_in base 0 ds) ≡ cond (are_digits base ds) (made (value_from base 0 ds)) Numeral.another
  unfolding value_in
  read_is = go (are_digits base ds) (ltb highest_number (value_from base 0 ds)) (ltb-true highest_number (value_from base 0 ds))
    where
      go : (a b : Bool) → (b ≡ true → highest_number < value_from base 0 ds)
          → made (cond (a && not b) (value_from base 0 ds) (suc highest_number)) ≡ cond a (made (value_from base 0 ds)) Numeral.another
      go true true h = high (suc highest_number) (omega arith) ∙ sym (high (value_from base 0 ds) (h refl))
      go true false h = refl
      go false b h = high (suc highest_number) (omega arith)

abbrev named : numbers.Spelling → Numeral
named (numbers.Spelling.decimal ds) = decimal_in (value_from 10 0 ds)
named (numbers.Spelling.hexadecimal ds) = hexadecimal_in (value_from 16 0 ds)
named numbers.Spelling.another = Numeral.another

decimal_is : (ds : List ℕ) → decimal_in (value_in 10 0 ds) ≡ named (cond (are_digits 10 ds) (numbers.Spelling.decimal ds) numbers.Spelling.another)
decimal_is ds = read_is 10 ds decimal_in (λ v h. sym (decimal_high v h)) ∙ go (are_digits 10 ds)
  where
    go : (b : Bool) → cond b (decimal_in (value_from 10 0 ds)) Numeral.another ≡ named (cond b (numbers.Spelling.decimal ds) numbers.Spelling.another)
    go true = refl
    go false = refl

hexadecimal_is : (ds : List ℕ) → hexadecimal_in (value_in 16 0 ds) ≡ named (cond (are_digits 16 ds) (numbers.Spelling.hexadecimal ds) numbers.Spelling.another)
hexadecimal_is ds = read_is 16 ds hexadecimal_in (λ v h. sym (hexadecimal_high v h)) ∙ go (are_digits 16 ds)
  where
    go : (b : Bool) → cond b (hexadecimal_in (value_from 16 0 ds)) Numeral.another ≡ named (cond b (numbers.Spelling.hexadecimal ds) numbers.Spelling.another)
    go true = refl
    go false = refl

spelled_as : (l : List ℕ) → named (spelling_of l) ≡ spelled_as_of l
unfolding spelled_as_of
spelled_as l = go (spelling_of l)
  where
    go : (x : numbers.Spelling) → named x ≡ elim x [
      | numbers.Spelling.decimal ds ↦ decimal_in (value_from 10 0 ds)
      | numbers.Spelling.hexadecimal ds ↦ hexadecimal_in (value_from 16 0 ds)
      | numbers.Spelling.another ↦ Numeral.another
    ]
    go (numbers.Spelling.decimal ds) = refl
    go (numbers.Spelling.hexadecimal ds) = refl
    go numbers.Spelling.another = refl

pub spelled_empty : (l : List ℕ) → length l ≡ 0 → Numeral.another ≡ spelled_as_of l
unfolding spelled_as_of spelling_of
spelled_empty [] h = refl
spelled_empty (b ∷ l) h = absurd (omega arith)

pub spelled_one : (l : List ℕ) (v : ℕ) (r : Numeral) → length l ≡ 1 → v ≡ value_in 10 0 l → r ≡ decimal_in v → r ≡ spelled_as_of l
unfolding spelling_of spelling_of_one
spelled_one [] v r h e f = absurd (omega arith)
spelled_one (b ∷ []) v r h e f = f ∙ ap decimal_in e ∙ decimal_is (b ∷ []) ∙ spelled_as (b ∷ [])
spelled_one (b ∷ c ∷ l) v r h e f = absurd (omega arith)

pub spelled_decimal : (l : List ℕ) (x v : ℕ) (r : Numeral) → 1 < length l → Peeked l 0 x → (x ≡ 48 → ⊥) → v ≡ value_in 10 0 l → r ≡ decimal_in v → r ≡ spelled_as_of l
unfolding spelling_of byte_at
spelled_decimal [] x v r h p n e f = absurd (omega arith)
spelled_decimal (b ∷ []) x v r h p n e f = absurd (omega arith)
spelled_decimal (b ∷ c ∷ l) x v r h p n e f =
    f ∙ ap decimal_in e ∙ decimal_is (b ∷ c ∷ l)
    ∙ ap (λ (t : Bool). named (cond t (spelling_behind_zero (c ∷ l)) (cond (are_digits 10 (b ∷ c ∷ l)) (numbers.Spelling.decimal (b ∷ c ∷ l)) numbers.Spelling.another))) (sym (ne_eqb b 48 (λ z. n (p.value ∙ z))))
    ∙ spelled_as (b ∷ c ∷ l)

-- behind a `0`
behind_zero : (b c : ℕ) (l : List ℕ) (x : ℕ) → Peeked (b ∷ c ∷ l) 0 x → x ≡ 48 → named (spelling_behind_zero (c ∷ l)) ≡ spelled_as_of (b ∷ c ∷ l)
unfolding spelling_of byte_at
behind_zero b c l x p e =
    ap (λ (t : Bool). named (cond t (spelling_behind_zero (c ∷ l)) (cond (are_digits 10 (b ∷ c ∷ l)) (numbers.Spelling.decimal (b ∷ c ∷ l)) numbers.Spelling.another))) (sym (eq-eqb b 48 (sym p.value ∙ e)))
    ∙ spelled_as (b ∷ c ∷ l)

pub spelled_no_x : (l : List ℕ) (x y : ℕ) → 2 < length l → Peeked l 0 x → x ≡ 48 → Peeked l 1 y → (y ≡ 120 → ⊥) → Numeral.another ≡ spelled_as_of l
unfolding spelling_behind_zero byte_at
spelled_no_x [] x y h p e q n = absurd (omega arith)
spelled_no_x (b ∷ []) x y h p e q n = absurd (omega arith)
spelled_no_x (b ∷ c ∷ []) x y h p e q n = absurd (omega arith)
spelled_no_x (b ∷ c ∷ d ∷ l) x y h p e q n =
    ap (λ (t : Bool). named (cond (t && are_digits 16 (d ∷ l)) (numbers.Spelling.hexadecimal (d ∷ l)) numbers.Spelling.another)) (sym (ne_eqb c 120 (λ z. n (q.value ∙ z))))
    ∙ behind_zero b c (d ∷ l) x p e

pub spelled_no_digit : (l : List ℕ) (x : ℕ) → length l ≡ 2 → Peeked l 0 x → x ≡ 48 → Numeral.another ≡ spelled_as_of l
unfolding spelling_behind_zero
spelled_no_digit [] x h p e = absurd (omega arith)
spelled_no_digit (b ∷ []) x h p e = absurd (omega arith)
spelled_no_digit (b ∷ c ∷ []) x h p e = behind_zero b c [] x p e
spelled_no_digit (b ∷ c ∷ d ∷ l) x h p e = absurd (omega arith)

pub spelled_hexadecimal : (l : List ℕ) (x y v : ℕ) (r : Numeral) → 2 < length l → Peeked l 0 x → x ≡ 48 → Peeked l 1 y → y ≡ 120
    → v ≡ value_in 16 0 (take (length l - 2) (drop 2 l)) → r ≡ hexadecimal_in v → r ≡ spelled_as_of l
unfolding spelling_behind_zero byte_at
spelled_hexadecimal [] x y v r h p e q n w f = absurd (omega arith)
spelled_hexadecimal (b ∷ []) x y v r h p e q n w f = absurd (omega arith)
spelled_hexadecimal (b ∷ c ∷ []) x y v r h p e q n w f = absurd (omega arith)
spelled_hexadecimal (b ∷ c ∷ d ∷ l) x y v r h p e q n w f =
    f ∙ ap hexadecimal_in (w ∙ ap (value_in 16 0) (take_all (length (b ∷ c ∷ d ∷ l) - 2) (d ∷ l) (omega arith))) ∙ hexadecimal_is (d ∷ l)
    ∙ ap (λ (t : Bool). named (cond (t && are_digits 16 (d ∷ l)) (numbers.Spelling.hexadecimal (d ∷ l)) numbers.Spelling.another)) (sym (eq-eqb c 120 (sym q.value ∙ n)))
    ∙ behind_zero b c (d ∷ l) x p e

-- ---- the string that is promised, by what the text is

abbrev pub promised_by : Numeral → Option (List ℕ)
promised_by (Numeral.decimal v) = some (digits_of v)
promised_by (Numeral.hexadecimal v) = some (digits_of v)
promised_by Numeral.another = Option.none

module _ (made : ℕ → Numeral) (v : ℕ) (high : highest_number < v → Numeral.another ≡ made v) (low : v ≤ highest_number → some (digits_of v) ≡ promised_by (made v)) where
  string_by : string_of v ≡ promised_by (made v)
  unfolding string_of
  string_by =
      by_test (ltb highest_number v)
      (λ e. rw e (ap promised_by (high (ltb-true highest_number v e))))
      (λ e. rw e (low (ltb-false highest_number v e)))

pub promised_by_lem : (l : List ℕ) → number_string l ≡ promised_by (spelled_as_of l)
unfolding number_string
promised_by_lem l = go (spelling_of l) ∙ ap promised_by (spelled_as l)
  where
    go : (x : numbers.Spelling) → elim x [
      | numbers.Spelling.decimal ds ↦ string_of (value_from 10 0 ds)
      | numbers.Spelling.hexadecimal ds ↦ string_of (value_from 16 0 ds)
      | numbers.Spelling.another ↦ Option.none
    ] ≡ promised_by (named x)
    go (numbers.Spelling.decimal ds) =
        string_by decimal_in (value_from 10 0 ds) (decimal_high (value_from 10 0 ds)) (λ h. ap promised_by (decimal_low (value_from 10 0 ds) h))
    go (numbers.Spelling.hexadecimal ds) =
        string_by hexadecimal_in (value_from 16 0 ds) (hexadecimal_high (value_from 16 0 ds)) (λ h. ap promised_by (hexadecimal_low (value_from 16 0 ds) h))
    go numbers.Spelling.another = refl

-- ---- a decimal text is the string of its value, and the only one

-- what a text that is named a decimal of the value v has
pub record DecimalOf (l : List ℕ) (v : ℕ) : Type 0 where
  pub string : l ≡ digits_of v
  pub low : v ≤ highest_number

abbrev Decimals : List ℕ → ℕ → Numeral → Type 0
Decimals l v (Numeral.decimal u) = u ≡ v → DecimalOf l v
Decimals l v (Numeral.hexadecimal u) = Unit {0}
Decimals l v Numeral.another = Unit {0}

decimal_made : (l : List ℕ) (v w : ℕ) → digits_of w ≡ l → Decimals l v (decimal_in w)
unfolding decimal_in
decimal_made l v w e = go (ltb highest_number w) (ltb-false highest_number w)
  where
    go : (b : Bool) → (b ≡ false → w ≤ highest_number) → Decimals l v (cond b Numeral.another (Numeral.decimal w))
    go true h = tt
    go false h = λ z. let k = h refl in record { string = sym e ∙ ap digits_of z; low = omega arith }

hexadecimal_made : (l : List ℕ) (v w : ℕ) → Decimals l v (hexadecimal_in w)
unfolding hexadecimal_in
hexadecimal_made l v w = go (ltb highest_number w)
  where
    go : (b : Bool) → Decimals l v (cond b Numeral.another (Numeral.hexadecimal w))
    go true = tt
    go false = tt

not_zero : (b : ℕ) → digit_of b < 10 → eqb b 48 ≡ false → 0 < digit_of b
not_zero b h e =
    by_test (eqb (digit_of b) 0)
    (λ z. let k = eqb-true (digit_of b) 0 z in let o = digit_own b h in absurd (true≢false (sym (eq-eqb b 48 (omega arith)) ∙ e)))
    (λ z. some_value (digit_of b) z)
  where
    some_value : (n : ℕ) → eqb n 0 ≡ false → 0 < n
    some_value zero z = absurd (true≢false z)
    some_value (suc n) z = omega arith

first_digit : (b : ℕ) (bs : List ℕ) → are_digits 10 (b ∷ bs) ≡ true → digit_of b < 10
unfolding are_digits
first_digit b bs h = ltb-true (digit_of b) 10 (and_left (ltb (digit_of b) 10) (are_digits 10 bs) h)

digits_made : (b : ℕ) (bs : List ℕ) (v : ℕ) → (are_digits 10 (b ∷ bs) ≡ true → (0 < digit_of b) ⊎ (bs ≡ [])) → Decimals (b ∷ bs) v (named (cond (are_digits 10 (b ∷ bs)) (numbers.Spelling.decimal (b ∷ bs)) numbers.Spelling.another))
digits_made b bs v h =
    by_test (are_digits 10 (b ∷ bs))
    (λ e. rw e (decimal_made (b ∷ bs) v (value_from 10 0 (b ∷ bs)) (own_string b bs (h e) e)))
    (λ e. rw e tt)

spelled_decimals : (l : List ℕ) (v : ℕ) → Decimals l v (named (spelling_of l))
unfolding spelling_of spelling_of_one spelling_behind_zero
spelled_decimals [] v = tt
spelled_decimals (b ∷ []) v = digits_made b [] v (λ e. inr refl)
spelled_decimals (b ∷ c ∷ []) v =
    by_test (eqb b 48) (λ e. rw e tt) (λ e. rw e (digits_made b (c ∷ []) v (λ h. inl (not_zero b (first_digit b (c ∷ []) h) e))))
spelled_decimals (b ∷ c ∷ d ∷ l) v =
    by_test (eqb b 48)
    (λ e. rw e
    (by_test (eqb c 120 && are_digits 16 (d ∷ l)) (λ f. rw f (hexadecimal_made (b ∷ c ∷ d ∷ l) v (value_from 16 0 (d ∷ l)))) (λ f. rw f tt)))
    (λ e. rw e (digits_made b (c ∷ d ∷ l) v (λ h. inl (not_zero b (first_digit b (c ∷ d ∷ l) h) e))))

pub decimal_string : (l : List ℕ) (v : ℕ) → spelled_as_of l ≡ Numeral.decimal v → DecimalOf l v
decimal_string l v e = subst (Decimals l v) (spelled_as l ∙ e) (spelled_decimals l v) refl

pub string_decimal : (v : ℕ) → v ≤ highest_number → spelled_as_of (digits_of v) ≡ Numeral.decimal v
string_decimal v h = sym (spelled_as (digits_of v)) ∙ ap named (string_spelled v) ∙ ap decimal_in (value_of_string v) ∙ sym (decimal_low v h)

-- whether a text is the string of a value
pub same_string : (l : List ℕ) (v : ℕ) → v ≤ highest_number → same_numbers l (digits_of v) ≡ is_string_of v (spelled_as_of l)
same_string l v h =
    by_test (same_numbers l (digits_of v))
    (λ e. e ∙ sym (ap (is_string_of v) (ap spelled_as_of (same_numbers_lem l (digits_of v) e) ∙ string_decimal v h) ∙ eq-eqb v v refl))
    (λ e. by_test (is_string_of v (spelled_as_of l))
    (λ t. absurd (true≢false (sym (ap (same_numbers l) (sym (own (spelled_as_of l) refl t)) ∙ numbers_self l) ∙ e)))
    (λ t. e ∙ sym t))
  where
    own : (x : Numeral) → spelled_as_of l ≡ x → is_string_of v x ≡ true → l ≡ digits_of v
    own (Numeral.decimal u) e t = (decimal_string l u e).string ∙ ap digits_of (eqb-true u v t)
    own (Numeral.hexadecimal u) e t = absurd (true≢false (sym t))
    own Numeral.another e t = absurd (true≢false (sym t))

abbrev pub Low : Numeral → Type 0
Low (Numeral.decimal v) = v ≤ highest_number
Low (Numeral.hexadecimal v) = v ≤ highest_number
Low Numeral.another = Unit {0}

-- the values are not too high
pub spelled_low : (l : List ℕ) → Low (spelled_as_of l)
unfolding decimal_in hexadecimal_in
spelled_low l = subst Low (spelled_as l) (go (spelling_of l))
  where
    low_by : (made : ℕ → Numeral) (v : ℕ) → ((w : ℕ) → w ≤ highest_number → Low (made w)) → Low (cond (ltb highest_number v) Numeral.another (made v))
    low_by made v h = by_test (ltb highest_number v) (λ e. rw e tt) (λ e. rw e (h v (ltb-false highest_number v e)))

    go : (x : numbers.Spelling) → Low (named x)
    go (numbers.Spelling.decimal ds) = low_by Numeral.decimal (value_from 10 0 ds) (λ w h. h)
    go (numbers.Spelling.hexadecimal ds) = low_by Numeral.hexadecimal (value_from 16 0 ds) (λ w h. h)
    go numbers.Spelling.another = tt

-- ---- the digits of a value, from the end of an array

-- those of n are still to be written, up to the place i
pub record Writing (s : List ℕ) (v n i : ℕ) : Type 0 where
  pub array : length s ≡ 20
  pub place : i < 20
  pub few : n < power i
  pub same : digits_of n ++ drop (suc i) s ≡ digits_of v

pub writing_start : (s : List ℕ) (v : ℕ) → length s ≡ 20 → v ≤ 18446744073709551615 → Writing s v v 19
unfolding power
writing_start s v h k =
    record {
      array = h;
      place = omega arith;
      few = omega arith;
      same = ap (λ (x : List ℕ). digits_of v ++ x) (drop_of_length-le s {i = 20} (omega arith)) ∙ append-nil (digits_of v);
    }

written_here : (s : List ℕ) (i b : ℕ) → i < length s → drop i (set s i b) ≡ b ∷ drop (suc i) s
written_here s i b h = ap (drop i) (set_split s i b h) ∙ drop_at (take i s) (b ∷ drop (suc i) s) i (length-take-le i s (omega arith))

module _ (s : List ℕ) (v n i : ℕ) (w : Writing s v n i) where
  pub writing_left : 9 < n → 0 < i
  unfolding power
  writing_left h = go i w.few
    where
      go : (i : ℕ) → n < power i → 0 < i
      go zero f = absurd (omega arith)
      go (suc i) f = omega arith

  fewer : (i : ℕ) → 0 < i → n < power i → n / 10 < power (i - 1)
  unfolding power
  fewer zero h f = absurd (omega arith)
  fewer (suc i) h f = let e : suc i - 1 ≡ i = omega arith in rw e (omega arith)

  pub writing_on : 9 < n → Writing (set s i (48 + n % 10)) v (n / 10) (i - 1)
  writing_on h =
      let z = writing_left h in
      let e : suc (i - 1) ≡ i = omega arith in
      let a = w.array in
      let p = w.place in
      record {
        array = length-set s i (48 + n % 10) ∙ a;
        place = omega arith;
        few = fewer i z w.few;
        same =
            ap (λ (j : ℕ). digits_of (n / 10) ++ drop j (set s i (48 + n % 10))) e
            ∙ ap (λ (x : List ℕ). digits_of (n / 10) ++ x) (written_here s i (48 + n % 10) (omega arith))
            ∙ sym (append_assoc (digits_of (n / 10)) ((48 + n % 10) ∷ []) (drop (suc i) s))
            ∙ ap (λ (x : List ℕ). x ++ drop (suc i) s) (sym (digits_more n (omega arith)))
            ∙ w.same;
      }

  pub writing_array : (b : ℕ) → length (set s i b) ≡ 20
  writing_array b = length-set s i b ∙ w.array

  pub writing_end : n ≤ 9 → drop i (set s i (48 + n)) ≡ digits_of v
  writing_end h =
      let a = w.array in
      let p = w.place in
      written_here s i (48 + n) (omega arith) ∙ ap (λ (x : List ℕ). x ++ drop (suc i) s) (sym (digits_one n (omega arith))) ∙ w.same
