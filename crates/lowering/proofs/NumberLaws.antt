-- The strings of numbers: digits one by one, that different values have different strings, that a decimal spelling is its own string.
-- Assumes nothing.
use mathlib.Core.Path.{◌≡◌, refl, sym, ap, ap₂, ◌∙◌}
use mathlib.Core.Logic.{◌⊎◌, ⊎_elim}
use mathlib.Core.Bool.{Bool, true, false, cond}
use mathlib.Core.List.{List, [], ◌∷◌, ◌++◌, append-nil}
use Prim.Native.Nat.{ℕ, zero, suc, ◌+◌, ◌-◌, ◌*◌, ◌/◌, ◌%◌, ◌≤◌, ◌<◌}
use native.Mathlib.Omega.{arith}
use lib.Dec.{ltb}
use lib.ListN.{length, length-append}
use borrow.Author.Tests.{ltb-true, ltb-false, lt-ltb, le-ltb, ne_eqb}
use Rattle.lowering.specs.Numbers.{digit_of, are_digits, value_from, spelling_of, spelling_of_one, digits_up_to, digits_of, highest_number}
use Rattle.lowering.specs.Numbers.Spelling.{decimal}
use Rattle.lowering.proofs.Cases.{by_test, and_left, and_right}

-- ---- the digits of a value

digits_enough : (f g n : ℕ) → n < f → n < g → digits_up_to f n ≡ digits_up_to g n
unfolding digits_up_to
digits_enough zero g n h k = absurd (omega arith)
digits_enough (suc f) zero n h k = absurd (omega arith)
digits_enough (suc f) (suc g) n h k =
    by_test (ltb n 10)
    (λ e. rw (e, digits_up_to) refl)
    (λ e. rw (e, digits_up_to)
    (let m = ltb-false n 10 e in ap (λ (ds : List ℕ). ds ++ ((48 + n % 10) ∷ [])) (digits_enough f g (n / 10) (omega arith) (omega arith))))

pub digits_one : (n : ℕ) → n < 10 → digits_of n ≡ (48 + n) ∷ []
unfolding digits_of digits_up_to
digits_one n h = rw (lt-ltb n 10 h, digits_up_to) refl

pub digits_more : (n : ℕ) → 10 ≤ n → digits_of n ≡ digits_of (n / 10) ++ ((48 + n % 10) ∷ [])
unfolding digits_of digits_up_to
digits_more n h =
    rw (le-ltb n 10 h, digits_up_to) (ap (λ (ds : List ℕ). ds ++ ((48 + n % 10) ∷ [])) (digits_enough n (suc (n / 10)) (n / 10) (omega arith) (omega arith)))

-- ---- the value of digits

pub value_append : (base v : ℕ) (ds es : List ℕ) → value_from base v (ds ++ es) ≡ value_from base (value_from base v ds) es
unfolding value_from
value_append base v [] es = refl
value_append base v (b ∷ ds) es = value_append base (v * base + digit_of b) ds es

-- the digit of a value below 10
digit_made : (n : ℕ) → n < 10 → digit_of (48 + n) ≡ n
unfolding digit_of
digit_made n h = rw (le-ltb (48 + n) 48 (omega arith), lt-ltb (48 + n) 58 (omega arith)) (omega arith)

digit_value : (v n : ℕ) → n < 10 → value_from 10 v ((48 + n) ∷ []) ≡ v * 10 + n
unfolding value_from
digit_value v n h = ap (λ (x : ℕ). v * 10 + x) (digit_made n h)

value_upto : (f n : ℕ) → n < f → value_from 10 0 (digits_up_to f n) ≡ n
unfolding digits_up_to
value_upto zero n h = absurd (omega arith)
value_upto (suc f) n h =
    by_test (ltb n 10)
    (λ e. rw (e, digits_up_to) (digit_value 0 n (ltb-true n 10 e) ∙ (let z : 0 * 10 + n ≡ n = omega arith in z)))
    (λ e. rw (e, digits_up_to)
    (let m = ltb-false n 10 e in
    let below : value_from 10 0 (digits_up_to f (n / 10)) ≡ n / 10 = value_upto f (n / 10) (omega arith) in
    value_append 10 0 (digits_up_to f (n / 10)) ((48 + n % 10) ∷ [])
    ∙ digit_value (value_from 10 0 (digits_up_to f (n / 10))) (n % 10) (omega arith)
    ∙ ap (λ (x : ℕ). x * 10 + n % 10) below
    ∙ (let z : n / 10 * 10 + n % 10 ≡ n = omega arith in z)))

-- the string of a value has that value
pub value_of_string : (n : ℕ) → value_from 10 0 (digits_of n) ≡ n
unfolding digits_of
value_of_string n = value_upto (suc n) n (omega arith)

-- different values have different strings
pub strings_apart : (m n : ℕ) → digits_of m ≡ digits_of n → m ≡ n
strings_apart m n e = sym (value_of_string m) ∙ ap (value_from 10 0) e ∙ value_of_string n

-- ---- a decimal spelling is its own string

-- a decimal digit is 48 and its value
pub digit_own : (b : ℕ) → digit_of b < 10 → 48 + digit_of b ≡ b
unfolding digit_of
digit_own b h = go (ltb b 48) (ltb b 58) (ltb b 65) (ltb b 71) (ltb b 97) (ltb b 103) (ltb-false b 48) (ltb-false b 65) (ltb-false b 97) h
  where
    value : Bool → Bool → Bool → Bool → Bool → Bool → ℕ
    value u v w x y z = cond u 16 (cond v (b - 48) (cond w 16 (cond x (b - 55) (cond y 16 (cond z (b - 87) 16)))))

    go : (u v w x y z : Bool) → (u ≡ false → 48 ≤ b) → (w ≡ false → 65 ≤ b) → (y ≡ false → 97 ≤ b) → value u v w x y z < 10 → 48 + value u v w x y z ≡ b
    go true v w x y z p q r h = absurd (omega arith)
    go false true w x y z p q r h = let k = p refl in omega arith
    go false false true x y z p q r h = absurd (omega arith)
    go false false false true y z p q r h = let k = q refl in absurd (omega arith)
    go false false false false true z p q r h = absurd (omega arith)
    go false false false false false true p q r h = let k = r refl in absurd (omega arith)
    go false false false false false false p q r h = absurd (omega arith)

append_one : (ds es : List ℕ) (b : ℕ) → (ds ++ (b ∷ [])) ++ es ≡ ds ++ (b ∷ es)
append_one [] es b = refl
append_one (d ∷ ds) es b = ap (λ (x : List ℕ). d ∷ x) (append_one ds es b)

-- digits behind a value that is not 0 stand behind its string
string_on : (v : ℕ) (ds : List ℕ) → 0 < v → are_digits 10 ds ≡ true → digits_of (value_from 10 v ds) ≡ digits_of v ++ ds
unfolding value_from are_digits
string_on v [] h a = sym (append-nil (digits_of v))
string_on v (b ∷ ds) h a =
    let d : digit_of b < 10 = ltb-true (digit_of b) 10 (and_left (ltb (digit_of b) 10) (are_digits 10 ds) a) in
    let w = v * 10 + digit_of b in
    let up : w / 10 ≡ v = omega arith in
    let last : 48 + w % 10 ≡ b = (let m : w % 10 ≡ digit_of b = omega arith in ap (λ (x : ℕ). 48 + x) m ∙ digit_own b d) in
    let one : digits_of w ≡ digits_of v ++ (b ∷ []) = digits_more w (omega arith) ∙ ap₂ (λ (x y : ℕ). digits_of x ++ (y ∷ [])) up last in
    string_on w ds (omega arith) (and_right (ltb (digit_of b) 10) (are_digits 10 ds) a)
    ∙ ap (λ (x : List ℕ). x ++ ds) one
    ∙ append_one (digits_of v) ds b

-- the string of decimal digits, of which the first is not `0` or the only one
pub own_string : (b : ℕ) (ds : List ℕ) → (0 < digit_of b) ⊎ (ds ≡ []) → are_digits 10 (b ∷ ds) ≡ true → digits_of (value_from 10 0 (b ∷ ds)) ≡ b ∷ ds
unfolding value_from are_digits
own_string b ds h a =
    let d : digit_of b < 10 = ltb-true (digit_of b) 10 (and_left (ltb (digit_of b) 10) (are_digits 10 ds) a) in
    let first : digits_of (digit_of b) ≡ b ∷ [] = digits_one (digit_of b) d ∙ ap (λ (x : ℕ). x ∷ []) (digit_own b d) in
    let from : digits_of (value_from 10 (0 * 10 + digit_of b) ds) ≡ digits_of (value_from 10 (digit_of b) ds) =
    (let z : 0 * 10 + digit_of b ≡ digit_of b = omega arith in ap (λ (x : ℕ). digits_of (value_from 10 x ds)) z) in
    from
    ∙ ⊎_elim
    (λ z. string_on (digit_of b) ds z (and_right (ltb (digit_of b) 10) (are_digits 10 ds) a) ∙ ap (λ (x : List ℕ). x ++ ds) first)
    (λ e. ap (λ (x : List ℕ). digits_of (value_from 10 (digit_of b) x)) e ∙ first ∙ ap (λ (x : List ℕ). b ∷ x) (sym e))
    h

-- ---- a string is spelled as a decimal

digits_append : (base : ℕ) (ds es : List ℕ) → are_digits base ds ≡ true → are_digits base es ≡ true → are_digits base (ds ++ es) ≡ true
unfolding are_digits
digits_append base [] es h k = k
digits_append base (d ∷ ds) es h k =
    rw (and_left (ltb (digit_of d) base) (are_digits base ds) h) (digits_append base ds es (and_right (ltb (digit_of d) base) (are_digits base ds) h) k)

one_digit : (n : ℕ) → n < 10 → are_digits 10 ((48 + n) ∷ []) ≡ true
unfolding are_digits
one_digit n h = rw (lt-ltb (digit_of (48 + n)) 10 (let e = digit_made n h in omega arith)) refl

upto_digits : (f n : ℕ) → n < f → are_digits 10 (digits_up_to f n) ≡ true
unfolding digits_up_to
upto_digits zero n h = absurd (omega arith)
upto_digits (suc f) n h =
    by_test (ltb n 10)
    (λ e. rw (e, digits_up_to) (one_digit n (ltb-true n 10 e)))
    (λ e. rw (e, digits_up_to)
    (let m = ltb-false n 10 e in digits_append 10 (digits_up_to f (n / 10)) ((48 + n % 10) ∷ []) (upto_digits f (n / 10) (omega arith)) (one_digit (n % 10) (omega arith))))

-- the first is not `0`
abbrev Leads : List ℕ → Type 0
Leads [] = ⊥
Leads (b ∷ bs) = 48 < b

leads_append : (ds es : List ℕ) → Leads ds → Leads (ds ++ es)
leads_append [] es h = absurd h
leads_append (d ∷ ds) es h = h

upto_leads : (f n : ℕ) → n < f → 0 < n → Leads (digits_up_to f n)
unfolding digits_up_to
upto_leads zero n h k = absurd (omega arith)
upto_leads (suc f) n h k =
    by_test (ltb n 10)
    (λ e. rw (e, digits_up_to, Leads) (omega arith))
    (λ e. rw (e, digits_up_to, Leads)
    (let m = ltb-false n 10 e in leads_append (digits_up_to f (n / 10)) ((48 + n % 10) ∷ []) (upto_leads f (n / 10) (omega arith) (omega arith))))

led_decimal : (ds : List ℕ) → are_digits 10 ds ≡ true → Leads ds → spelling_of ds ≡ decimal ds
unfolding spelling_of spelling_of_one
led_decimal [] h k = absurd k
led_decimal (b ∷ []) h k = rw h refl
led_decimal (b ∷ c ∷ ds) h k = rw (ne_eqb b 48 (λ e. absurd (omega arith)), h) refl

zero_spelled : spelling_of (digits_up_to 1 0) ≡ decimal (digits_up_to 1 0)
unfolding digits_up_to spelling_of spelling_of_one are_digits digit_of
zero_spelled = refl

pub string_spelled : (n : ℕ) → spelling_of (digits_of n) ≡ decimal (digits_of n)
unfolding digits_of
string_spelled zero = zero_spelled
string_spelled (suc n) = led_decimal (digits_up_to (suc (suc n)) (suc n)) (upto_digits (suc (suc n)) (suc n) (omega arith)) (upto_leads (suc (suc n)) (suc n) (omega arith) (omega arith))

-- ---- how far values and strings go

-- digits behind a value make it no smaller
pub value_grows : (base v : ℕ) (ds : List ℕ) → ((w : ℕ) → w ≤ w * base) → v ≤ value_from base v ds
unfolding value_from
value_grows base v [] h = omega arith
value_grows base v (b ∷ ds) h =
    let g = value_grows base (v * base + digit_of b) ds h in
    let m = h v in
    omega arith

-- 10 to the power of m + 1
unfoldable pub power : ℕ → ℕ
power zero = 10
power (suc m) = 10 * power m

pub digits_within : (m n : ℕ) → n < power m → length (digits_of n) ≤ suc m
unfolding power
digits_within zero n h = let e : length (digits_of n) ≡ 1 = ap (λ (x : List ℕ). length x) (digits_one n h) in omega arith
digits_within (suc m) n h =
    by_test (ltb n 10)
    (λ e. let z : length (digits_of n) ≡ 1 = ap (λ (x : List ℕ). length x) (digits_one n (ltb-true n 10 e)) in omega arith)
    (λ e. let z : length (digits_of n) ≡ length (digits_of (n / 10)) + 1 = ap (λ (x : List ℕ). length x) (digits_more n (ltb-false n 10 e)) ∙ length-append (digits_of (n / 10)) ((48 + n % 10) ∷ []) in
    let k = digits_within m (n / 10) (omega arith) in
    omega arith)

-- the string of a number that is promised has at most 16 digits
pub string_short : (n : ℕ) → n ≤ highest_number → length (digits_of n) ≤ 16
unfolding power
string_short n h = digits_within 15 n (omega arith)
