-- What is written, piece by piece.
-- Assumes nothing.
use mathlib.Core.Path.{◌≡◌, refl, sym, ap, ◌∙◌}
use mathlib.Core.Bool.{Bool, true, false, cond}
use mathlib.Core.List.{List, [], ◌∷◌, ◌++◌}
use Prim.Native.Nat.{ℕ, zero, suc, ◌+◌, ◌-◌, ◌*◌, ◌/◌, ◌%◌, ◌^◌, ◌<◌, ◌≤◌}
use native.Mathlib.Omega.{arith}
use native.Mathlib.Numerals.{add-one}
use native.Mathlib.Nat.{pow-suc}
use native.Mathlib.Decide.{dec_lt}
use lib.Dec.{T, eqb, ltb, eqb→eq}
use lib.ListN.{length, get_or, set, take, drop, drop_of_length-le, length-drop, length-set}
use lib.Seq.{drop-cons}
use borrow.Author.Tests.{eq-eqb, ne_eqb, lt-ltb, le-ltb}
use Rattle.tree.proofs.Sound.{never}
use Rattle.tree.proofs.Table.{both, both_left, both_right, below, below_at}
use Rattle.printer.specs.Layout.{words, word}
use Rattle.printer.specs.Names.{hex_digit, needs_escape, escaped_byte, escaped, in_quotes, decimal_from, decimal}
use Rattle.printer.specs.Rows.{packed, low_of, middle_of, high_of}
use Rattle.printer.specs.Stacks.{Buffer, put, write, buffer_in, bytes_from, bytes_in, EndIs}
use Rattle.printer.proofs.LayoutNumbers.{word_none}
use Rattle.printer.proofs.PrintingEntry.{spot_fits}

pub write_append : (b : Buffer) (x y : List ℕ) → write b (x ++ y) ≡ write (write b x) y
unfolding write
write_append b [] y = refl
write_append b (c ∷ x) y = write_append (put b c) x y

-- a byte that there is room for, at its spot
byte_placed : (out xs ys : List ℕ) (s x : ℕ) → s < length out → xs ≡ x ∷ ys → write (buffer_in (set out s x) (s + 1)) ys ≡ write (buffer_in out s) xs
unfolding write
byte_placed out xs ys s x h e = ap (λ (b : Buffer). write b ys) (spot_fits out s x h) ∙ ap (write (buffer_in out s)) (sym e)

-- ---- the bytes of a number

pick : Bool → ℕ → List ℕ → List ℕ
pick true x xs = []
pick false x xs = x ∷ xs

bytes_step : (f w : ℕ) → bytes_from (suc f) w ≡ pick (eqb w 0) (w % 256) (bytes_from f (w / 256))
unfolding bytes_from pick
bytes_step f w = go (eqb w 0)
  where
    go : (a : Bool) → elim a [ true ↦ [] | false ↦ (w % 256) ∷ bytes_from f (w / 256) ] ≡ pick a (w % 256) (bytes_from f (w / 256))
    go true = refl
    go false = refl

bytes_none : (f w : ℕ) → w ≡ 0 → bytes_from f w ≡ []
unfolding bytes_from pick
bytes_none zero w e = refl
bytes_none (suc f) w e = bytes_step f w ∙ rw (eq-eqb w 0 e)

bytes_fuel : (f g w : ℕ) → w ≤ f → w ≤ g → bytes_from f w ≡ bytes_from g w
bytes_fuel zero g w a b = bytes_none zero w (omega arith) ∙ sym (bytes_none g w (omega arith))
bytes_fuel (suc f) zero w a b = bytes_none (suc f) w (omega arith) ∙ sym (bytes_none zero w (omega arith))
bytes_fuel (suc f) (suc g) w a b = elim (dec_lt 0 w) [
  | yes h ↦ bytes_step f w ∙ ap (pick (eqb w 0) (w % 256)) (bytes_fuel f g (w / 256) (omega arith) (omega arith)) ∙ sym (bytes_step g w)
  | no h ↦ bytes_none (suc f) w (omega arith) ∙ sym (bytes_none (suc g) w (omega arith))
]

pub bytes_more : (w : ℕ) → 0 < w → bytes_in w ≡ (w % 256) ∷ bytes_in (w / 256)
unfolding bytes_in pick
bytes_more w h =
    bytes_fuel w (suc w) w (omega arith) (omega arith)
    ∙ bytes_step w w
    ∙ rw (ne_eqb w 0 (λ e. absurd (omega arith))) (ap (λ (l : List ℕ). (w % 256) ∷ l) (bytes_fuel w (w / 256) (w / 256) (omega arith) (omega arith)))

pub bytes_end : (w : ℕ) → w ≤ 0 → bytes_in w ≡ []
unfolding bytes_in
bytes_end w h = bytes_none w w (omega arith)

pub digit_written : (b : Buffer) (w : ℕ) → 0 < w → write (put b (w % 256)) (bytes_in (w / 256)) ≡ write b (bytes_in w)
unfolding write
digit_written b w h = ap (write b) (sym (bytes_more w h))

pub digits_written : (b : Buffer) (w : ℕ) → w ≤ 0 → b ≡ write b (bytes_in w)
unfolding write
digits_written b w h = ap (write b) (sym (bytes_end w h))

bytes_below : (k w : ℕ) → w < 256 ^ k → length (bytes_in w) ≤ k
bytes_below zero w h = rw (bytes_end w (omega arith)) (omega arith)
bytes_below (suc k) w h = elim (dec_lt 0 w) [
  | yes g ↦
      let e : 256 ^ suc k ≡ 256 ^ k * 256 = pow-suc 256 k in
      let m : length (bytes_in (w / 256)) ≤ k = bytes_below k (w / 256) (omega arith) in
      rw (bytes_more w g) (omega arith)
  | no g ↦ rw (bytes_end w (omega arith)) (omega arith)
]

-- the bytes of w are still to come at the spot s, there is room for them, and then the whole is written
pub record DigitsLeft (size : ℕ) (whole : Buffer) (out : List ℕ) (s w : ℕ) : Type 0 where
  pub kept : length out ≡ size
  pub room : s + length (bytes_in w) ≤ length out
  pub rest : write (buffer_in out s) (bytes_in w) ≡ whole

pub digits_start : (out : List ℕ) (s w : ℕ) → w < 18446744073709551616 → s < length out → 7 < length out - s → DigitsLeft (length out) (write (buffer_in out s) (bytes_in w)) out s w
digits_start out s w h g f = record { kept = refl; room = omega (arith, bytes_below 8 w h); rest = refl }

module _ {size : ℕ} {whole : Buffer} {out : List ℕ} {s w : ℕ} (c : DigitsLeft size whole out s w) where
  pub digit_fits : 0 < w → s < length out
  digit_fits h = omega (arith, ap (λ (l : List ℕ). length l) (bytes_more w h))

  pub digit_placed : 0 < w → DigitsLeft size whole (set out s (w % 256)) (s + 1) (w / 256)
  digit_placed h = record {
    kept = length-set out s (w % 256) ∙ c.kept;
    room = omega (arith, length-set out s (w % 256), ap (λ (l : List ℕ). length l) (bytes_more w h));
    rest = byte_placed out (bytes_in w) (bytes_in (w / 256)) s (w % 256) (digit_fits h) (bytes_more w h) ∙ c.rest;
  }

  pub digits_placed : w ≤ 0 → buffer_in out s ≡ whole
  digits_placed h = digits_written (buffer_in out s) w h ∙ c.rest

-- ---- words

same_list : List ℕ → List ℕ → Bool
same_list [] [] = true
same_list [] (y ∷ ys) = false
same_list (x ∷ xs) [] = false
same_list (x ∷ xs) (y ∷ ys) = both (eqb x y) (same_list xs ys)

same_list_lem : (xs ys : List ℕ) → T (same_list xs ys) → xs ≡ ys
unfolding same_list
same_list_lem [] [] t = refl
same_list_lem [] (y ∷ ys) t = absurd t
same_list_lem (x ∷ xs) [] t = absurd t
same_list_lem (x ∷ xs) (y ∷ ys) t =
    ap (λ (z : ℕ). z ∷ xs) (eqb→eq x y (both_left (eqb x y) (same_list xs ys) t))
    ∙ ap (λ (l : List ℕ). y ∷ l) (same_list_lem xs ys (both_right (eqb x y) (same_list xs ys) t))

word_right : ℕ → Bool
word_right i = same_list (word i) (bytes_in (low_of i) ++ (bytes_in (middle_of i) ++ bytes_in (high_of i)))

words_right : T (below 94 word_right)
unfolding word_right same_list word words bytes_in bytes_from low_of middle_of high_of packed
words_right = tt

pub word_bytes : (i : ℕ) → word i ≡ bytes_in (low_of i) ++ (bytes_in (middle_of i) ++ bytes_in (high_of i))
unfolding word_right bytes_in bytes_from low_of middle_of high_of packed
word_bytes i = elim (dec_lt i 94) [
  | yes h ↦ same_list_lem (word i) (bytes_in (low_of i) ++ (bytes_in (middle_of i) ++ bytes_in (high_of i))) (below_at word_right 94 words_right i h)
  | no h ↦ rw (word_none i (omega arith))
]

-- the three numbers of a word
pub said : (b : Buffer) (i w m h : ℕ) → w ≡ low_of i → m ≡ middle_of i → h ≡ high_of i → write (write (write b (bytes_in w)) (bytes_in m)) (bytes_in h) ≡ write b (word i)
said b i w m h p q r =
    sym (write_append (write b (bytes_in w)) (bytes_in m) (bytes_in h))
    ∙ sym (write_append b (bytes_in w) (bytes_in m ++ bytes_in h))
    ∙ rw (p, q, r) (ap (write b) (sym (word_bytes i)))

-- fewer than eight bytes
short_right : ℕ → Bool
short_right i = cond (ltb (low_of i) 72057594037927936) (same_list (word i) (bytes_in (low_of i))) true

shorts_right : T (below 94 short_right)
unfolding short_right same_list word words bytes_in bytes_from low_of packed
shorts_right = tt

chosen_one : (b x : Bool) → b ≡ true → T (cond b x true) → T x
chosen_one true x e t = t
chosen_one false x e t = never e

word_short : (i : ℕ) → low_of i < 72057594037927936 → word i ≡ bytes_in (low_of i)
unfolding short_right bytes_in bytes_from low_of packed
word_short i h = elim (dec_lt i 94) [
  | yes g ↦ same_list_lem (word i) (bytes_in (low_of i)) (chosen_one (ltb (low_of i) 72057594037927936) (same_list (word i) (bytes_in (low_of i))) (lt-ltb (low_of i) 72057594037927936 h) (below_at short_right 94 shorts_right i g))
  | no g ↦ rw (word_none i (omega arith))
]

pub said_short : (b : Buffer) (i w : ℕ) → w ≡ low_of i → w < 72057594037927936 → write b (bytes_in w) ≡ write b (word i)
said_short b i w e h = rw e (ap (write b) (sym (word_short i (rw e at h))))

-- a word of no byte, or of one
pub said_nothing : (b : Buffer) (i w : ℕ) → w ≡ low_of i → w ≡ 0 → b ≡ write b (word i)
said_nothing b i w e z = digits_written b w (omega arith) ∙ said_short b i w e (omega arith)

pub said_byte : (b : Buffer) (i w : ℕ) → w ≡ low_of i → w < 256 → (w ≡ 0 → ⊥) → put b w ≡ write b (word i)
said_byte b i w e h z =
    let m : w ≡ w % 256 = omega arith in
    digits_written (put b w) (w / 256) (omega arith)
    ∙ ap (λ (x : ℕ). write (put b x) (bytes_in (w / 256))) m
    ∙ digit_written b w (omega arith)
    ∙ said_short b i w e (omega arith)

-- ---- parts of the tree

take_none : (n : ℕ) → take {A = ℕ} n [] ≡ []
take_none zero = refl
take_none (suc n) = refl

take_all : (n m : ℕ) (l : List ℕ) → length l ≤ n → length l ≤ m → take n l ≡ take m l
take_all n m [] a b = take_none n ∙ sym (take_none m)
take_all zero m (x ∷ l) a b = absurd (omega arith)
take_all (suc n) zero (x ∷ l) a b = absurd (omega arith)
take_all (suc n) (suc m) (x ∷ l) a b = ap (λ (r : List ℕ). x ∷ r) (take_all n m l (omega arith) (omega arith))

module _ (l : List ℕ) (at n : ℕ) where
  pub end_past : length l ≤ at → EndIs l at n at
  end_past h = record {
    low = omega arith;
    inside = λ g. absurd (omega arith);
    same = rw (drop_of_length-le l {i = at} h) (take_none (at - at) ∙ sym (take_none n));
  }

  pub end_within : at < length l → n < length l - at → EndIs l at n (at + n)
  end_within h g = record {
    low = omega arith;
    inside = λ k. omega arith;
    same = let e : at + n - at ≡ n = omega arith in ap (λ (m : ℕ). take m (drop at l)) e;
  }

  pub end_whole : at < length l → length l - at ≤ n → EndIs l at n (length l)
  end_whole h g = record {
    low = omega arith;
    inside = λ k. omega arith;
    same = take_all (length l - at) n (drop at l) (omega (arith, length-drop at l)) (omega (arith, length-drop at l));
  }

pub end_inside : (l : List ℕ) (at n r : ℕ) → EndIs l at n r → r - at ≤ length l - at
end_inside l at n r c = elim (dec_lt at r) [
  | yes h ↦ omega (arith, c.inside h)
  | no h ↦ omega arith
]

take_suc_cons : (n : ℕ) (x : ℕ) (l : List ℕ) → 0 < n → take n (x ∷ l) ≡ x ∷ take (n - 1) l
take_suc_cons zero x l h = absurd (omega arith)
take_suc_cons (suc n) x l h = let e : n ≡ suc n - 1 = omega arith in ap (λ (m : ℕ). x ∷ take m l) e

less : (i e : ℕ) → e - i - 1 ≡ e - (i + 1)
less i e = omega arith

pub part_step : (l : List ℕ) (i e : ℕ) → i < e → e ≤ length l → take (e - i) (drop i l) ≡ get_or l i 0 ∷ take (e - (i + 1)) (drop (i + 1) l)
part_step l i e h g =
    ap (take (e - i)) (drop-cons l i 0 (omega arith))
    ∙ take_suc_cons (e - i) (get_or l i 0) (drop (suc i) l) (omega arith)
    ∙ ap (λ (r : List ℕ). get_or l i 0 ∷ r) (ap (λ (m : ℕ). take m (drop (suc i) l)) (less i e) ∙ ap (λ (j : ℕ). take (e - (i + 1)) (drop j l)) (sym (add-one i)))

pub part_end : (l : List ℕ) (i e : ℕ) → e ≤ i → take (e - i) (drop i l) ≡ []
part_end l i e h = let z : e - i ≡ 0 = omega arith in ap (λ (m : ℕ). take m (drop i l)) z

pub byte_copied : (b : Buffer) (l : List ℕ) (i e : ℕ) → i < e → e ≤ length l → write (put b (get_or l i 0)) (take (e - (i + 1)) (drop (i + 1) l)) ≡ write b (take (e - i) (drop i l))
unfolding write
byte_copied b l i e h g = ap (write b) (sym (part_step l i e h g))

pub copied : (b : Buffer) (l : List ℕ) (i e : ℕ) → e ≤ i → b ≡ write b (take (e - i) (drop i l))
unfolding write
copied b l i e h = ap (write b) (sym (part_end l i e h))

-- the bytes from i to e are still to come at the spot s, there is room for them, and then the whole is written
pub record Copying (l : List ℕ) (e size : ℕ) (whole : Buffer) (out : List ℕ) (s i : ℕ) : Type 0 where
  pub kept : length out ≡ size
  pub low : i ≤ e
  pub room : s + (e - i) ≤ length out
  pub inside : e - i ≤ length l - i
  pub rest : write (buffer_in out s) (take (e - i) (drop i l)) ≡ whole

pub copying_starts : (l : List ℕ) (at n e : ℕ) (out : List ℕ) (s : ℕ) → EndIs l at n e → s < length out → e - at < length out - s → Copying l e (length out) (write (buffer_in out s) (take n (drop at l))) out s at
copying_starts l at n e out s c h g = record {
  kept = refl;
  low = c.low;
  room = omega arith;
  inside = end_inside l at n e c;
  rest = ap (write (buffer_in out s)) c.same;
}

next_copied : {l : List ℕ} {e size : ℕ} {whole : Buffer} {out : List ℕ} {s i t j : ℕ} → Copying l e size whole out s i → i < e → t ≡ s + 1 → j ≡ i + 1 → Copying l e size whole (set out s (get_or l i 0)) t j
next_copied {l} {e} {size} {whole} {out} {s} {i} {t} {j} c h p q = rw (p, q) (record {
  kept = length-set out s (get_or l i 0) ∙ c.kept;
  low = omega arith;
  room = omega (arith, length-set out s (get_or l i 0));
  inside = omega arith;
  rest = byte_placed out (take (e - i) (drop i l)) (take (e - (i + 1)) (drop (i + 1) l)) s (get_or l i 0) (omega arith) (part_step l i e h (omega arith)) ∙ c.rest;
})

module _ {l : List ℕ} {e size : ℕ} {whole : Buffer} {out : List ℕ} {s i : ℕ} (c : Copying l e size whole out s i) where
  pub one_copied : i < e → Copying l e size whole (set out s (get_or l i 0)) (s + 1) (i + 1)
  one_copied h = next_copied c h refl refl

  pub two_copied : i + 1 < e → Copying l e size whole (set (set out s (get_or l i 0)) (s + 1) (get_or l (i + 1) 0)) (s + 2) (i + 2)
  two_copied h = next_copied (one_copied (omega arith)) h (omega arith) (omega arith)

  pub three_copied : i + 2 < e → Copying l e size whole (set (set (set out s (get_or l i 0)) (s + 1) (get_or l (i + 1) 0)) (s + 2) (get_or l (i + 2) 0)) (s + 3) (i + 3)
  three_copied h = next_copied (two_copied (omega arith)) h (omega arith) (omega arith)

  pub four_copied : i + 3 < e → Copying l e size whole (set (set (set (set out s (get_or l i 0)) (s + 1) (get_or l (i + 1) 0)) (s + 2) (get_or l (i + 2) 0)) (s + 3) (get_or l (i + 3) 0)) (s + 4) (i + 4)
  four_copied h = next_copied (three_copied (omega arith)) h (omega arith) (omega arith)

  pub all_copied : e ≤ i → buffer_in out s ≡ whole
  all_copied h = copied (buffer_in out s) l i e h ∙ c.rest

pub byte_escaped : (b : Buffer) (l : List ℕ) (i e : ℕ) → i < e → e ≤ length l → write (write b (escaped_byte (get_or l i 0))) (escaped (take (e - (i + 1)) (drop (i + 1) l))) ≡ write b (escaped (take (e - i) (drop i l)))
unfolding escaped
byte_escaped b l i e h g =
    sym (write_append b (escaped_byte (get_or l i 0)) (escaped (take (e - (i + 1)) (drop (i + 1) l))))
    ∙ ap (λ (x : List ℕ). write b (escaped x)) (sym (part_step l i e h g))

pub all_escaped : (b : Buffer) (l : List ℕ) (i e : ℕ) → e ≤ i → b ≡ write b (escaped (take (e - i) (drop i l)))
unfolding escaped write
all_escaped b l i e h = ap (λ (x : List ℕ). write b (escaped x)) (sym (part_end l i e h))

pub quoted_written : (b : Buffer) (x : List ℕ) → put (write (put b 34) (escaped x)) 34 ≡ write b (in_quotes x)
unfolding in_quotes write
quoted_written b x = sym (write_append (put b 34) (escaped x) (34 ∷ []))

-- ---- decimal

chosen : Bool → List ℕ → List ℕ → List ℕ
chosen true a b = a
chosen false a b = b

decimal_step : (f n : ℕ) → decimal_from (suc f) n ≡ chosen (ltb n 10) ((48 + n) ∷ []) (decimal_from f (n / 10) ++ ((48 + n % 10) ∷ []))
unfolding decimal_from chosen
decimal_step f n = go (ltb n 10)
  where
    go : (a : Bool) → elim a [ true ↦ (48 + n) ∷ [] | false ↦ decimal_from f (n / 10) ++ ((48 + n % 10) ∷ []) ] ≡ chosen a ((48 + n) ∷ []) (decimal_from f (n / 10) ++ ((48 + n % 10) ∷ []))
    go true = refl
    go false = refl

decimal_fuel : (f g n : ℕ) → n < f → n < g → decimal_from f n ≡ decimal_from g n
unfolding chosen
decimal_fuel zero g n a b = absurd (omega arith)
decimal_fuel (suc f) zero n a b = absurd (omega arith)
decimal_fuel (suc f) (suc g) n a b = elim (dec_lt n 10) [
  | yes h ↦ decimal_step f n ∙ rw (lt-ltb n 10 h) (sym (decimal_step g n ∙ rw (lt-ltb n 10 h)))
  | no h ↦ decimal_step f n ∙ ap (λ (x : List ℕ). chosen (ltb n 10) ((48 + n) ∷ []) (x ++ ((48 + n % 10) ∷ []))) (decimal_fuel f g (n / 10) (omega arith) (omega arith)) ∙ sym (decimal_step g n)
]

pub decimal_digit : (b : Buffer) (n : ℕ) → n < 10 → put b (48 + n) ≡ write b (decimal n)
unfolding decimal chosen write
decimal_digit b n h = let e : decimal_from (suc n) n ≡ (48 + n) ∷ [] = decimal_step n n ∙ rw (lt-ltb n 10 h) in ap (write b) (sym e)

last : (b : Buffer) (n : ℕ) → 10 ≤ n → decimal_from (suc n) n ≡ decimal_from n (n / 10) ++ ((48 + n % 10) ∷ [])
unfolding chosen
last b n h = decimal_step n n ∙ rw (le-ltb n 10 h)

pub decimal_more : (b : Buffer) (n : ℕ) → 10 ≤ n → put (write b (decimal (n / 10))) (48 + n % 10) ≡ write b (decimal n)
unfolding decimal chosen write
decimal_more b n h =
    sym (write_append b (decimal_from (suc (n / 10)) (n / 10)) ((48 + n % 10) ∷ []))
    ∙ ap (write b) (ap (λ (x : List ℕ). x ++ ((48 + n % 10) ∷ [])) (decimal_fuel (suc (n / 10)) n (n / 10) (omega arith) (omega arith)) ∙ sym (last b n h))

-- ---- escapes

pub escape_written : (b : Buffer) (x h k : ℕ) → needs_escape x ≡ true → h ≡ hex_digit (x / 16) → k ≡ hex_digit (x % 16) → put (put (put (put b 92) 120) h) k ≡ write b (escaped_byte x)
unfolding escaped_byte write
escape_written b x h k e p q = rw (e, p, q)

pub plain_written : (b : Buffer) (x : ℕ) → needs_escape x ≡ false → put b x ≡ write b (escaped_byte x)
unfolding escaped_byte write
plain_written b x e = rw e
