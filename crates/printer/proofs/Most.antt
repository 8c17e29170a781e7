-- How long each part of a node's text is at most.
-- Assumes nothing.
use mathlib.Core.Path.{◌≡◌, refl, sym, subst}
use mathlib.Core.Bool.{Bool, true, false, cond}
use mathlib.Core.List.{List, [], ◌∷◌, ◌++◌}
use Prim.Native.Nat.{ℕ, zero, suc, ◌+◌, ◌-◌, ◌*◌, ◌/◌, ◌%◌, ◌<◌, ◌≤◌}
use native.Mathlib.Omega.{arith}
use native.Mathlib.Decide.{dec_lt}
use lib.Dec.{T, ltb, leb, eqb, leb→le}
use lib.ListN.{length, get_or, length-append, get_or-eq_default}
use borrow.Author.Tests.{eq-eqb, ne_eqb, lt-ltb}
use Rattle.tree.specs.Grammar.{among}
use Rattle.tree.proofs.Table.{both, both_left, both_right, below, below_at}
use Rattle.printer.specs.Layout.{words, word, choices, chosen_word, lead_of}
use Rattle.printer.specs.Names.{hex_digit, needs_escape, escaped_byte, escaped, in_quotes, bare, decimal_from, decimal}
use Rattle.printer.specs.Places.{field_in, manner_in, is_statement, is_wrapped, in_method_form, wrapping, separator, leading, joining, trailing, following, literal_text, member_quoted, member_name, key_name, text_bytes}
use Rattle.printer.specs.Text.{Cell, cell_text, first, later, left_over_of}
use Rattle.printer.specs.Text.Cell.{quasi, stop}
use Rattle.printer.specs.declared.frame.Frame.{Frame}

-- ---- words

-- the longest word that a number chooses
unfoldable pub mosts : List ℕ
mosts = 11 ∷ 13 ∷ 24 ∷ 24 ∷ 13 ∷ 4 ∷ 5 ∷ 9 ∷ 5 ∷ 2 ∷ 3 ∷ 8 ∷ 1 ∷ 4 ∷ 1 ∷ 1 ∷ 8 ∷ 15 ∷ 1 ∷ 1 ∷ []

unfoldable pub most : ℕ → ℕ
most own = cond (ltb own 100) (length (word own)) (get_or mosts (own - 100) 0)

Bounded : List ℕ → List ℕ → Type 0
Bounded [] ys = Unit
Bounded (x ∷ xs) [] = ⊥
Bounded (x ∷ xs) (y ∷ ys) = (length (word x) ≤ y) × Bounded xs ys

bounded_at : (xs ys : List ℕ) → Bounded xs ys → (j : ℕ) → length (word (get_or xs j 0)) ≤ get_or ys j 0
unfolding Bounded word words
bounded_at [] ys b j = omega arith
bounded_at (x ∷ xs) [] b j = absurd b
bounded_at (x ∷ xs) (y ∷ ys) b zero = b.0
bounded_at (x ∷ xs) (y ∷ ys) b (suc j) = bounded_at xs ys b.1 j

shorter : ℕ → ℕ → ℕ → Bool
shorter a m x = leb (length (word (a + x))) m

within : (a k m : ℕ) → T (below k (shorter a m)) → (x : ℕ) → x < k → length (word (a + x)) ≤ m
unfolding shorter
within a k m t x h = leb→le (length (word (a + x))) m (below_at (shorter a m) k t x h)

choices_most : (n m s o : ℕ) → Bounded (choices n m s o) mosts
unfolding Bounded choices mosts shorter word words
choices_most n m s o =
    ((let e : 0 + n % 8 ≡ n % 8 = omega arith in rw (sym e) (within 0 8 11 tt (n % 8) (omega arith))), (within 4 8 13 tt (n % 8) (omega arith), (within 5 8 24 tt (n % 8) (omega arith), (within 9 8 24 tt (n % 8) (omega arith), (within 14 8 13 tt (n % 8) (omega arith), (within 17 2 4 tt (m / 4 % 2) (omega arith), (within 19 4 5 tt (m / 4 % 4) (omega arith), (within 23 2 9 tt (m % 2) (omega arith), (within 25 4 5 tt (s % 4) (omega arith), (within 27 2 2 tt (o % 2) (omega arith), (within 29 2 3 tt (o % 2) (omega arith), (within 31 2 8 tt (o % 2) (omega arith), (within 33 4 1 tt (s % 4) (omega arith), (within 35 10 4 tt (n % 8 + 2 * (m / 32 % 2)) (omega arith), (within 40 2 1 tt (m / 16 % 2) (omega arith), (within 40 2 1 tt (m / 2 % 2) (omega arith), (within 42 4 8 tt (n / 8 % 4) (omega arith), (within 42 8 15 tt (n / 2 % 2 * 4 + n / 8 % 4) (omega arith), (gap (eqb s 2), (gap_rest (eqb s 2) (eqb (m / 2 % 2) 0), tt))))))))))))))))))))
  where
    gap : (a : Bool) → length (word (cond a 68 0)) ≤ 1
    gap true = omega arith
    gap false = omega arith

    gap_rest : (a b : Bool) → length (word (cond a (cond b 68 0) 0)) ≤ 1
    gap_rest true true = omega arith
    gap_rest true false = omega arith
    gap_rest false b = omega arith

pub chosen_most : (own n m s o : ℕ) → length (word (chosen_word own n m s o)) ≤ most own
unfolding chosen_word most
chosen_most own n m s o = go (ltb own 100)
  where
    go : (b : Bool) → length (word (cond b own (get_or (choices n m s o) (own - 100) 0))) ≤ cond b (length (word own)) (get_or mosts (own - 100) 0)
    go true = omega arith
    go false = bounded_at (choices n m s o) mosts (choices_most n m s o) (own - 100)

-- ---- what stands around a child: what parts it, what joins it, its parenthesis, what follows it

abbrev parts : ℕ → Bool → ℕ
parts m seen = cond seen (cond (eqb m 7) 70 (cond (eqb m 11) 70 0)) 0

abbrev joins : ℕ → Bool → Bool → ℕ
joins m statement block = get_or (0 ∷ 0 ∷ 0 ∷ 0 ∷ 0 ∷ 0 ∷ 74 ∷ cond statement 52 0 ∷ cond block 71 52 ∷ []) m 0

abbrev trails : ℕ → Bool → Bool → ℕ
trails m statement plain = get_or (50 ∷ 52 ∷ 54 ∷ 56 ∷ 58 ∷ cond plain 50 60 ∷ 62 ∷ cond statement 52 50 ∷ []) m 50

charge : ℕ → Bool → Bool → Bool → Bool → ℕ → ℕ
charge m seen statement plain block w = length (word (parts m seen)) + (length (word (joins m statement block)) + (length (word (cond (eqb w 1) 64 0)) + length (word (w + trails m statement plain))))

for_all : (Bool → Bool) → Bool
for_all f = both (f true) (f false)

for_all_at : (f : Bool → Bool) → T (for_all f) → (b : Bool) → T (f b)
unfolding for_all
for_all_at f t true = both_left (f true) (f false) t
for_all_at f t false = both_right (f true) (f false) t

six_at : ℕ → Bool → Bool → Bool → Bool → Bool
six_at m a b c d = both (leb (charge m a b c d 0) 6) (leb (charge m a b c d 1) 6)

six : ℕ → Bool
six m = for_all (λ a. for_all (λ b. for_all (λ c. for_all (λ d. six_at m a b c d))))

three_at : ℕ → Bool → Bool → Bool
three_at m a c = leb (charge m a false c false 0) 3

three : ℕ → Bool
three m = for_all (λ a. for_all (λ c. three_at m a c))

all_six : T (below 12 six)
unfolding six six_at for_all charge word words
all_six = tt

all_three : T (below 12 three)
unfolding three three_at for_all charge word words
all_three = tt

far_cost : (a : Bool) (w : ℕ) → w ≤ 1 → length (word (cond a 0 0)) + (length (word 0) + (length (word (cond (eqb w 1) 64 0)) + length (word (w + 50)))) ≤ 3
unfolding word words
far_cost true zero h = omega arith
far_cost true (suc zero) h = omega arith
far_cost true (suc (suc w)) h = absurd (omega arith)
far_cost false zero h = omega arith
far_cost false (suc zero) h = omega arith
far_cost false (suc (suc w)) h = absurd (omega arith)

-- past the last manner that has anything
far : (m : ℕ) (a b c d : Bool) (w : ℕ) → 12 ≤ m → w ≤ 1 → charge m a b c d w ≤ 3
unfolding charge
far m a b c d w h g =
    rw (
      ne_eqb m 7 (λ e. absurd (omega arith)),
      ne_eqb m 11 (λ e. absurd (omega arith)),
      get_or-eq_default {A = ℕ} (0 ∷ 0 ∷ 0 ∷ 0 ∷ 0 ∷ 0 ∷ 74 ∷ cond b 52 0 ∷ cond d 71 52 ∷ []) 0 {n = m} (omega arith),
      get_or-eq_default {A = ℕ} (50 ∷ 52 ∷ 54 ∷ 56 ∷ 58 ∷ cond c 50 60 ∷ 62 ∷ cond b 52 50 ∷ []) 50 {n = m} (omega arith),
    ) (far_cost a w g)

charge_six : (m : ℕ) (a b c d : Bool) (w : ℕ) → w ≤ 1 → charge m a b c d w ≤ 6
unfolding six six_at
charge_six m a b c d w h = elim (dec_lt m 12) [
  | yes g ↦ go w h (for_all_at (λ x. six_at m a b c x) (for_all_at (λ y. for_all (λ x. six_at m a b y x)) (for_all_at (λ z. for_all (λ y. for_all (λ x. six_at m a z y x))) (for_all_at (λ u. for_all (λ z. for_all (λ y. for_all (λ x. six_at m u z y x)))) (below_at six 12 all_six m g) a) b) c) d)
  | no g ↦ omega (arith, far m a b c d w (omega arith) h)
]
  where
    go : (w : ℕ) → w ≤ 1 → T (both (leb (charge m a b c d 0) 6) (leb (charge m a b c d 1) 6)) → charge m a b c d w ≤ 6
    go zero h t = leb→le (charge m a b c d 0) 6 (both_left (leb (charge m a b c d 0) 6) (leb (charge m a b c d 1) 6) t)
    go (suc zero) h t = leb→le (charge m a b c d 1) 6 (both_right (leb (charge m a b c d 0) 6) (leb (charge m a b c d 1) 6) t)
    go (suc (suc w)) h t = absurd (omega arith)

charge_three : (m : ℕ) (a c : Bool) → charge m a false c false 0 ≤ 3
unfolding three three_at
charge_three m a c = elim (dec_lt m 12) [
  | yes g ↦ leb→le (charge m a false c false 0) 3 (for_all_at (λ x. three_at m a x) (for_all_at (λ y. for_all (λ x. three_at m y x)) (below_at three 12 all_three m g) a) c)
  | no g ↦ far m a false c false 0 (omega arith) (omega arith)
]

-- what leads the field that the child is in; an item has none
unfoldable pub leads_out : Frame → ℕ
leads_out p = cond (eqb p.list 1) 0 (most (lead_of p.kind (field_in p)))

unfoldable pub around_most : ℕ → ℕ
around_most kind = cond (eqb kind 21) 3 6

wrap_less : (p : Frame) (kind map note : ℕ) → wrapping p kind map note ≤ 1
unfolding wrapping
wrap_less p kind map note = go (eqb (in_method_form p kind map) 0) (is_wrapped kind note)
  where
    go : (a b : Bool) → cond a (cond b 1 0) 0 ≤ 1
    go true true = omega arith
    go true false = omega arith
    go false b = omega arith

abbrev around_cost : Frame → ℕ → ℕ → ℕ → ℕ
around_cost p kind map note = length (word (leading p kind map)) + (length (word (joining p kind note)) + (length (word (cond (eqb (wrapping p kind map note) 1) 64 0)) + length (word (following p kind map note))))

lead_split : (p : Frame) (kind map : ℕ) → length (word (leading p kind map)) ≤ length (word (parts (manner_in p) (ltb 0 p.seen))) + leads_out p
unfolding leading separator leads_out
lead_split p kind map = go (eqb p.list 1)
  where
    go : (a : Bool) → length (word (cond a (parts (manner_in p) (ltb 0 p.seen)) (chosen_word (lead_of p.kind (field_in p)) p.note p.map p.seen (in_method_form p kind map)))) ≤ length (word (parts (manner_in p) (ltb 0 p.seen))) + cond a 0 (most (lead_of p.kind (field_in p)))
    go true = omega arith
    go false = omega (arith, chosen_most (lead_of p.kind (field_in p)) p.note p.map p.seen (in_method_form p kind map))

none_either : (a : Bool) → ◌≡◌ {A = ℕ} (cond a 0 0) 0
none_either true = refl
none_either false = refl

helper_bare : (p : Frame) (map note : ℕ) → wrapping p 21 map note ≡ 0
unfolding wrapping is_wrapped among
helper_bare p map note = none_either (eqb (in_method_form p 21 map) 0)

helper_plain : (note : ℕ) → is_statement 21 note ≡ false
unfolding is_statement among
helper_plain note = refl

pub around_most_lem : (p : Frame) (kind map note : ℕ) → around_cost p kind map note ≤ leads_out p + around_most kind
unfolding joining following trailing around_most charge
around_most_lem p kind map note =
    by_kind kind
    (λ e. rw (eq-eqb kind 21 e)
    (let w : wrapping p kind map note ≡ 0 = rw e (helper_bare p map note) in
    let s : is_statement kind note ≡ false = rw e (helper_plain note) in
    let k : eqb kind 2 ≡ false = ne_eqb kind 2 (λ f. absurd (omega arith)) in
    rw (w, s, k) (omega (arith, lead_split p kind map, charge_three (manner_in p) (ltb 0 p.seen) (eqb (p.note % 2) 0)))))
    (λ n. rw (ne_eqb kind 21 n)
    (omega (arith, lead_split p kind map, charge_six (manner_in p) (ltb 0 p.seen) (is_statement kind note) (eqb (p.note % 2) 0) (eqb kind 2) (wrapping p kind map note) (wrap_less p kind map note))))
  where
    by_kind : {A : Type 0} (k : ℕ) → (k ≡ 21 → A) → ((k ≡ 21 → ⊥) → A) → A
    by_kind k f g = elim (dec_lt k 21) [ yes h ↦ g (λ e. absurd (omega arith)) | no h ↦ elim (dec_lt 21 k) [ yes i ↦ g (λ e. absurd (omega arith)) | no i ↦ f (omega arith) ] ]

-- ---- texts and numbers

escaped_byte_lem : (b : ℕ) → length (escaped_byte b) ≤ 4
unfolding escaped_byte
escaped_byte_lem b = go (needs_escape b)
  where
    go : (a : Bool) → length (cond a (92 ∷ 120 ∷ hex_digit (b / 16) ∷ hex_digit (b % 16) ∷ []) (b ∷ [])) ≤ 4
    go true = omega arith
    go false = omega arith

escaped_most : (bs : List ℕ) → length (escaped bs) ≤ 4 * length bs
unfolding escaped
escaped_most [] = omega arith
escaped_most (b ∷ bs) = omega (arith, length-append (escaped_byte b) (escaped bs), escaped_byte_lem b, escaped_most bs)

quoted_most : (bs : List ℕ) → length (in_quotes bs) ≤ 2 + 4 * length bs
unfolding in_quotes
quoted_most bs = omega (arith, length-append (escaped bs) (34 ∷ []), escaped_most bs)

literal_most : (f : Frame) (bs : List ℕ) → length (literal_text f bs) ≤ 4 + 4 * length bs
unfolding literal_text
literal_most f [] = go (eqb f.seen 0) (eqb (field_in f) 1) (eqb (f.map / 4 % 2) 0)
  where
    go : (a b c : Bool) → length (cond a (cond b (cond c (in_quotes []) []) (in_quotes [])) []) ≤ 4
    go true true true = omega (arith, quoted_most [])
    go true true false = omega arith
    go true false c = omega (arith, quoted_most [])
    go false b c = omega arith
literal_most f (b ∷ bs) = go (eqb f.seen 0) (eqb (field_in f) 1)
  where
    go : (a c : Bool) → length (cond a (cond c (b ∷ bs) (in_quotes (b ∷ bs))) []) ≤ 4 + 4 * suc (length bs)
    go true true = omega arith
    go true false = omega (arith, quoted_most (b ∷ bs))
    go false c = omega arith

member_most : (bs : List ℕ) → length (member_name bs) ≤ 4 + 4 * length bs
unfolding member_name
member_most bs = go (bare bs)
  where
    go : (a : Bool) → length (cond a (46 ∷ bs) (member_quoted bs)) ≤ 4 + 4 * length bs
    go true = omega arith
    go false = omega (arith, length-append (in_quotes bs) (93 ∷ []), quoted_most bs)

key_most : (bs : List ℕ) → length (key_name bs) ≤ 4 + 4 * length bs
unfolding key_name
key_most bs = go (bare bs)
  where
    go : (a : Bool) → length (cond a bs (in_quotes bs)) ≤ 4 + 4 * length bs
    go true = omega arith
    go false = omega (arith, quoted_most bs)

pub text_most : (f : Frame) (bs : List ℕ) → length (text_bytes f bs) ≤ most (lead_of f.kind (field_in f)) + (4 + 4 * length bs)
unfolding text_bytes
text_most f bs = go (eqb f.kind 22) (eqb f.kind 30) (eqb f.kind 38)
  where
    lead : List ℕ
    lead = word (chosen_word (lead_of f.kind (field_in f)) f.note f.map f.seen 0)

    go : (a b c : Bool) → length (cond a (literal_text f bs) (cond b (member_name bs) (cond c (key_name bs) (word (chosen_word (lead_of f.kind (field_in f)) f.note f.map f.seen 0) ++ bs)))) ≤ most (lead_of f.kind (field_in f)) + (4 + 4 * length bs)
    go true b c = omega (arith, literal_most f bs)
    go false true c = omega (arith, member_most bs)
    go false false true = omega (arith, key_most bs)
    go false false false = omega (arith, length-append (word (chosen_word (lead_of f.kind (field_in f)) f.note f.map f.seen 0)) bs, chosen_most (lead_of f.kind (field_in f)) f.note f.map f.seen 0)

-- one digit more for ten times the number
digit_more : (k m : ℕ) → ((f n : ℕ) → n < m → length (decimal_from f n) ≤ k) → (f n : ℕ) → n < 10 * m → length (decimal_from f n) ≤ k + 1
unfolding decimal_from
digit_more k m h zero n g = omega arith
digit_more k m h (suc f) n g = go (ltb n 10)
  where
    go : (a : Bool) → length {A = ℕ} (elim a [ true ↦ (48 + n) ∷ [] | false ↦ decimal_from f (n / 10) ++ ((48 + n % 10) ∷ []) ]) ≤ k + 1
    go true = omega arith
    go false = omega (arith, length-append (decimal_from f (n / 10)) ((48 + n % 10) ∷ []), h f (n / 10) (omega arith))

one_digit : (f n : ℕ) → n < 10 → length (decimal_from f n) ≤ 1
unfolding decimal_from
one_digit zero n h = omega arith
one_digit (suc f) n h = subst (λ (a : Bool). length {A = ℕ} (elim a [ true ↦ (48 + n) ∷ [] | false ↦ decimal_from f (n / 10) ++ ((48 + n % 10) ∷ []) ]) ≤ 1) (sym (lt-ltb n 10 h)) (omega arith)

pub decimal_most : (n : ℕ) → n < 65536 → length (decimal n) ≤ 5
unfolding decimal
decimal_most n h = digit_more 4 10000 (digit_more 3 1000 (digit_more 2 100 (digit_more 1 10 one_digit))) (suc n) n (omega arith)

-- ---- quasis

unfoldable pub weight : List Cell → ℕ
weight [] = 0
weight (c ∷ cs) = length (cell_text c) + weight cs

pub weight_append : (a b : List Cell) → weight (a ++ b) ≡ weight a + weight b
unfolding weight
weight_append [] b = omega arith
weight_append (c ∷ a) b = omega (arith, weight_append a b)

pub left_most : (qs : List Cell) → length (left_over_of qs) ≤ weight qs
unfolding left_over_of weight
left_most [] = omega arith
left_most (quasi bs ∷ qs) = omega (arith, length-append bs (left_over_of qs), left_most qs)
left_most (stop ∷ qs) = omega arith

pub first_most : (a : Bool) (qs : List Cell) → length (cond a (first qs) []) + weight (cond a (later qs) qs) ≤ weight qs
unfolding weight
first_most true [] = omega arith
first_most true (quasi bs ∷ qs) = omega arith
first_most true (stop ∷ qs) = omega arith
first_most false qs = omega arith
