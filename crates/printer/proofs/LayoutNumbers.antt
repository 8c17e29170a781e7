-- The code's numbers are the layout: what is past their ends, and what their digits are.
-- Assumes nothing.
use mathlib.Core.Path.{◌≡◌, refl, sym, ◌∙◌}
use mathlib.Core.Bool.{Bool, true, false, cond}
use mathlib.Core.List.{List, [], ◌∷◌}
use Prim.Native.Nat.{ℕ, ◌+◌, ◌-◌, ◌*◌, ◌/◌, ◌%◌, ◌<◌, ◌≤◌}
use native.Mathlib.Omega.{arith}
use native.Mathlib.Decide.{dec_lt}
use lib.Dec.{T, eqb, eqb→eq}
use lib.ListN.{get_or, get_or-eq_default}
use borrow.Author.Tests.{le-ltb, lt-ltb, ne_eqb}
use Rattle.tree.specs.Grammar.{among}
use Rattle.tree.proofs.Table.{both, both_left, both_right, every, at, below, below_at}
use Rattle.tree.proofs.GrammarRows.{NoKey, no_key}
use Rattle.printer.specs.Layout.{Line, words, word, choices, chosen_word, layout, line_of, head_of, tail_of, close_of, lead_of, manner_of}
use Rattle.printer.specs.Places.{is_statement, is_wrapped}
use Rattle.printer.specs.Rows.{packed, low_of, middle_of, high_of, word_numbers, sort_numbers, slot_numbers, Sorted, Slotted}

-- ---- words

pub word_none : (i : ℕ) → 94 ≤ i → word i ≡ []
unfolding word words
word_none i h = get_or-eq_default words [] h

-- what the last arm of a match knows: the number is none of the keys, the last first
abbrev pub NoneOf : List ℕ → ℕ → Type 0
NoneOf [] v = Unit
NoneOf (k ∷ ks) v = NoneOf ks v × (v ≡ k → ⊥)

-- 0 but at the keys
abbrev zero_but : (ℕ → ℕ) → List ℕ → ℕ → Bool
zero_but f [] i = eqb (f i) 0
zero_but f (k ∷ ks) i = cond (eqb i k) true (zero_but f ks i)

zero_at : (f : ℕ → ℕ) (ks : List ℕ) (i : ℕ) → NoneOf ks i → T (zero_but f ks i) → 0 ≡ f i
zero_at f [] i h t = sym (eqb→eq (f i) 0 t)
zero_at f (k ∷ ks) i h t = zero_at f ks i h.0 (rw (ne_eqb i k h.1) at t)

-- a number of the words that is 0 at those past the end, and at the others but the keys
no_digits : (f : ℕ → ℕ) (ks : List ℕ) → T (below 94 (zero_but f ks)) → ((i : ℕ) → 94 ≤ i → 0 ≡ f i) → (i : ℕ) → NoneOf ks i → 0 ≡ f i
no_digits f ks t past i h = elim (dec_lt i 94) [ yes l ↦ zero_at f ks i h (below_at (zero_but f ks) 94 t i l) | no l ↦ past i (omega arith) ]

low_right : ℕ → ℕ → Bool
low_right i x = eqb x (low_of i)

lows_right : T (every low_right 0 word_numbers)
unfolding low_right word_numbers low_of packed word words
lows_right = tt

low_at : (i : ℕ) → get_or word_numbers i 0 ≡ low_of i
unfolding low_right word_numbers low_of packed
low_at i = elim (dec_lt i 128) [
  | yes h ↦ eqb→eq (get_or word_numbers i 0) (low_of i) (at low_right word_numbers lows_right i h)
  | no h ↦ get_or-eq_default word_numbers 0 {n = i} (omega arith) ∙ rw (word_none i (omega arith))
]

pub low_in : (l : List ℕ) (i : ℕ) → l ≡ word_numbers → get_or l i 0 ≡ low_of i
low_in l i e = rw e (low_at i)

abbrev pub middles : List ℕ
middles = 86 ∷ 84 ∷ 81 ∷ 49 ∷ 48 ∷ 47 ∷ 23 ∷ 14 ∷ 13 ∷ 12 ∷ 10 ∷ 7 ∷ 5 ∷ []

pub no_middle : (i : ℕ) → NoneOf middles i → 0 ≡ middle_of i
unfolding middle_of packed word words
no_middle = no_digits middle_of middles tt (λ i l. rw (word_none i l))

abbrev pub highs : List ℕ
highs = 13 ∷ 12 ∷ []

pub no_high : (i : ℕ) → NoneOf highs i → 0 ≡ high_of i
unfolding high_of packed word words
no_high = no_digits high_of highs tt (λ i l. rw (word_none i l))

-- ---- the layout

abbrev empty : Line
empty = record { head = 0; tail = 0; close = 0; leads = []; manners = [] }

pub line_none : (k : ℕ) → 45 ≤ k → line_of k ≡ empty
unfolding layout
line_none k h = get_or-eq_default layout empty h

-- ---- the table of kinds

same : Bool → Bool → Bool
same true b = b
same false true = false
same false false = true

same_so : (a b : Bool) → T (same a b) → a ≡ b
unfolding same
same_so true true t = refl
same_so true false t = absurd t
same_so false true t = absurd t
same_so false false t = refl

sort_right : ℕ → ℕ → ℕ → Bool
sort_right k note r =
    both (eqb (r % 128) (head_of k))
    (both (same (eqb (r / 2097152 % 2) 1) (is_statement k note)) (same (eqb (r / 4194304 % 2) 1) (is_wrapped k note)))

sorted_so : (k note r : ℕ) → T (sort_right k note r) → Sorted k note r
unfolding sort_right
sorted_so k note r = go (eqb (r % 128) (head_of k)) (same (eqb (r / 2097152 % 2) 1) (is_statement k note)) (same (eqb (r / 4194304 % 2) 1) (is_wrapped k note)) (eqb→eq (r % 128) (head_of k)) (same_so (eqb (r / 2097152 % 2) 1) (is_statement k note)) (same_so (eqb (r / 4194304 % 2) 1) (is_wrapped k note))
  where
    go : (a b d : Bool) → (T a → r % 128 ≡ head_of k) → (T b → eqb (r / 2097152 % 2) 1 ≡ is_statement k note) → (T d → eqb (r / 4194304 % 2) 1 ≡ is_wrapped k note) → T (both a (both b d)) → Sorted k note r
    go a b d p q u t = record { head = p (both_left a (both b d) t); statement = q (both_left b d (both_right a (both b d) t)); wrapped = u (both_right b d (both_right a (both b d) t)) }

-- the byte counts for a Function alone
kind_right : ℕ → ℕ → Bool
kind_right note k = cond (eqb k 14) true (sort_right k note (get_or sort_numbers k 0))

kinds_right : (note : ℕ) → T (below 64 (kind_right note))
unfolding kind_right sort_right same sort_numbers head_of layout is_statement is_wrapped among
kinds_right note = tt

-- r stands in the table that is lent
pub sort_kind : (l : List ℕ) (k note r : ℕ) → r ≡ get_or l k 0 → (k ≡ 14 → ⊥) → l ≡ sort_numbers → k < 64 → Sorted k note r
unfolding kind_right
sort_kind l k note r q n e h = rw (q, e) (sorted_so k note (get_or sort_numbers k 0) (rw (ne_eqb k 14 n) at (below_at (kind_right note) 64 (kinds_right note) k h)))

function_right : ℕ → Bool
function_right note = sort_right 14 note (get_or sort_numbers (64 + note) 0)

functions_right : T (below 3 function_right)
unfolding function_right sort_right same sort_numbers head_of layout is_statement is_wrapped among
functions_right = tt

pub sort_function : (l : List ℕ) (k note r : ℕ) → r ≡ get_or l (64 + note) 0 → k ≡ 14 → note < 3 → l ≡ sort_numbers → Sorted k note r
unfolding function_right
sort_function l k note r q f h e = rw (q, f, e) (sorted_so 14 note (get_or sort_numbers (64 + note) 0) (below_at function_right 3 functions_right note h))

pub sort_other : (l : List ℕ) (k note r : ℕ) → r ≡ get_or l 67 0 → k ≡ 14 → 3 ≤ note → l ≡ sort_numbers → Sorted k note r
unfolding sort_numbers head_of layout is_statement is_wrapped among
sort_other l k note r q f h e =
    rw (q, f, e)
    (record {
      head = refl;
      statement = rw (ne_eqb note 1 (λ z. absurd (omega arith)));
      wrapped = rw (ne_eqb note 2 (λ z. absurd (omega arith)));
    })

tail_right : ℕ → Bool
tail_right k = eqb (get_or sort_numbers k 0 / 128 % 128) (tail_of k)

tails_right : T (below 64 tail_right)
unfolding tail_right sort_numbers tail_of layout
tails_right = tt

pub tail_at : (l : List ℕ) (k r : ℕ) → r ≡ get_or l k 0 → l ≡ sort_numbers → k < 64 → r / 128 % 128 ≡ tail_of k
unfolding tail_right
tail_at l k r q e h = rw (q, e) (eqb→eq (get_or sort_numbers k 0 / 128 % 128) (tail_of k) (below_at tail_right 64 tails_right k h))

close_right : ℕ → Bool
close_right k = eqb (get_or sort_numbers k 0 / 16384 % 128) (close_of k)

closes_right : T (below 64 close_right)
unfolding close_right sort_numbers close_of layout
closes_right = tt

pub close_at : (l : List ℕ) (k r : ℕ) → r ≡ get_or l k 0 → l ≡ sort_numbers → k < 64 → r / 16384 % 128 ≡ close_of k
unfolding close_right
close_at l k r q e h = rw (q, e) (eqb→eq (get_or sort_numbers k 0 / 16384 % 128) (close_of k) (below_at close_right 64 closes_right k h))

-- ---- the table of fields

slot_right : ℕ → ℕ → Bool
slot_right i x = both (eqb (x % 128) (lead_of (i / 8) (i % 8))) (eqb (x / 128) (manner_of (i / 8) (i % 8)))

slots_right : T (every slot_right 0 slot_numbers)
unfolding slot_right slot_numbers lead_of manner_of layout
slots_right = tt

slotted : (k j : ℕ) → k < 64 → j < 8 → Slotted k j (get_or slot_numbers (8 * k + j) 0)
unfolding slot_right slot_numbers
slotted k j h g =
    let d : (8 * k + j) / 8 ≡ k = omega arith in
    let m : (8 * k + j) % 8 ≡ j = omega arith in
    go (get_or slot_numbers (8 * k + j) 0) (rw (d, m) at (at slot_right slot_numbers slots_right (8 * k + j) (omega arith)))
  where
    go : (x : ℕ) → T (both (eqb (x % 128) (lead_of k j)) (eqb (x / 128) (manner_of k j))) → Slotted k j x
    go x t = record {
      lead = eqb→eq (x % 128) (lead_of k j) (both_left (eqb (x % 128) (lead_of k j)) (eqb (x / 128) (manner_of k j)) t);
      manner = eqb→eq (x / 128) (manner_of k j) (both_right (eqb (x % 128) (lead_of k j)) (eqb (x / 128) (manner_of k j)) t);
    }

pub slot_at : (l : List ℕ) (k j r : ℕ) → r ≡ get_or l (8 * k + j) 0 → l ≡ slot_numbers → k < 64 → j < 8 → Slotted k j r
slot_at l k j r q e h g = rw (q, e) (slotted k j h g)

-- ---- chosen words

pub own_word : (own n m s o : ℕ) → own < 100 → own ≡ chosen_word own n m s o
unfolding chosen_word
own_word own n m s o h = rw (lt-ltb own 100 h)

pub no_choice : (own n m s o : ℕ) → 100 ≤ own → NoKey Unit 100 20 own → 0 ≡ chosen_word own n m s o
unfolding chosen_word choices
no_choice own n m s o h k = rw (le-ltb own 100 h) (sym (get_or-eq_default (choices n m s o) 0 {n = own - 100} (omega (arith, no_key Unit 100 20 own k h))))

-- the word that a number chooses, from what a frame holds
pub chosen_by : (k own n m s o n' m' s' : ℕ) → own ≡ k → n ≡ n' → m ≡ m' → s ≡ s' → chosen_word k n m s o ≡ chosen_word own n' m' s' o
chosen_by k own n m s o n' m' s' e p q r = rw (e, p, q, r)
