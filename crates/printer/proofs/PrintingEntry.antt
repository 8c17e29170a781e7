-- The entry: what fits of the text, and what was read.
-- Assumes nothing.
use mathlib.Core.Path.{◌≡◌, refl, sym, ap, ap₂, ◌∙◌}
use mathlib.Core.Bool.{Bool, true, false, cond}
use mathlib.Core.List.{List, [], ◌∷◌, ◌++◌}
use Prim.Native.Nat.{ℕ, zero, suc, ◌+◌, ◌-◌, ◌<◌, ◌≤◌}
use native.Mathlib.Omega.{arith}
use native.Mathlib.Decide.{dec_lt}
use native.Mathlib.Numerals.{add-one}
use lib.Dec.{ltb}
use lib.ListN.{length, get_or, set, drop, replicate, length-set, length-replicate, get_or-replicate, get_or-eq_default}
use lib.Seq.{ext_get_or, sets, sets-eq}
use borrow.Author.Tests.{lt-ltb, le-ltb, le-leb, lt-leb}
use Rattle.tree.specs.Tree.{Node}
use Rattle.tree.specs.Grammar.Stage.{rewritten}
use Rattle.tree.specs.Read.{Got, read_tree}
use Rattle.tree.specs.Read.Got.{got, refused}
use Rattle.tree.proofs.Sound.{never}
use Rattle.rewritten.specs.Rewritten.{read_rewritten, is_rewritten, is_got}
use Rattle.rewritten.proofs.RewrittenExact.{checked_got}
use Rattle.printer.specs.Outcome.{Handed, not_a_tree, refusal, fitted, outcome}
use Rattle.printer.specs.Stacks.{Buffer, put, write, buffer_in}
use Rattle.printer.specs.Text.{text_of}
use Rattle.printer.specs.Turns.{empty}

-- ---- what fits

abbrev buffer : List ℕ → ℕ → Bool → Buffer
buffer l n b = record { bytes = l; len = n; over = b }

write_over : (l : List ℕ) (n : ℕ) (xs : List ℕ) → write (buffer l n true) xs ≡ buffer l n true
unfolding write put
write_over l n [] = refl
write_over l n (x ∷ xs) = write_over l n xs

put_fits : (l : List ℕ) (n x : ℕ) → n < length l → put (buffer l n false) x ≡ buffer (set l n x) (n + 1) false
unfolding put
put_fits l n x h = rw (lt-ltb n (length l) h) refl

put_over : (l : List ℕ) (n x : ℕ) → length l ≤ n → put (buffer l n false) x ≡ buffer l n true
unfolding put
put_over l n x h = rw (le-ltb n (length l) h) refl

write_fits : (xs l : List ℕ) (n : ℕ) → n + length xs ≤ length l → write (buffer l n false) xs ≡ buffer (sets l n xs) (n + length xs) false
unfolding write
write_fits [] l n h = let e : n ≡ n + 0 = omega arith in ap (λ (z : ℕ). buffer l z false) e
write_fits (x ∷ xs) l n h =
    ap (λ (b : Buffer). write b xs) (put_fits l n x (omega arith))
    ∙ write_fits xs (set l n x) (n + 1) (omega (arith, length-set l n x))
    ∙ (let e : n + 1 + length xs ≡ n + suc (length xs) = omega arith in ap₂ (λ (y : List ℕ) (z : ℕ). buffer y z false) (ap (λ (i : ℕ). sets (set l n x) i xs) (add-one n)) e)

write_long : (xs l : List ℕ) (n : ℕ) → n ≤ length l → length l < n + length xs → (write (buffer l n false) xs).over ≡ true
unfolding write
write_long [] l n h g = absurd (omega arith)
write_long (x ∷ xs) l n h g = elim (dec_lt n (length l)) [
  | yes k ↦ ap (λ (b : Buffer). (write b xs).over) (put_fits l n x k) ∙ write_long xs (set l n x) (n + 1) (omega (arith, length-set l n x)) (omega (arith, length-set l n x))
  | no k ↦ ap (λ (b : Buffer). (write b xs).over) (put_over l n x (omega arith)) ∙ ap (λ (b : Buffer). b.over) (write_over l n xs)
]

-- ---- a byte by its spot

spot_in : (l : List ℕ) (s : ℕ) → s ≤ length l → buffer_in l s ≡ buffer l s false
spot_in l s h = rw (le-ltb (length l) s h) refl

spot_past : (l : List ℕ) (t : ℕ) → length l < t → buffer_in l t ≡ buffer l (length l) true
spot_past l t k = rw (lt-ltb (length l) t k) refl

pub spot_fits : (l : List ℕ) (s x : ℕ) → s < length l → buffer_in (set l s x) (s + 1) ≡ put (buffer_in l s) x
spot_fits l s x h =
    spot_in (set l s x) (s + 1) (omega (arith, length-set l s x))
    ∙ sym (ap (λ (b : Buffer). put b x) (spot_in l s (omega arith)) ∙ put_fits l s x h)

pub spot_over : (l : List ℕ) (s t x : ℕ) → length l ≤ s → length l < t → buffer_in l t ≡ put (buffer_in l s) x
unfolding put
spot_over l s t x h k = elim (dec_lt (length l) s) [
  | yes g ↦ rw (lt-ltb (length l) t k, lt-ltb (length l) s g) refl
  | no g ↦
      let e : length l ≡ s = omega arith in
      spot_past l t k
      ∙ ap (λ (n : ℕ). buffer l n true) e
      ∙ sym (ap (λ (b : Buffer). put b x) (spot_in l s (omega arith)) ∙ put_over l s x h)
]

-- ---- zeros

pub all_zero : (l m : List ℕ) → length m ≡ length l → ((x : ℕ) → get_or m x 0 ≡ 0) → m ≡ replicate (length l) 0
all_zero l m e z = ext_get_or 0 m (replicate (length l) 0) (e ∙ sym (length-replicate (length l) 0)) (λ i h. z i ∙ sym (get_or-replicate (length l) i 0 0 (omega (arith, e, h))))

pub zero_at : (l : List ℕ) (n x : ℕ) → l ≡ replicate n 0 → get_or l x 0 ≡ 0
zero_at l n x e = elim (dec_lt x n) [
  | yes h ↦ rw e (get_or-replicate n x 0 0 h)
  | no h ↦ get_or-eq_default l 0 {n = x} (omega (arith, ap length e, length-replicate {A = ℕ} n 0))
]

drop_zeros : (n m : ℕ) → drop {A = ℕ} n (replicate m 0) ≡ replicate (m - n) 0
drop_zeros zero m = let e : m ≡ m - 0 = omega arith in ap (λ (k : ℕ). replicate {A = ℕ} k 0) e
drop_zeros (suc n) zero = let e : 0 ≡ 0 - suc n = omega arith in ap (λ (k : ℕ). replicate {A = ℕ} k 0) e
drop_zeros (suc n) (suc m) = drop_zeros n m ∙ (let e : m - n ≡ suc m - suc n = omega arith in ap (λ (k : ℕ). replicate {A = ℕ} k 0) e)

-- ---- the answer

module _ (text : List ℕ) (spot : ℕ) (size : ℕ) (bs : List ℕ) (s : length text ≡ size) (w : buffer_in text spot ≡ write (buffer_in (replicate size 0) empty) bs) where
  fit : length bs ≤ size → buffer_in text spot ≡ buffer (bs ++ replicate (size - length bs) 0) (length bs) false
  fit h =
      w
      ∙ ap (λ (b : Buffer). write b bs) (spot_in (replicate size 0) 0 (omega arith))
      ∙ write_fits bs (replicate size 0) 0 (omega (arith, length-replicate {A = ℕ} size 0))
      ∙ ap₂ (λ (y : List ℕ) (z : ℕ). buffer y z false) (sets-eq bs (replicate size 0) 0 (omega (arith, length-replicate {A = ℕ} size 0)) ∙ (let e : 0 + length bs ≡ length bs = omega arith in ap (λ (k : ℕ). bs ++ drop k (replicate size 0)) e ∙ ap (λ (y : List ℕ). bs ++ y) (drop_zeros (length bs) size))) (let e : 0 + length bs ≡ length bs = omega arith in e)

  long : size < length bs → ltb (length text) spot ≡ true
  long h = ap (λ (b : Buffer). b.over) w ∙ ap (λ (b : Buffer). (write b bs).over) (spot_in (replicate size 0) 0 (omega arith)) ∙ write_long bs (replicate size 0) 0 (omega arith) (omega (arith, length-replicate {A = ℕ} size 0))

  pub finish_fits : ltb (length text) spot ≡ false → record { answer = 0; long = spot; bytes = text } ≡ fitted size bs
  unfolding fitted
  finish_fits f = elim (dec_lt size (length bs)) [
    | yes h ↦ never (sym f ∙ long h)
    | no h ↦
        rw (le-leb (length bs) size (omega arith))
        (let e = fit (omega arith) in
        ap₂ (λ (l : List ℕ) (n : ℕ). record { answer = 0; long = n; bytes = l }) (ap (λ (b : Buffer). b.bytes) e) (sym (ap (λ (t : Bool). cond t (length text) spot) f) ∙ ap (λ (b : Buffer). b.len) e))
  ]

  pub finish_over : (after : List ℕ) → ltb (length text) spot ≡ true → length after ≡ length text → ((x : ℕ) → get_or after x 0 ≡ 0) → record { answer = 10; long = 0; bytes = after } ≡ fitted size bs
  unfolding fitted refusal
  finish_over after t e z = elim (dec_lt size (length bs)) [
    | yes h ↦ rw (lt-leb (length bs) size h) (ap (λ (l : List ℕ). record { answer = 10; long = 0; bytes = l }) (all_zero text after e z ∙ ap (λ (k : ℕ). replicate {A = ℕ} k 0) s))
    | no h ↦ never (sym (ap (λ (b : Buffer). b.over) (fit (omega arith))) ∙ t)
  ]

-- the bytes are a rewritten tree: the outcome is that of its text
pub printed_is : (l : List ℕ) (size : ℕ) (h : Handed) → is_rewritten l ≡ true → ((n : Node) (q k : ℕ) → read_tree rewritten (length l) l ≡ got n q k → h ≡ fitted size (text_of n)) → h ≡ outcome (read_rewritten l) size
unfolding is_rewritten read_rewritten
printed_is l size h t f = go (read_rewritten l) refl t
  where
    go : (g : Got Node) → read_rewritten l ≡ g → is_got g ≡ true → h ≡ outcome g size
    go (got n q k) e u = f n q k (checked_got (read_tree rewritten (length l) l) n q k e).0
    go (refused r) e u = never u

-- or 3
pub refused_is : (l : List ℕ) (size : ℕ) → is_rewritten l ≡ false → refusal size not_a_tree ≡ outcome (read_rewritten l) size
unfolding is_rewritten
refused_is l size t = go (read_rewritten l) t
  where
    go : (g : Got Node) → is_got g ≡ false → refusal size not_a_tree ≡ outcome g size
    go (got n q k) u = never (sym u)
    go (refused r) u = refl
