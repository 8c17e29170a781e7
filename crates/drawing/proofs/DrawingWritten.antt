-- What drawing leaves, part by part: one law for each way out of the code.
-- Assumes nothing.
use Rattle.std.proofs.Common.{◌≡◌, ℕ, suc, ◌+◌, ◌-◌, ◌/◌, ◌%◌, ◌<◌, ◌≤◌, Bool, true, false, cond, eqb, leb, List, [], ◌∷◌, ◌++◌, length, get_or, set, sym, refl, ◌∙◌, mod-lt, add-one, arith, length-set, set-set, eq-eqb, ne_eqb, le-leb}
use native.Mathlib.Decide.{dec_lt}
use lib.Seq.{set_comm, set_out}
use borrow.Author.Tests.{lt-leb}
use Rattle.tree.specs.Tree.{wide_bytes, encode_piece}
use Rattle.tree.specs.Tree.Piece.{text, byte, mark, number}
use Rattle.tree.specs.Rows.{field_of}
use Rattle.tree.specs.WellFormed.{byte_in}
use Rattle.drawing.specs.Xorshift.{step}
use Rattle.drawing.specs.Draw.{ends, rising, shortest, kind_at, state_at, stands_at_of, settled_state, draw_text, draw_number, draw_mark, draw_byte}
use Rattle.drawing.specs.Draw.Drawn.{drawn}
use Rattle.drawing.specs.Pen.{next, put, reach, page, drew, drew_piece}
use Rattle.drawing.specs.declared.pen.Pen.{Pen}

-- ---- bytes one after the other

pub put_length : (l : List ℕ) (at : ℕ) (xs : List ℕ) → length (put l at xs) ≡ length l
unfolding put
put_length l at [] = refl
put_length l at (x ∷ xs) = put_length (set l at x) (next (length l) at) xs ∙ length-set l at x

pub put_two : (l : List ℕ) (at : ℕ) (xs ys : List ℕ) → put l at (xs ++ ys) ≡ put (put l at xs) (reach (length l) at xs) ys
unfolding put reach
put_two l at [] ys = refl
put_two l at (x ∷ xs) ys = put_two (set l at x) (next (length l) at) xs ys ∙ rw (length-set l at x)

pub reach_two : (n at : ℕ) (xs ys : List ℕ) → reach n at (xs ++ ys) ≡ reach n (reach n at xs) ys
unfolding reach
reach_two n at [] ys = refl
reach_two n at (x ∷ xs) ys = reach_two n (next n at) xs ys

pub next_le : (n at : ℕ) → at ≤ next n at
unfolding next
next_le n at = go (leb at n)
  where
    go : (b : Bool) → at ≤ cond b (suc at) at
    go true = omega arith
    go false = omega arith

pub next_in_lem : (n at : ℕ) → at ≤ n → next n at ≡ suc at
unfolding next
next_in_lem n at h = rw (le-leb at n h)

-- a byte behind which others were written may be changed afterwards
put_later : (l : List ℕ) (i m at : ℕ) (xs : List ℕ) → i < at → set (put l at xs) i m ≡ put (set l i m) at xs
unfolding put
put_later l i m at [] h = refl
put_later l i m at (x ∷ xs) h =
    put_later (set l at x) i m (next (length l) at) xs (omega (arith, next_le (length l) at))
    ∙ rw (set_comm l at i x m (λ e. omega (arith, e)), length-set l i m)

-- past the end nothing is changed
put_past : (l : List ℕ) (i m at : ℕ) (xs : List ℕ) → length l ≤ i → set (put l at xs) i m ≡ put (set l i m) at xs
put_past l i m at xs h = set_out (put l at xs) i m (rw (put_length l at xs) h) ∙ rw (set_out l i m h)

-- a byte, other bytes, and then the first byte anew
pub put_again : (l : List ℕ) (i a m : ℕ) (xs : List ℕ) → set (put (set l i a) (next (length l) i) xs) i m ≡ put (set l i m) (next (length l) i) xs
put_again l i a m xs = elim (dec_lt i (length l)) [
  | yes h ↦ put_later (set l i a) i m (next (length l) i) xs (ahead h) ∙ rw (set-set l i a m)
  | no h ↦ put_past (set l i a) i m (next (length l) i) xs (rw (length-set l i a) (omega arith)) ∙ rw (set-set l i a m)
]
  where
    ahead : i < length l → i < next (length l) i
    ahead h = rw (next_in_lem (length l) i (omega arith)) (omega arith)

-- ---- choices

module _ (deep : Bool) (p s b : ℕ) (k n : ℕ) (counted : n ≡ length (rising p)) where
  pub choose_lone : n < 2 → k ≡ get_or (rising p) 0 0 → (k ≡ kind_at deep p s b) × (s ≡ state_at deep p s b)
  unfolding kind_at state_at
  choose_lone h e = rw (le-leb (length (rising p)) 1 (omega arith)) (e, refl)

  pub choose_shortest : 2 ≤ n → true ≡ ends deep b → k ≡ shortest p → (k ≡ kind_at deep p s b) × (s ≡ state_at deep p s b)
  unfolding kind_at state_at
  choose_shortest h e w = rw (lt-leb (length (rising p)) 1 (omega arith), ← e) (w, refl)

  pub choose_drawn : (x : ℕ) → 2 ≤ n → false ≡ ends deep b → x ≡ step s → k ≡ get_or (rising p) (x % n) 0 → (k ≡ kind_at deep p s b) × (x ≡ state_at deep p s b)
  unfolding kind_at state_at
  choose_drawn x h e z w = rw (lt-leb (length (rising p)) 1 (omega arith), ← e, ← counted, ← z) (w, refl)

module _ (deep : Bool) (digit s b : ℕ) where
  pub settle_must : digit / 512 ≡ 0 → (true ≡ stands_at_of deep (field_of digit) s b) × (s ≡ settled_state deep (field_of digit) s b)
  unfolding stands_at_of settled_state
  settle_must h = rw (eq-eqb (digit / 512) 0 h) (refl, refl)

  pub settle_cut : (digit / 512 ≡ 0 → ⊥) → true ≡ ends deep b → (false ≡ stands_at_of deep (field_of digit) s b) × (s ≡ settled_state deep (field_of digit) s b)
  unfolding stands_at_of settled_state
  settle_cut h e = rw (ne_eqb (digit / 512) 0 h, ← e) (refl, refl)

  pub settle_drawn : (x : ℕ) → (digit / 512 ≡ 0 → ⊥) → false ≡ ends deep b → x ≡ step s → (eqb (x % 2) 1 ≡ stands_at_of deep (field_of digit) s b) × (x ≡ settled_state deep (field_of digit) s b)
  unfolding stands_at_of settled_state
  settle_drawn x h e z = rw (ne_eqb (digit / 512) 0 h, ← e, ← z) (refl, refl)

-- ---- a byte, a 16-bit number

abbrev pub Put : List ℕ → ℕ → ℕ → ℕ → List ℕ → Type 0
Put l at x at' l' = (at' ≡ next (length l) at) × (l' ≡ set l at x)

abbrev pub Wide : List ℕ → ℕ → ℕ → ℕ → List ℕ → Type 0
Wide l at n at' l' = (at' ≡ reach (length l) at (wide_bytes n)) × (l' ≡ put l at (wide_bytes n))

pub wide_put : (l : List ℕ) (at n a₁ : ℕ) (l₁ : List ℕ) (a₂ : ℕ) (l₂ : List ℕ) → Put l at (n % 256) a₁ l₁ → Put l₁ a₁ (n / 256) a₂ l₂ → Wide l at n a₂ l₂
unfolding put reach
wide_put l at n a₁ l₁ a₂ l₂ e f = (f.0 ∙ rw (e.1, e.0, length-set l at (n % 256)), f.1 ∙ rw (e.1, e.0))

abbrev pub pen : ℕ → ℕ → ℕ → ℕ → ℕ → Pen
pen s b k at v = record { state = s; more = b; mark = k; at = at; value = v }

pub wrote : {A : Type 0} (bytes : A → List ℕ) (value : A → ℕ) (a : A) (s b k : ℕ) (l l' : List ℕ) (at at' v : ℕ)
    → l' ≡ put l at (bytes a) → at' ≡ reach (length l) at (bytes a) → v ≡ value a → page l' (pen s b k at' v) ≡ drew bytes value l at (drawn a s b k)
unfolding drew
wrote bytes value a s b k l l' at at' v e f g = rw (e, f, g)

module _ (l : List ℕ) (at s b k : ℕ) where
  -- ---- pieces without nodes

  pub text_drawn : (x a₁ : ℕ) (l₁ : List ℕ) (a₂ : ℕ) (l₂ : List ℕ) → x ≡ step s → Wide l at 1 a₁ l₁ → Put l₁ a₁ (97 + x % 26) a₂ l₂ → page l₂ (pen x b k a₂ 0) ≡ drew_piece l at (draw_text s b k)
  unfolding draw_text encode_piece put reach
  text_drawn x a₁ l₁ a₂ l₂ z e f =
      rw z
      (wrote encode_piece byte_in (text ((97 + step s % 26) ∷ [])) (step s) b k l l₂ at a₂ 0
      (f.1 ∙ rw (z, e.1, e.0) (sym (put_two l at (wide_bytes 1) ((97 + step s % 26) ∷ []))))
      (f.0 ∙ rw (e.1, e.0, put_length l at (wide_bytes 1)) (sym (reach_two (length l) at (wide_bytes 1) ((97 + step s % 26) ∷ []))))
      refl)

  pub byte_lone : (low high a₁ : ℕ) (l₁ : List ℕ) → high ≤ low → Put l at low a₁ l₁ → page l₁ (pen s b k a₁ low) ≡ drew_piece l at (draw_byte low high s b k)
  unfolding draw_byte encode_piece put reach
  byte_lone low high a₁ l₁ h e = rw (le-leb high low h) (wrote encode_piece byte_in (byte low) s b k l l₁ at a₁ low e.1 e.0 refl)

  pub byte_drawn : (low high x a₁ : ℕ) (l₁ : List ℕ) → low < high → x ≡ step s → Put l at (low + x % (high - low + 1)) a₁ l₁ → page l₁ (pen x b k a₁ (low + x % (high - low + 1))) ≡ drew_piece l at (draw_byte low high s b k)
  unfolding draw_byte encode_piece put reach
  byte_drawn low high x a₁ l₁ h z e =
      rw (lt-leb high low h)
      (rw (← z, ← add-one (high - low)) (wrote encode_piece byte_in (byte (low + x % (high - low + 1))) x b k l l₁ at a₁ (low + x % (high - low + 1)) e.1 e.0 refl))

  pub mark_drawn : (m a₁ : ℕ) (l₁ : List ℕ) → m ≡ (k + 1) % 65536 → Wide l at k a₁ l₁ → page l₁ (pen s b m a₁ 0) ≡ drew_piece l at (draw_mark s b k)
  unfolding draw_mark encode_piece
  mark_drawn m a₁ l₁ z e = rw (← add-one k, ← z) (wrote encode_piece byte_in (mark k) s b m l l₁ at a₁ 0 e.1 e.0 refl)

  pub number_drawn : (x a₁ : ℕ) (l₁ : List ℕ) → x ≡ step s → Wide l at (x % 65536) a₁ l₁ → page l₁ (pen x b k a₁ 0) ≡ drew_piece l at (draw_number s b k)
  unfolding draw_number encode_piece
  number_drawn x a₁ l₁ z e = rw (← z) (wrote encode_piece byte_in (number (x % 65536)) x b k l l₁ at a₁ 0 e.1 e.0 refl)

pub put_in : (l : List ℕ) (at x : ℕ) → at < length l → Put l at x (at + 1) (set l at x)
put_in l at x h = (add-one at ∙ sym (next_in_lem (length l) at (omega arith)), refl)

pub put_end : (l : List ℕ) (at x : ℕ) → at ≡ length l → Put l at x (at + 1) l
put_end l at x h = (add-one at ∙ sym (next_in_lem (length l) at (omega arith)), sym (set_out l at x (omega arith)))

pub put_over : (l : List ℕ) (at x : ℕ) → length l ≤ at → (at ≡ length l → ⊥) → Put l at x at l
unfolding next
put_over l at x h n = (rw (lt-leb at (length l) (apart at (length l) h n)), sym (set_out l at x h))
  where
    apart : (a m : ℕ) → m ≤ a → (a ≡ m → ⊥) → m < a
    apart a m g f = elim (dec_lt m a) [ yes w ↦ w | no w ↦ absurd (f (omega arith)) ]

-- ---- a drawn byte is one

pub byte_sum : (low high x : ℕ) → low < high → high < 256 → low + x % (high - low + 1) < 256
byte_sum low high x h f = omega (arith, mod-lt x {m = high - low + 1} (omega arith))
