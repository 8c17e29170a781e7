-- What the code has in its arrays: frames as numbers, quasis as positions.
-- Assumes nothing.
use mathlib.Core.Path.{◌≡◌, refl, sym, ap, ◌∙◌}
use mathlib.Core.List.{List, [], ◌∷◌, ◌++◌}
use Prim.Native.Nat.{ℕ, zero, suc, ◌+◌, ◌-◌, ◌*◌, ◌/◌, ◌%◌, ◌<◌, ◌≤◌}
use native.Mathlib.Omega.{arith}
use native.Mathlib.Numerals.{add-one}
use native.Mathlib.Decide.{dec_lt}
use lib.ListN.{length, get_or, set, drop, length-append, get_or-append, get_or-eq_default, drop_of_length-le}
use lib.Seq.{get_or-set_same, get_or-set_other, get_or-append-add, drop-cons}
use borrow.Author.Tests.{lt-ltb, le-ltb}
use Rattle.printer.specs.Text.{Cell, cell_text, left_over_of}
use Rattle.printer.specs.Text.Cell.{quasi, stop}
use Rattle.printer.specs.Machine.{Open, cell_at, cells_from, step_over}
use Rattle.printer.specs.Places.{without, noting, past}
use Rattle.printer.specs.Stacks.{frame_in, next_in, open_in, packed_frame, opens_in, text_at_of, cell_in_of, held_in, Buffer, write}
use Rattle.printer.specs.Turns.{start_of, counted, Small}
use Rattle.std.specs.Prelude.{true, false, Option, Some, None, is_some}
use Rattle.tree.proofs.Sound.{never}
use Rattle.printer.specs.declared.frame.Frame.{Frame}
use Rattle.printer.proofs.PiecesWritten.{write_append}

-- ---- frames

d64 : (a b : ℕ) → (a % 64 + 64 * b) / 64 ≡ b
d64 a b = omega arith

m64 : (a b : ℕ) → a < 64 → (a % 64 + 64 * b) % 64 ≡ a
m64 a b h = omega arith

d256 : (a b : ℕ) → (a % 256 + 256 * b) / 256 ≡ b
d256 a b = omega arith

m256 : (a b : ℕ) → a < 256 → (a % 256 + 256 * b) % 256 ≡ a
m256 a b h = omega arith

d4 : (a b : ℕ) → (a % 4 + 4 * b) / 4 ≡ b
d4 a b = omega arith

m4 : (a b : ℕ) → a < 4 → (a % 4 + 4 * b) % 4 ≡ a
m4 a b h = omega arith

d2 : (a b : ℕ) → (a % 2 + 2 * b) / 2 ≡ b
d2 a b = omega arith

m2 : (a b : ℕ) → a < 2 → (a % 2 + 2 * b) % 2 ≡ a
m2 a b h = omega arith

d128 : (a b : ℕ) → (a % 128 + 128 * b) / 128 ≡ b
d128 a b = omega arith

m128 : (a b : ℕ) → a < 128 → (a % 128 + 128 * b) % 128 ≡ a
m128 a b h = omega arith

mm : (a : ℕ) → a < 16777216 → a % 16777216 % 16777216 ≡ a
mm a h = omega arith

packs : (f : Frame) (x : ℕ) → Small f x → open_in (packed_frame f x) ≡ record { frame = f; next = x }
unfolding packed_frame
packs f x s =
    go f.kind f.map f.note f.rem f.seen f.list f.how x s.kind s.map s.note s.rem s.seen s.list s.how s.next
  where
    go : (k m n r e l h x : ℕ) → k < 64 → m < 256 → n < 256 → r < 256 → e < 4 → l < 2 → h < 128 → x < 16777216 → open_in (k % 64 + 64 * (m % 256 + 256 * (n % 256 + 256 * (r % 256 + 256 * (e % 4 + 4 * (l % 2 + 2 * (h % 128 + 128 * (x % 16777216)))))))) ≡ record { frame = record { kind = k; map = m; note = n; how = h; seen = e; rem = r; list = l }; next = x }
    go k m n r e l h x a b c d f g i j =
        rw (
          m64 k (m % 256 + 256 * (n % 256 + 256 * (r % 256 + 256 * (e % 4 + 4 * (l % 2 + 2 * (h % 128 + 128 * (x % 16777216))))))) a,
          d64 k (m % 256 + 256 * (n % 256 + 256 * (r % 256 + 256 * (e % 4 + 4 * (l % 2 + 2 * (h % 128 + 128 * (x % 16777216))))))),
          m256 m (n % 256 + 256 * (r % 256 + 256 * (e % 4 + 4 * (l % 2 + 2 * (h % 128 + 128 * (x % 16777216)))))) b,
          d256 m (n % 256 + 256 * (r % 256 + 256 * (e % 4 + 4 * (l % 2 + 2 * (h % 128 + 128 * (x % 16777216)))))),
          m256 n (r % 256 + 256 * (e % 4 + 4 * (l % 2 + 2 * (h % 128 + 128 * (x % 16777216))))) c,
          d256 n (r % 256 + 256 * (e % 4 + 4 * (l % 2 + 2 * (h % 128 + 128 * (x % 16777216))))),
          m256 r (e % 4 + 4 * (l % 2 + 2 * (h % 128 + 128 * (x % 16777216)))) d,
          d256 r (e % 4 + 4 * (l % 2 + 2 * (h % 128 + 128 * (x % 16777216)))),
          m4 e (l % 2 + 2 * (h % 128 + 128 * (x % 16777216))) f,
          d4 e (l % 2 + 2 * (h % 128 + 128 * (x % 16777216))),
          m2 l (h % 128 + 128 * (x % 16777216)) g,
          d2 l (h % 128 + 128 * (x % 16777216)),
          m128 h (x % 16777216) i,
          d128 h (x % 16777216),
          mm x j,
        ) refl

-- a number by its last digit and the others, of which some are taken away
s256 : (v t : ℕ) → t ≤ v / 256 → v % 256 % 256 + 256 * (v / 256 - t) ≡ v - 256 * t
s256 v t h = omega arith

s64 : (v t : ℕ) → t ≤ v / 64 → v % 64 % 64 + 64 * (v / 64 - t) ≡ v - 64 * t
s64 v t h = omega arith

t4 : (v : ℕ) → v % 4 % 4 + 4 * (v / 4) ≡ v
t4 v = omega arith

t2 : (v : ℕ) → v % 2 % 2 + 2 * (v / 2) ≡ v
t2 v = omega arith

t128 : (v : ℕ) → v % 128 % 128 + 128 * (v / 128) ≡ v
t128 v = omega arith

-- what stands above the fields still to come
above : (e : ℕ) → e < 17179869184 → e % 4 % 4 + 4 * (e / 4 % 2 % 2 + 2 * (e / 4 / 2 % 128 % 128 + 128 * (e / 4 / 2 / 128 % 16777216 % 16777216))) ≡ e
above e h = rw (mm (e / 4 / 2 / 128) (omega arith), t128 (e / 4 / 2), t2 (e / 4), t4 e) refl

fewer : (d w : ℕ) → w ≤ d % 256 → w % 256 + 256 * (d / 256) ≡ d - (d % 256 - w)
fewer d w h = omega arith

-- the next field is one bit less
pub past_by : (v r w : ℕ) → v < 18446744073709551616 → r ≡ (frame_in v).rem → w ≡ without r → w ≤ r → v - 4194304 * (r - w) ≡ packed_frame (past (frame_in v)) (next_in v)
unfolding packed_frame past noting
past_by v r w h d e l =
    let f : w ≡ without (v / 64 / 256 / 256 % 256) = e ∙ ap without d in
    let g : w ≤ v / 64 / 256 / 256 % 256 = omega arith in
    let t : ℕ = v / 64 / 256 / 256 % 256 - w in
    rw (← f, above (v / 64 / 256 / 256 / 256) (omega arith), fewer (v / 64 / 256 / 256) w g, s256 (v / 64 / 256) t (omega arith), s256 (v / 64) (256 * t) (omega arith), s64 v (256 * (256 * t)) (omega arith)) (omega arith)

pub unpacks : (v : ℕ) → Small (frame_in v) (next_in v)
unpacks v = record { kind = omega arith; map = omega arith; note = omega arith; how = omega arith; seen = omega arith; rem = omega arith; list = omega arith; next = omega arith }

-- a number that is a packed frame
pub unpacked : (v : ℕ) (f : Frame) (x : ℕ) → v ≡ packed_frame f x → Small f x → open_in v ≡ record { frame = f; next = x }
unpacked v f x e w = ap open_in e ∙ packs f x w

opens_kept : (st : List ℕ) (n m v : ℕ) → n ≤ m → opens_in (set st m v) n ≡ opens_in st n
unfolding opens_in
opens_kept st zero m v h = refl
opens_kept st (suc n) m v h = ap (λ (x : ℕ). open_in x ∷ opens_in (set st m v) n) (get_or-set_other st m n v 0 (λ e. absurd (omega arith))) ∙ ap (λ (l : List Open). open_in (get_or st n 0) ∷ l) (opens_kept st n m v (omega arith))

pub pushed : (st : List ℕ) (n v : ℕ) → n < length st → opens_in (set st n v) (n + 1) ≡ open_in v ∷ opens_in st n
unfolding opens_in
pushed st n v h =
    ap (opens_in (set st n v)) (add-one n)
    ∙ ap (λ (x : ℕ). open_in x ∷ opens_in (set st n v) n) (get_or-set_same st n v 0 h)
    ∙ ap (λ (l : List Open). open_in v ∷ l) (opens_kept st n n v (omega arith))

pub popped : (st : List ℕ) (n : ℕ) → 0 < n → opens_in st n ≡ open_in (get_or st (n - 1) 0) ∷ opens_in st (n - 1)
unfolding opens_in
popped st zero h = absurd (omega arith)
popped st (suc n) h = let e : n ≡ suc n - 1 = omega arith in ap (λ (m : ℕ). open_in (get_or st m 0) ∷ opens_in st m) e

-- ---- quasis

module _ (tree starts : List ℕ) where
  pub held_length : (n : ℕ) → length (held_in tree starts n) ≡ n
  unfolding held_in
  held_length zero = refl
  held_length (suc n) = length-append (held_in tree starts n) (cell_in_of tree (get_or starts n 0) ∷ []) ∙ (let e : length (held_in tree starts n) ≡ n = held_length n in omega arith)

  held_at : (n i : ℕ) → i < n → get_or (held_in tree starts n) i stop ≡ cell_in_of tree (get_or starts i 0)
  unfolding held_in
  held_at zero i h = absurd (omega arith)
  held_at (suc n) i h = elim (dec_lt i n) [
    | yes g ↦ get_or-append (held_in tree starts n) (cell_in_of tree (get_or starts n 0) ∷ []) stop i (omega (arith, held_length n)) ∙ held_at n i g
    | no g ↦ let z : i ≡ n = omega arith in
        ap (λ (j : ℕ). get_or (held_in tree starts n ++ (cell_in_of tree (get_or starts n 0) ∷ [])) j stop) (z ∙ sym (held_length n) ∙ (let y : length (held_in tree starts n) ≡ length (held_in tree starts n) + 0 = omega arith in y))
        ∙ get_or-append-add (held_in tree starts n) (cell_in_of tree (get_or starts n 0) ∷ []) 0 stop
        ∙ ap (λ (j : ℕ). cell_in_of tree (get_or starts j 0)) (sym z)
  ]

  held_past : (n i : ℕ) → n ≤ i → get_or (held_in tree starts n) i stop ≡ stop
  held_past n i h = get_or-eq_default (held_in tree starts n) stop {n = i} (omega (arith, held_length n))

-- the quasi at a place, by where it starts
pub start_none : (starts : List ℕ) (count next : ℕ) → next ≡ 0 → 0 ≡ start_of starts count next
start_none starts count zero e = refl
start_none starts count (suc i) e = absurd (omega arith)

pub start_some : (starts : List ℕ) (count next : ℕ) → (next ≡ 0 → ⊥) → next ≤ count → get_or starts (next - 1) 0 ≡ start_of starts count next
start_some starts count zero n h = absurd (n refl)
start_some starts count (suc i) n h = rw (lt-ltb i count (omega arith)) (let e : suc i - 1 ≡ i = omega arith in ap (λ (j : ℕ). get_or starts j 0) e)

pub start_past : (starts : List ℕ) (count next : ℕ) → (next ≡ 0 → ⊥) → count < next → 0 ≡ start_of starts count next
start_past starts count zero n h = absurd (n refl)
start_past starts count (suc i) n h = rw (le-ltb i count (omega arith))

pub counted_none : (o : Option ℕ) → is_some o ≡ false → counted o ≡ 0
counted_none None e = refl
counted_none (Some p) e = never (sym e)

pub counted_some : (o : Option ℕ) → is_some o ≡ true → counted o ≡ 0 → ⊥
counted_some None e z = never e
counted_some (Some p) e z = absurd (omega (arith, z))

cell_by : (tree : List ℕ) (s : ℕ) → s ≡ 0 → cell_in_of tree s ≡ stop
cell_by tree zero e = refl
cell_by tree (suc s) e = absurd (omega arith)

cell_some : (tree : List ℕ) (s : ℕ) → (s ≡ 0 → ⊥) → cell_in_of tree s ≡ quasi (text_at_of tree (s - 1))
cell_some tree zero e = absurd (e refl)
cell_some tree (suc s) e = let z : s ≡ suc s - 1 = omega arith in ap (λ (j : ℕ). quasi (text_at_of tree j)) z

module _ (tree starts : List ℕ) (count : ℕ) where
  cell_at_lem : (next : ℕ) → cell_at (held_in tree starts count) next ≡ cell_in_of tree (start_of starts count next)
  cell_at_lem zero = refl
  cell_at_lem (suc i) = elim (dec_lt i count) [
    | yes h ↦ held_at tree starts count i h ∙ rw (lt-ltb i count h) refl
    | no h ↦ held_past tree starts count i (omega arith) ∙ rw (le-ltb i count (omega arith)) refl
  ]

  pub quasi_none : (next : ℕ) → start_of starts count next ≡ 0 → cell_text (cell_at (held_in tree starts count) next) ≡ []
  quasi_none next e = ap cell_text (cell_at_lem next ∙ cell_by tree (start_of starts count next) e)

  pub quasi_some : (next s : ℕ) → s ≡ start_of starts count next → (s ≡ 0 → ⊥) → cell_text (cell_at (held_in tree starts count) next) ≡ text_at_of tree (s - 1)
  quasi_some next s e z = ap cell_text (cell_at_lem next ∙ ap (cell_in_of tree) (sym e) ∙ cell_some tree s z)

  pub over_none : (next : ℕ) → start_of starts count next ≡ 0 → step_over (cell_at (held_in tree starts count) next) next ≡ next
  over_none next e = ap (λ (c : Cell). step_over c next) (cell_at_lem next ∙ cell_by tree (start_of starts count next) e)

  pub over_some : (next : ℕ) → (start_of starts count next ≡ 0 → ⊥) → step_over (cell_at (held_in tree starts count) next) next ≡ next + 1
  over_some next z = ap (λ (c : Cell). step_over c next) (cell_at_lem next ∙ cell_some tree (start_of starts count next) z) ∙ sym (add-one next)

  pub past_none : (next : ℕ) → count < next → start_of starts count next ≡ 0
  past_none zero h = refl
  past_none (suc i) h = rw (le-ltb i count (omega arith)) refl

  -- the quasi after it has a small place too
  pub over_small : (next : ℕ) → count < 65536 → next < 16777216 → step_over (cell_at (held_in tree starts count) next) next < 16777216
  over_small next h g = elim (dec_lt count next) [
    | yes l ↦ rw (over_none next (past_none next l)) g
    | no l ↦ go (omega arith) (cell_at (held_in tree starts count) next)
  ]
    where
      go : next ≤ count → (c : Cell) → step_over c next < 16777216
      go l (quasi bs) = omega arith
      go l stop = g

  -- all that are left from i on
  pub left_stop : (b : Buffer) (i : ℕ) → i < count → get_or starts i 0 ≡ 0 → b ≡ write b (left_over_of (drop i (held_in tree starts count)))
  unfolding left_over_of write
  left_stop b i h e =
      let d : drop i (held_in tree starts count) ≡ stop ∷ drop (suc i) (held_in tree starts count) =
      drop-cons (held_in tree starts count) i stop (omega (arith, held_length tree starts count))
      ∙ ap (λ (c : Cell). c ∷ drop (suc i) (held_in tree starts count)) (held_at tree starts count i h ∙ cell_by tree (get_or starts i 0) e) in
      ap (λ (l : List Cell). write b (left_over_of l)) (sym d)

  pub left_one : (b : Buffer) (i : ℕ) → i < count → (get_or starts i 0 ≡ 0 → ⊥) → write (write b (text_at_of tree (get_or starts i 0 - 1))) (left_over_of (drop (i + 1) (held_in tree starts count))) ≡ write b (left_over_of (drop i (held_in tree starts count)))
  unfolding left_over_of
  left_one b i h z =
      let d : drop i (held_in tree starts count) ≡ quasi (text_at_of tree (get_or starts i 0 - 1)) ∷ drop (i + 1) (held_in tree starts count) =
      drop-cons (held_in tree starts count) i stop (omega (arith, held_length tree starts count))
      ∙ ap (λ (c : Cell). c ∷ drop (suc i) (held_in tree starts count)) (held_at tree starts count i h ∙ cell_some tree (get_or starts i 0) z)
      ∙ ap (λ (j : ℕ). quasi (text_at_of tree (get_or starts i 0 - 1)) ∷ drop j (held_in tree starts count)) (sym (add-one i)) in
      sym (write_append b (text_at_of tree (get_or starts i 0 - 1)) (left_over_of (drop (i + 1) (held_in tree starts count))))
      ∙ ap (λ (l : List Cell). write b (left_over_of l)) (sym d)

  pub left_end : (b : Buffer) (i : ℕ) → count ≤ i → b ≡ write b (left_over_of (drop i (held_in tree starts count)))
  unfolding left_over_of write
  left_end b i h = ap (λ (l : List Cell). write b (left_over_of l)) (sym (drop_of_length-le (held_in tree starts count) {i = i} (omega (arith, held_length tree starts count))))

pub cells_some : (held : List Cell) (x : ℕ) → (x ≡ 0 → ⊥) → cells_from held x ≡ drop (x - 1) held
cells_some held zero n = absurd (n refl)
cells_some held (suc x) n = let e : x ≡ suc x - 1 = omega arith in ap (λ (j : ℕ). drop j held) e

-- six pieces, one after the other
pub six : (b : Buffer) (u v w x y z : List ℕ) → write (write (write (write (write (write b u) v) w) x) y) z ≡ write b (u ++ (v ++ (w ++ (x ++ (y ++ z)))))
six b u v w x y z =
    sym (write_append (write (write (write (write b u) v) w) x) y z)
    ∙ sym (write_append (write (write (write b u) v) w) x (y ++ z))
    ∙ sym (write_append (write (write b u) v) w (x ++ (y ++ z)))
    ∙ sym (write_append (write b u) v (w ++ (x ++ (y ++ z))))
    ∙ sym (write_append b u (v ++ (w ++ (x ++ (y ++ z)))))
