-- The numbers of the first pass: what each tells, that one more leaves those before it, and that a byte is put into a node's entry.
-- Assumes nothing.
use mathlib.Core.Path.{◌≡◌, refl, sym, ap, ap₂, ◌∙◌}
use mathlib.Core.List.{List, [], ◌∷◌, ◌++◌}
use Prim.Native.Nat.{ℕ, zero, suc, ◌+◌, ◌/◌, ◌%◌, ◌<◌, ◌≤◌}
use native.Mathlib.Omega.{arith}
use native.Mathlib.Decide.{dec_lt}
use lib.ListN.{length, get_or, set, length-append}
use lib.Seq.{get_or-set_same, get_or-set_other}
use Rattle.rewritten.proofs.Marks.{by_same}
use Rattle.printer.specs.Entries.{Entry, with_byte, byte_at_place}
use Rattle.printer.specs.Logged.{entries_for, entries_in, entries_to, deep_by, deep_to, bytes_by, bytes_to, Allowed, Sound}
use Rattle.printer.specs.Met as met
use Rattle.printer.specs.Met.{number_of}

-- ---- a number by its parts

module _ (l : List ℕ) (code n note : ℕ) (a : code < 16) (b : n < 65536) (c : note < 256) where
  pub code_of : number_of code n note % 16 ≡ code
  code_of = omega arith

  pub above_of : number_of code n note / 16 % 65536 ≡ n
  above_of = omega arith

  byte_of : number_of code n note / 1048576 % 256 ≡ note
  byte_of = omega arith

  pub entries_of_lem : entries_in l (number_of code n note) ≡ entries_for l code n note
  unfolding entries_in
  entries_of_lem = rw (code_of, above_of, byte_of) refl

-- ---- one more

module _ (l log : List ℕ) (m v : ℕ) where
  number_kept : (i : ℕ) → i < m → get_or (set log m v) i 0 ≡ get_or log i 0
  number_kept i h = get_or-set_other log m i v 0 (λ e. absurd (omega arith))

  pub number_set : m < length log → get_or (set log m v) m 0 ≡ v
  number_set h = get_or-set_same log m v 0 h

  pub entries_kept : (n : ℕ) → n ≤ m → entries_to l (set log m v) n ≡ entries_to l log n
  unfolding entries_to
  entries_kept zero h = refl
  entries_kept (suc n) h = ap₂ (λ (es : List Entry) (x : ℕ). es ++ entries_in l x) (entries_kept n (omega arith)) (number_kept n (omega arith))

  pub entries_more : m < length log → entries_to l (set log m v) (suc m) ≡ entries_to l log m ++ entries_in l v
  unfolding entries_to
  entries_more h = ap₂ (λ (es : List Entry) (x : ℕ). es ++ entries_in l x) (entries_kept m (omega arith)) (number_set h)

  deep_kept : (n : ℕ) → n ≤ m → deep_to (set log m v) n ≡ deep_to log n
  unfolding deep_to
  deep_kept zero h = refl
  deep_kept (suc n) h = ap₂ (λ (d x : ℕ). deep_by (x % 16) d) (deep_kept n (omega arith)) (number_kept n (omega arith))

  pub deep_more : m < length log → deep_to (set log m v) (suc m) ≡ deep_by (v % 16) (deep_to log m)
  unfolding deep_to
  deep_more h = ap₂ (λ (d x : ℕ). deep_by (x % 16) d) (deep_kept m (omega arith)) (number_set h)

  bytes_kept : (n : ℕ) → n ≤ m → bytes_to (set log m v) n ≡ bytes_to log n
  unfolding bytes_to
  bytes_kept zero h = refl
  bytes_kept (suc n) h = ap₂ (λ (d x : ℕ). d + bytes_by (x % 16)) (bytes_kept n (omega arith)) (number_kept n (omega arith))

  pub bytes_more : m < length log → bytes_to (set log m v) (suc m) ≡ bytes_to log m + bytes_by (v % 16)
  unfolding bytes_to
  bytes_more h = ap₂ (λ (d x : ℕ). d + bytes_by (x % 16)) (bytes_kept m (omega arith)) (number_set h)

  sound_kept : (i : ℕ) → i < m → Sound log i → Sound (set log m v) i
  sound_kept i h s = record {
    allowed = rw (number_kept i h, deep_kept i (omega arith)) s.allowed;
    within = rw (bytes_kept (suc i) (omega arith)) s.within;
  }

  pub sound_more : m < length log → Allowed (v % 16) (v / 16 % 65536) (deep_to log m) → bytes_to log m + bytes_by (v % 16) ≤ 32768 → ((i : ℕ) → i < m → Sound log i) → (i : ℕ) → i < suc m → Sound (set log m v) i
  sound_more h a b s i g = elim (dec_lt i m) [
    | yes k ↦ sound_kept i k (s i k)
    | no k ↦ let e : i ≡ m = omega arith in rw e (record { allowed = rw (number_set h, deep_kept m (omega arith)) a; within = rw (bytes_more h) b })
  ]

-- ---- a byte

byte_first : ℕ → List Entry → List Entry
byte_first b [] = []
byte_first b (e ∷ es) = with_byte b e ∷ es

byte_parts : (l : List ℕ) (code n note b : ℕ) → entries_for l code n b ≡ byte_first b (entries_for l code n note)
unfolding entries_for byte_first
byte_parts l zero n note b = refl
byte_parts l (suc zero) n note b = refl
byte_parts l (suc (suc zero)) n note b = refl
byte_parts l (suc (suc (suc zero))) n note b = refl
byte_parts l (suc (suc (suc (suc zero)))) n note b = refl
byte_parts l (suc (suc (suc (suc (suc zero))))) n note b = refl
byte_parts l (suc (suc (suc (suc (suc (suc zero)))))) n note b = refl
byte_parts l (suc (suc (suc (suc (suc (suc (suc zero))))))) n note b = refl
byte_parts l (suc (suc (suc (suc (suc (suc (suc (suc zero)))))))) n note b = refl
byte_parts l (suc (suc (suc (suc (suc (suc (suc (suc (suc zero))))))))) n note b = refl
byte_parts l (suc (suc (suc (suc (suc (suc (suc (suc (suc (suc zero)))))))))) n note b = refl
byte_parts l (suc (suc (suc (suc (suc (suc (suc (suc (suc (suc (suc zero))))))))))) n note b = refl
byte_parts l (suc (suc (suc (suc (suc (suc (suc (suc (suc (suc (suc (suc zero)))))))))))) n note b = refl
byte_parts l (suc (suc (suc (suc (suc (suc (suc (suc (suc (suc (suc (suc (suc zero))))))))))))) n note b = refl
byte_parts l (suc (suc (suc (suc (suc (suc (suc (suc (suc (suc (suc (suc (suc (suc code)))))))))))))) n note b = refl

module _ (v b : ℕ) where
  byte_code : met.with_byte v b % 16 ≡ v % 16
  byte_code = omega arith

  byte_above : met.with_byte v b / 16 % 65536 ≡ v / 16 % 65536
  byte_above = omega arith

  byte_there : met.with_byte v b / 1048576 % 256 ≡ b % 256
  byte_there = omega arith

  byte_in_lem : (l : List ℕ) → b < 256 → entries_in l (met.with_byte v b) ≡ byte_first b (entries_in l v)
  unfolding entries_in
  byte_in_lem l h =
      let e : b % 256 ≡ b = omega arith in
      rw (byte_code, byte_above, byte_there, e) (byte_parts l (v % 16) (v / 16 % 65536) (v / 1048576 % 256) b)

byte_before : (a e : List Entry) (b : ℕ) → byte_at_place (a ++ e) (length a) b ≡ a ++ byte_first b e
unfolding byte_at_place byte_first
byte_before [] [] b = refl
byte_before [] (x ∷ e) b = refl
byte_before (y ∷ a) e b = ap (λ (l : List Entry). y ∷ l) (byte_before a e b)

byte_within : (a e : List Entry) (i b : ℕ) → i < length a → byte_at_place (a ++ e) i b ≡ byte_at_place a i b ++ e
unfolding byte_at_place
byte_within [] e i b h = absurd (omega arith)
byte_within (y ∷ a) e zero b h = refl
byte_within (y ∷ a) e (suc i) b h = ap (λ (l : List Entry). y ∷ l) (byte_within a e i b (omega arith))

first_length : (b : ℕ) (es : List Entry) → length (byte_first b es) ≡ length es
unfolding byte_first
first_length b [] = refl
first_length b (e ∷ es) = refl

-- each number has an entry
some_entry : (l : List ℕ) (code n note : ℕ) → 0 < length (entries_for l code n note)
unfolding entries_for
some_entry l zero n note = omega arith
some_entry l (suc zero) n note = omega arith
some_entry l (suc (suc zero)) n note = omega arith
some_entry l (suc (suc (suc zero))) n note = omega arith
some_entry l (suc (suc (suc (suc zero)))) n note = omega arith
some_entry l (suc (suc (suc (suc (suc zero))))) n note = omega arith
some_entry l (suc (suc (suc (suc (suc (suc zero)))))) n note = omega arith
some_entry l (suc (suc (suc (suc (suc (suc (suc zero))))))) n note = omega arith
some_entry l (suc (suc (suc (suc (suc (suc (suc (suc zero)))))))) n note = omega arith
some_entry l (suc (suc (suc (suc (suc (suc (suc (suc (suc zero))))))))) n note = omega arith
some_entry l (suc (suc (suc (suc (suc (suc (suc (suc (suc (suc zero)))))))))) n note = omega arith
some_entry l (suc (suc (suc (suc (suc (suc (suc (suc (suc (suc (suc zero))))))))))) n note = omega arith
some_entry l (suc (suc (suc (suc (suc (suc (suc (suc (suc (suc (suc (suc zero)))))))))))) n note = omega arith
some_entry l (suc (suc (suc (suc (suc (suc (suc (suc (suc (suc (suc (suc (suc zero))))))))))))) n note = omega arith
some_entry l (suc (suc (suc (suc (suc (suc (suc (suc (suc (suc (suc (suc (suc (suc code)))))))))))))) n note = omega arith

in_length : (l : List ℕ) (v : ℕ) → 0 < length (entries_in l v)
unfolding entries_in
in_length l v = some_entry l (v % 16) (v / 16 % 65536) (v / 1048576 % 256)

-- more numbers have more entries
longer : (l log : List ℕ) (n i : ℕ) → i < n → length (entries_to l log i) < length (entries_to l log n)
unfolding entries_to
longer l log zero i h = absurd (omega arith)
longer l log (suc n) i h = elim (dec_lt i n) [
  | yes k ↦ let r : length (entries_to l log i) < length (entries_to l log n) = longer l log n i k in omega (arith, length-append (entries_to l log n) (entries_in l (get_or log n 0)))
  | no k ↦ let e : i ≡ n = omega arith in rw e (omega (arith, length-append (entries_to l log n) (entries_in l (get_or log n 0)), in_length l (get_or log n 0)))
]

module _ (l log : List ℕ) (m b : ℕ) (inside : m < length log) (small : b < 256) where
  abbrev noted : List ℕ
  noted = set log m (met.with_byte (get_or log m 0) b)

  noted_same : get_or noted m 0 ≡ met.with_byte (get_or log m 0) b
  noted_same = get_or-set_same log m (met.with_byte (get_or log m 0) b) 0 inside

  noted_other : (i : ℕ) → (i ≡ m → ⊥) → get_or noted i 0 ≡ get_or log i 0
  noted_other i n = get_or-set_other log m i (met.with_byte (get_or log m 0) b) 0 n

  pub noted_entries : (n : ℕ) → m < n → entries_to l noted n ≡ byte_at_place (entries_to l log n) (length (entries_to l log m)) b
  unfolding entries_to
  noted_entries zero h = absurd (omega arith)
  noted_entries (suc n) h = elim (dec_lt m n) [
    | yes k ↦
        ap₂ (λ (es : List Entry) (x : ℕ). es ++ entries_in l x) (noted_entries n k) (noted_other n (λ e. absurd (omega arith)))
        ∙ sym (byte_within (entries_to l log n) (entries_in l (get_or log n 0)) (length (entries_to l log m)) b (longer l log n m k))
    | no k ↦
        let e : n ≡ m = omega arith in
        rw e
        (ap₂ (λ (es : List Entry) (x : ℕ). es ++ entries_in l x) (entries_kept l log m (met.with_byte (get_or log m 0) b) m (omega arith)) noted_same
        ∙ ap (λ (x : List Entry). entries_to l log m ++ x) (byte_in_lem (get_or log m 0) b l small)
        ∙ sym (byte_before (entries_to l log m) (entries_in l (get_or log m 0)) b))
  ]

  same_code : (i : ℕ) → get_or noted i 0 % 16 ≡ get_or log i 0 % 16
  same_code i = by_same i m
      (λ e. rw e (ap (λ (x : ℕ). x % 16) noted_same ∙ byte_code (get_or log m 0) b))
      (λ n. ap (λ (x : ℕ). x % 16) (noted_other i n))

  same_above : (i : ℕ) → get_or noted i 0 / 16 % 65536 ≡ get_or log i 0 / 16 % 65536
  same_above i = by_same i m
      (λ e. rw e (ap (λ (x : ℕ). x / 16 % 65536) noted_same ∙ byte_above (get_or log m 0) b))
      (λ n. ap (λ (x : ℕ). x / 16 % 65536) (noted_other i n))

  in_same : (i : ℕ) → length (entries_in l (get_or noted i 0)) ≡ length (entries_in l (get_or log i 0))
  in_same i = by_same i m
      (λ e. rw e (ap (λ (x : ℕ). length (entries_in l x)) noted_same ∙ ap length (byte_in_lem (get_or log m 0) b l small) ∙ first_length b (entries_in l (get_or log m 0))))
      (λ n. ap (λ (x : ℕ). length (entries_in l x)) (noted_other i n))

  pub noted_length : (n : ℕ) → length (entries_to l noted n) ≡ length (entries_to l log n)
  unfolding entries_to
  noted_length zero = refl
  noted_length (suc n) =
      length-append (entries_to l noted n) (entries_in l (get_or noted n 0))
      ∙ ap₂ (λ (x y : ℕ). x + y) (noted_length n) (in_same n)
      ∙ sym (length-append (entries_to l log n) (entries_in l (get_or log n 0)))

  pub noted_deep : (n : ℕ) → deep_to noted n ≡ deep_to log n
  unfolding deep_to
  noted_deep zero = refl
  noted_deep (suc n) = ap₂ (λ (x d : ℕ). deep_by x d) (same_code n) (noted_deep n)

  pub noted_bytes : (n : ℕ) → bytes_to noted n ≡ bytes_to log n
  unfolding bytes_to
  noted_bytes zero = refl
  noted_bytes (suc n) = ap₂ (λ (d x : ℕ). d + bytes_by x) (noted_bytes n) (same_code n)

  pub noted_sound : (i : ℕ) → Sound log i → Sound noted i
  noted_sound i s = record { allowed = rw (same_code i, same_above i, noted_deep i) s.allowed; within = rw (noted_bytes (suc i)) s.within }
