-- The string that is promised for a number is bytes; what holds of it and of a form holds of the text of a literal.
-- Assumes nothing.
use mathlib.Core.Path.{◌≡◌, refl}
use mathlib.Core.List.{List, [], ◌∷◌, ◌++◌}
use mathlib.Core.Option.{Option, none, some}
use Prim.Native.Nat.{ℕ, zero, suc, ◌+◌, ◌/◌, ◌%◌, ◌<◌}
use native.Mathlib.Omega.{arith}
use lib.Dec.{eqb, ltb}
use borrow.Author.Tests.{ltb-true}
use Rattle.tree.specs.Tree.{Node}
use Rattle.tree.specs.WellFormed.{Bytes}
use Rattle.lowering.specs.Parts.{text_at_of, number_at}
use Rattle.lowering.specs.Numbers.{Spelling, value_from, spelling_of, digits_up_to, digits_of, string_of, number_string, highest_number}
use Rattle.lowering.specs.Numbers.Spelling.{decimal, hexadecimal, another}
use Rattle.lowering.specs.Keys.{promised, literal_text}
use Rattle.lowering.proofs.Cases.{by_test}

-- ---- digits

bytes_append : (a b : List ℕ) → Bytes a → Bytes b → Bytes (a ++ b)
unfolding Bytes
bytes_append [] b h k = k
bytes_append (x ∷ a) b h k = (h.0, bytes_append a b h.1 k)

digit_byte : (n : ℕ) → n < 10 → Bytes ((48 + n) ∷ [])
unfolding Bytes
digit_byte n h = (omega arith, tt)

digits_bytes : (most n : ℕ) → Bytes (digits_up_to most n)
unfolding digits_up_to Bytes
digits_bytes zero n = tt
digits_bytes (suc most) n =
    by_test (ltb n 10)
    (λ e. rw (e, digits_up_to) (digit_byte n (ltb-true n 10 e)))
    (λ e. rw (e, digits_up_to) (bytes_append (digits_up_to most (n / 10)) ((48 + n % 10) ∷ []) (digits_bytes most (n / 10)) (digit_byte (n % 10) (omega arith))))

-- ---- strings that are promised

abbrev ByteString : Option (List ℕ) → Type 0
ByteString none = Unit {0}
ByteString (some s) = Bytes s

value_bytes : (v : ℕ) → ByteString (string_of v)
unfolding string_of digits_of
value_bytes v = by_test (ltb highest_number v) (λ e. rw (e, ByteString) tt) (λ e. rw (e, ByteString) (digits_bytes (suc v) v))

spelling_bytes : (bs : List ℕ) → ByteString (number_string bs)
unfolding number_string
spelling_bytes bs = go (spelling_of bs)
  where
    go : (x : Spelling) → ByteString (elim x [ decimal ds ↦ string_of (value_from 10 0 ds) | hexadecimal ds ↦ string_of (value_from 16 0 ds) | another ↦ none ])
    go (decimal ds) = value_bytes (value_from 10 0 ds)
    go (hexadecimal ds) = value_bytes (value_from 16 0 ds)
    go another = tt

pub number_bytes_lem : (w s : List ℕ) → number_string w ≡ some s → Bytes s
number_bytes_lem w s e = rw e at (spelling_bytes w)

-- ---- the text of a literal: what holds of the string, if one is promised, and of its form, holds of it

module _ (H : List ℕ → Type 0) where
  abbrev Given : Option (List ℕ) → Type 0
  Given none = Unit {0}
  Given (some s) = H s

  given : (x : Option (List ℕ)) → ((s : List ℕ) → x ≡ some s → H s) → Given x
  given none f = tt
  given (some s) f = f s refl

  promised_given : (k : Node) → ((s : List ℕ) → number_string (text_at_of 1 k) ≡ some s → H s) → Given (promised k)
  unfolding promised
  promised_given k f = by_test (eqb (number_at 0 k) 2) (λ e. rw (e, Given) (given (number_string (text_at_of 1 k)) f)) (λ e. rw (e, Given) tt)

  pub literal_holds : (k : Node) → ((s : List ℕ) → number_string (text_at_of 1 k) ≡ some s → H s) → H (text_at_of 2 k) → H (literal_text k)
  unfolding literal_text
  literal_holds k f h = go (promised k) (promised_given k f)
    where
      go : (x : Option (List ℕ)) → Given x → H (elim x [ some s ↦ s | none ↦ text_at_of 2 k ])
      go (some s) b = b
      go none b = h
