-- What a text of the tree prints, case by case.
-- Assumes nothing.
use mathlib.Core.Path.{◌≡◌, refl, sym, ap, ◌∙◌}
use mathlib.Core.Bool.{Bool, true, false}
use mathlib.Core.List.{List, [], ◌∷◌}
use Prim.Native.Nat.{ℕ, zero, suc, ◌/◌, ◌%◌, ◌<◌, ◌≤◌}
use native.Mathlib.Omega.{arith}
use native.Mathlib.Decide.{dec_lt}
use lib.Dec.{leb, eqb}
use lib.ListN.{length, get_or, take, drop, drop_of_length-le}
use lib.Seq.{drop-cons, take-nil}
use borrow.Author.Tests.{eq-eqb, ne_eqb, le-leb, lt-leb}
use Rattle.printer.specs.Names.{bare, in_quotes}
use Rattle.printer.specs.Places.{field_in, literal_text, member_quoted, member_name, key_name, spelled}
use Rattle.printer.specs.Stacks.{is_empty, Buffer, put, write}
use Rattle.printer.specs.declared.frame.Frame.{Frame}
use Rattle.printer.proofs.PiecesWritten.{write_append}

not_both : (b : Bool) → b ≡ true → b ≡ false → ⊥
not_both true t f = let z : ◌≡◌ {A = ℕ} 0 1 = cc in omega arith
not_both false t f = let z : ◌≡◌ {A = ℕ} 0 1 = cc in omega arith

pub empty_none : (l : List ℕ) (n : ℕ) → n ≡ 0 → true ≡ is_empty (take n l)
empty_none l zero e = refl
empty_none l (suc n) e = absurd (omega arith)

some_taken : (n x : ℕ) (l : List ℕ) → (n ≡ 0 → ⊥) → false ≡ is_empty (take n (x ∷ l))
some_taken zero x l z = absurd (z refl)
some_taken (suc n) x l z = refl

pub empty_by : (l : List ℕ) (at n : ℕ) → (n ≡ 0 → ⊥) → leb (length l) at ≡ is_empty (take n (drop at l))
empty_by l at n z = elim (dec_lt at (length l)) [
  | yes h ↦ lt-leb (length l) at h ∙ some_taken n (get_or l at 0) (drop (suc at) l) z ∙ ap (λ (r : List ℕ). is_empty (take n r)) (sym (drop-cons l at 0 h))
  | no h ↦ le-leb (length l) at (omega arith) ∙ ap is_empty (sym (ap (take n) (drop_of_length-le l {i = at} (omega arith)) ∙ take-nil n))
]

-- ---- a Literal

module _ (f : Frame) where
  pub literal_seen : (bs : List ℕ) → 0 < f.seen → literal_text f bs ≡ []
  unfolding literal_text
  literal_seen [] h = rw (ne_eqb f.seen 0 (λ e. absurd (omega arith))) refl
  literal_seen (b ∷ bs) h = rw (ne_eqb f.seen 0 (λ e. absurd (omega arith))) refl

  module _ (z : f.seen ≤ 0) where
    zero_seen : eqb f.seen 0 ≡ true
    zero_seen = eq-eqb f.seen 0 (omega arith)

    pub literal_form : (bs : List ℕ) → (field_in f ≡ 1 → ⊥) → literal_text f bs ≡ in_quotes bs
    unfolding literal_text
    literal_form [] n = rw (zero_seen, ne_eqb (field_in f) 1 n) refl
    literal_form (b ∷ bs) n = rw (zero_seen, ne_eqb (field_in f) 1 n) refl

    pub literal_spelled : (bs : List ℕ) → field_in f ≡ 1 → is_empty bs ≡ false → literal_text f bs ≡ bs
    unfolding literal_text
    literal_spelled [] n e = absurd (not_both true refl e)
    literal_spelled (b ∷ bs) n e = rw (zero_seen, eq-eqb (field_in f) 1 n) refl

    pub literal_alone : (bs : List ℕ) → field_in f ≡ 1 → is_empty bs ≡ true → f.map / 4 % 2 ≡ 0 → literal_text f bs ≡ in_quotes bs
    unfolding literal_text
    literal_alone [] n e m = rw (zero_seen, eq-eqb (field_in f) 1 n, eq-eqb (f.map / 4 % 2) 0 m) refl
    literal_alone (b ∷ bs) n e m = absurd (not_both false e refl)

    pub literal_none : (bs : List ℕ) → field_in f ≡ 1 → is_empty bs ≡ true → (f.map / 4 % 2 ≡ 0 → ⊥) → literal_text f bs ≡ []
    unfolding literal_text
    literal_none [] n e m = rw (zero_seen, eq-eqb (field_in f) 1 n, ne_eqb (f.map / 4 % 2) 0 m) refl
    literal_none (b ∷ bs) n e m = absurd (not_both false e refl)

  pub spelled_empty : (bs : List ℕ) → is_empty bs ≡ true → f.seen ≡ spelled f bs
  unfolding spelled
  spelled_empty [] e = refl
  spelled_empty (b ∷ bs) e = absurd (not_both false e refl)

  pub spelled_first : (bs : List ℕ) → is_empty bs ≡ false → f.kind ≡ 22 → f.seen ≡ 0 → 1 ≡ spelled f bs
  unfolding spelled
  spelled_first [] e k s = absurd (not_both true refl e)
  spelled_first (b ∷ bs) e k s = rw (eq-eqb f.kind 22 k, eq-eqb f.seen 0 s) refl

  pub spelled_again : (bs : List ℕ) → f.kind ≡ 22 → (f.seen ≡ 0 → ⊥) → f.seen ≡ spelled f bs
  unfolding spelled
  spelled_again [] k s = refl
  spelled_again (b ∷ bs) k s = rw (eq-eqb f.kind 22 k, ne_eqb f.seen 0 s) refl

  pub spelled_other : (bs : List ℕ) → (f.kind ≡ 22 → ⊥) → f.seen ≡ spelled f bs
  unfolding spelled
  spelled_other [] k = refl
  spelled_other (b ∷ bs) k = rw (ne_eqb f.kind 22 k) refl

-- ---- names

module _ (b : Buffer) (bs : List ℕ) where
  pub member_quoted_lem : put (write (put b 91) (in_quotes bs)) 93 ≡ write b (member_quoted bs)
  unfolding write
  member_quoted_lem = sym (write_append (put b 91) (in_quotes bs) (93 ∷ []))

  pub member_bare : bare bs ≡ true → write (put b 46) bs ≡ write b (member_name bs)
  unfolding member_name write
  member_bare e = rw e refl

  pub member_other : bare bs ≡ false → write b (member_quoted bs) ≡ write b (member_name bs)
  unfolding member_name
  member_other e = rw e refl

  pub key_bare : bare bs ≡ true → write b bs ≡ write b (key_name bs)
  unfolding key_name
  key_bare e = rw e refl

  pub key_other : bare bs ≡ false → write b (in_quotes bs) ≡ write b (key_name bs)
  unfolding key_name
  key_other e = rw e refl
