-- An answer with the number and the values of what the definition gives is that answer: one case for each.
-- Assumes nothing.
use mathlib.Core.Path.{◌≡◌, refl, ap, ap₂}
use mathlib.Core.List.{◌∷◌, []}
use Prim.Native.Nat.{ℕ}
use native.Mathlib.Omega.{arith}
use Rattle.std.proofs.Common.{Result, Ok, Err}
use Rattle.tree.specs.Read.{Got, number_of}
use Rattle.tree.specs.Read as spec
use Rattle.tree.specs.Read.Got.{got, refused}
use Rattle.tree.specs.Answer.{Answers, refusal_number}
use Rattle.tree.specs.declared.read.Reading.{Reading}
use Rattle.tree.specs.declared.read.Refusal.{Refusal}
use Rattle.tree.specs.declared.read.Refusal.TheVariants.{NotATree, TooDeep}

abbrev pub read_to : ℕ → ℕ → Result Reading Refusal
read_to q k = Ok (record { end = q; mark = k })

-- what is read to is read to one position
pub end_same : {q k p j : ℕ} → read_to q k ≡ read_to p j → q ≡ p
end_same {q = q} {k = k} {p = p} {j = j} e =
    let x : ◌≡◌ {A = Reading} (record { end = q; mark = k }) (record { end = p; mark = j }) = cc in
    ap (λ (z : Reading). z.end) x

abbrev pub refusal_of : spec.Refusal → Refusal
refusal_of spec.Refusal.not_a_tree = NotATree
refusal_of spec.Refusal.too_deep = TooDeep

unfoldable pub answer : {A : Type 0} → Got A → Result Reading Refusal
answer (got a q k) = read_to q k
answer (refused n) = Err (refusal_of n)

number_same : (n : spec.Refusal) → refusal_number (refusal_of n) ≡ number_of n
number_same spec.Refusal.not_a_tree = refl
number_same spec.Refusal.too_deep = refl

refusal_same : (e : Refusal) (n : spec.Refusal) → refusal_number e ≡ number_of n → e ≡ refusal_of n
refusal_same NotATree spec.Refusal.not_a_tree h = refl
refusal_same NotATree spec.Refusal.too_deep h = absurd (omega arith)
refusal_same TooDeep spec.Refusal.not_a_tree h = absurd (omega arith)
refusal_same TooDeep spec.Refusal.too_deep h = refl

module _ {A : Type 0} where
  pub answers_by : (r : Result Reading Refusal) (g : Got A) → r ≡ answer g → Answers r g
  unfolding answer
  answers_by r (got a q k) e = rw e (record { number = refl; values = refl })
  answers_by r (refused n) e = rw e (record { number = number_same n; values = refl })

  pub answer_is : (r : Result Reading Refusal) (g : Got A) → Answers r g → r ≡ answer g
  unfolding answer
  answer_is (Ok x) (got a q k) h =
      let e : x.end ∷ x.mark ∷ [] ≡ q ∷ k ∷ [] = h.values in
      let y : x.end ≡ q = cc in
      let z : x.mark ≡ k = cc in
      ap₂ read_to y z
  answer_is (Ok x) (refused n) h =
      let e : x.end ∷ x.mark ∷ [] ≡ [] = h.values in
      let w : ◌≡◌ {A = ℕ} 0 1 = cc in
      absurd (omega arith)
  answer_is (Err m) (got a q k) h =
      let e : [] ≡ q ∷ k ∷ [] = h.values in
      let w : ◌≡◌ {A = ℕ} 0 1 = cc in
      absurd (omega arith)
  answer_is (Err m) (refused n) h = ap Err (refusal_same m n h.number)
