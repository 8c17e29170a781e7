-- What follows of std's orders, of numbers and of texts.
-- Assumes nothing.
use mathlib.Core.Path.{◌≡◌, refl, sym, ap, ap₂, subst, ◌∙◌}
use mathlib.Core.List.{List, [], ◌∷◌}
use Prim.Native.Nat.{ℕ, zero, suc, ◌<◌}
use lib.IntN.{ℤ, pos, negsuc}
use native.Mathlib.Omega.{arith}
use Rattle.std.specs.Cmp.{IsTotalOrder}
use Rattle.std.specs.declared.cmp.Ordering.{Ordering}
use Rattle.std.specs.declared.cmp.Ordering.TheVariants.{Less, Equal, Greater}
use Rattle.std.proofs.lemmas.Cmp.{ranked, by_ranked, alike_right, on_total, lists_total}
use Rattle.ordering.specs.Verdicts.{or_else, by_value, by_text, lexical, number_of}

-- ---- verdicts

abbrev pub code : Ordering → ℕ
code Less = 0
code Equal = 1
code Greater = 2

pub less_not_equal : Less ≡ Equal → ⊥
less_not_equal e = let z : code Less ≡ code Equal = ap code e in omega arith

pub greater_not_equal : Greater ≡ Equal → ⊥
greater_not_equal e = let z : code Greater ≡ code Equal = ap code e in omega arith

pub greater_not_less : Greater ≡ Less → ⊥
greater_not_less e = let z : code Greater ≡ code Less = ap code e in omega arith

pub or_nothing : (v : Ordering) → or_else v Equal ≡ v
or_nothing Less = refl
or_nothing Equal = refl
or_nothing Greater = refl

pub or_or : (u v w : Ordering) → or_else (or_else u v) w ≡ or_else u (or_else v w)
or_or Less v w = refl
or_or Equal v w = refl
or_or Greater v w = refl

-- no two have the same number
verdict_by : ℤ → Ordering
verdict_by (pos zero) = Equal
verdict_by (pos (suc n)) = Greater
verdict_by (negsuc n) = Less

by_number : (v : Ordering) → verdict_by (number_of v) ≡ v
unfolding verdict_by
by_number Less = refl
by_number Equal = refl
by_number Greater = refl

pub verdict_is : (v w : Ordering) → number_of v ≡ number_of w → v ≡ w
verdict_is v w e = sym (by_number v) ∙ ap verdict_by e ∙ by_number w

pub both_equal : (v w : Ordering) → or_else v w ≡ Equal → (v ≡ Equal) × (w ≡ Equal)
both_equal Less w e = absurd (less_not_equal e)
both_equal Equal w e = (refl, e)
both_equal Greater w e = absurd (greater_not_equal e)

-- ---- orders

-- lists of what is ordered, item by item
pub lists_order : {A : Type 0} (c : A → A → Ordering) → IsTotalOrder c → IsTotalOrder (lexical c)
lists_order c o = lists_total o

-- what is compared by its image, or equals a comparison at each pair
pub image_orders : {A : Type 0} (c : A → A → Ordering) (o : IsTotalOrder c) {B : Type 0} (f : B → A) (d : B → B → Ordering) → ((x y : B) → d x y ≡ c (f x) (f y)) → IsTotalOrder d
image_orders c o f d h = subst IsTotalOrder (λ i x y. sym (h x y) i) (on_total f o)

module _ {A : Type 0} {c : A → A → Ordering} (o : IsTotalOrder c) where
  pub less_then_equal : (a b d : A) → c a b ≡ Less → c b d ≡ Equal → c a d ≡ Less
  less_then_equal a b d l e = sym (alike_right o b d a e) ∙ l

  pub equal_then_less : (a b d : A) → c a b ≡ Equal → c b d ≡ Less → c a d ≡ Less
  equal_then_less a b d e l = o.congr a b d e ∙ l

  pub equal_then_equal : (a b d : A) → c a b ≡ Equal → c b d ≡ Equal → c a d ≡ Equal
  equal_then_equal a b d e f = o.congr a b d e ∙ f

-- ---- numbers and texts

pub value_same : (a b : ℕ) → by_value a b ≡ Equal → a ≡ b
value_same a b e =
    by_ranked (a < b) (a ≡ b) (b < a) (by_value a b) (ranked a b (by_value a b) refl)
    (λ w _. absurd (less_not_equal (sym w ∙ e)))
    (λ _ h. h)
    (λ w _. absurd (greater_not_equal (sym w ∙ e)))

pub text_same : (bs cs : List ℕ) → by_text bs cs ≡ Equal → bs ≡ cs
text_same [] [] e = refl
text_same [] (c ∷ cs) e = absurd (less_not_equal e)
text_same (b ∷ bs) [] e = absurd (greater_not_equal e)
text_same (b ∷ bs) (c ∷ cs) e =
    let w : (by_value b c ≡ Equal) × (by_text bs cs ≡ Equal) = both_equal (by_value b c) (by_text bs cs) e in
    ap₂ ◌∷◌ (value_same b c w.0) (text_same bs cs w.1)
