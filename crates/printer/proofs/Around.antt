-- What the last arms of manners are.
-- Assumes nothing.
use mathlib.Core.Path.{◌≡◌, refl}
use mathlib.Core.List.{[], ◌∷◌}
use Prim.Native.Nat.{ℕ, zero, suc, ◌+◌, ◌*◌, ◌<◌}
use native.Mathlib.Omega.{arith}
use lib.ListN.{get_or}

pub none_more : (a : ℕ) → a ≡ 0 + a
none_more a = omega arith

-- none of 6, 7 and 8
pub no_joining : (a b m : ℕ) → (m ≡ 6 → ⊥) → (m ≡ 7 → ⊥) → (m ≡ 8 → ⊥) → 0 ≡ get_or (0 ∷ 0 ∷ 0 ∷ 0 ∷ 0 ∷ 0 ∷ 74 ∷ a ∷ b ∷ []) m 0
no_joining a b zero p q r = refl
no_joining a b (suc zero) p q r = refl
no_joining a b (suc (suc zero)) p q r = refl
no_joining a b (suc (suc (suc zero))) p q r = refl
no_joining a b (suc (suc (suc (suc zero)))) p q r = refl
no_joining a b (suc (suc (suc (suc (suc zero))))) p q r = refl
no_joining a b (suc (suc (suc (suc (suc (suc zero)))))) p q r = absurd (p refl)
no_joining a b (suc (suc (suc (suc (suc (suc (suc zero))))))) p q r = absurd (q refl)
no_joining a b (suc (suc (suc (suc (suc (suc (suc (suc zero)))))))) p q r = absurd (r refl)
no_joining a b (suc (suc (suc (suc (suc (suc (suc (suc (suc m))))))))) p q r = refl

-- none of 1 to 7
pub no_trailing : (a b m : ℕ) → (m ≡ 1 → ⊥) → (m ≡ 2 → ⊥) → (m ≡ 3 → ⊥) → (m ≡ 4 → ⊥) → (m ≡ 5 → ⊥) → (m ≡ 6 → ⊥) → (m ≡ 7 → ⊥) → 50 ≡ get_or (50 ∷ 52 ∷ 54 ∷ 56 ∷ 58 ∷ a ∷ 62 ∷ b ∷ []) m 50
no_trailing a b zero p q r s t u v = refl
no_trailing a b (suc zero) p q r s t u v = absurd (p refl)
no_trailing a b (suc (suc zero)) p q r s t u v = absurd (q refl)
no_trailing a b (suc (suc (suc zero))) p q r s t u v = absurd (r refl)
no_trailing a b (suc (suc (suc (suc zero)))) p q r s t u v = absurd (s refl)
no_trailing a b (suc (suc (suc (suc (suc zero))))) p q r s t u v = absurd (t refl)
no_trailing a b (suc (suc (suc (suc (suc (suc zero)))))) p q r s t u v = absurd (u refl)
no_trailing a b (suc (suc (suc (suc (suc (suc (suc zero))))))) p q r s t u v = absurd (v refl)
no_trailing a b (suc (suc (suc (suc (suc (suc (suc (suc m)))))))) p q r s t u v = refl

-- up to 4 each is two more
pub trailing_by : (a b m : ℕ) → m < 5 → 50 + 2 * m ≡ get_or (50 ∷ 52 ∷ 54 ∷ 56 ∷ 58 ∷ a ∷ 62 ∷ b ∷ []) m 50
trailing_by a b zero h = refl
trailing_by a b (suc zero) h = refl
trailing_by a b (suc (suc zero)) h = refl
trailing_by a b (suc (suc (suc zero))) h = refl
trailing_by a b (suc (suc (suc (suc zero)))) h = refl
trailing_by a b (suc (suc (suc (suc (suc m))))) h = absurd (omega arith)
