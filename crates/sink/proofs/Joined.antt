-- Runs of events one after the other: their helpers, and their cells.
-- Assumes nothing.
use mathlib.Core.Path.{◌≡◌, refl, ap, ◌∙◌}
use mathlib.Core.Bool.{Bool, true, false, ◌||◌}
use mathlib.Core.List.{List, [], ◌∷◌, ◌++◌}
use Prim.Native.Nat.{ℕ}
use Rattle.sink.specs.Shown.{Named, CellsOk, is_helper, uses_helper}

or_assoc : (a b c : Bool) → a || (b || c) ≡ (a || b) || c
or_assoc true b c = refl
or_assoc false b c = refl

module _ {A : Type 0} where
  pub helper_joined : (k : ℕ) (x y : List (Named A)) → uses_helper k (x ++ y) ≡ uses_helper k x || uses_helper k y
  unfolding uses_helper
  helper_joined k [] y = refl
  helper_joined k (e ∷ x) y = ap (λ (b : Bool). is_helper k e || b) (helper_joined k x y) ∙ or_assoc (is_helper k e) (uses_helper k x) (uses_helper k y)

  pub cells_joined : (x y : List (Named A)) → CellsOk x → CellsOk y → CellsOk (x ++ y)
  cells_joined [] y p q = q
  cells_joined (e ∷ x) y p q = (p.0, cells_joined x y p.1 q)
