-- The marks of a tree as a pass meets them: by a list, and by a table with 1 at each mark that was met.
use Rattle.std.specs.Prelude.{ℕ, List, ◌∷◌, Bool, true, false, cond, eqb, get_or, set}
use Rattle.std.proofs.Math.Option.{Option, none, some}
use Rattle.tree.specs.Grammar.{among}
use Rattle.rewritten.specs.Events.{Event}
use Rattle.rewritten.specs.Events.Event.{begins, ends, opens, closes}

-- ---- by a list

-- the marks that were met, the last first; none where this one was met before
abbrev pub met_by : List ℕ → Event → Option (List ℕ)
met_by met (begins at kind map) = some met
met_by met ends = some met
met_by met (opens n) = some met
met_by met closes = some met
met_by met Event.hole = some met
met_by met (Event.text bs) = some met
met_by met (Event.byte b) = some met
met_by met (Event.mark n) = cond (among met n) none (some (n ∷ met))
met_by met (Event.number n) = some met

-- a mark that stands twice is not forgotten
unfoldable pub meet : Option (List ℕ) → Event → Option (List ℕ)
meet none e = none
meet (some met) e = met_by met e

abbrev pub is_some : {A : Type 0} → Option A → Bool
is_some none = false
is_some (some a) = true

-- ---- by a table

unfoldable pub new_in : List ℕ → Event → Bool
new_in seen (begins at kind map) = true
new_in seen ends = true
new_in seen (opens n) = true
new_in seen closes = true
new_in seen Event.hole = true
new_in seen (Event.text bs) = true
new_in seen (Event.byte b) = true
new_in seen (Event.mark n) = eqb (get_or seen n 0) 0
new_in seen (Event.number n) = true

unfoldable pub noted : List ℕ → Event → List ℕ
noted seen (begins at kind map) = seen
noted seen ends = seen
noted seen (opens n) = seen
noted seen closes = seen
noted seen Event.hole = seen
noted seen (Event.text bs) = seen
noted seen (Event.byte b) = seen
noted seen (Event.mark n) = set seen n 1
noted seen (Event.number n) = seen
