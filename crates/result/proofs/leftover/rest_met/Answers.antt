use Rattle.rewritten.specs.declared.step.Event.TheVariants.{Begins, Ends, Opens, Closes, Hole, Text, Byte, Mark, Number}
use Rattle.rewritten.specs.declared.step.Event as told
use Rattle.rewritten.specs.Steps.{event_in}
use Rattle.std.proofs.Common.{◌≡◌, ℕ, List, false, refl, sym, ap, ◌∙◌}
use Rattle.result.specs.Leftover.{rest_met}
use Rattle.result.proofs.leftover.rest_met.Goals as goal

pub returns-in-Begins : goal.returns-in-Begins
unfolding rest_met
returns-in-Begins c = λ tree. c.is_rested.ensures ∙ sym (ap (λ (x : told.Event). rest_met (event_in tree x)) c.in-Begins.is)

other : (tree : List ℕ) (e : told.Event) → ((at kind map : ℕ) → e ≡ Begins at kind map → ⊥) → false ≡ rest_met (event_in tree e)
unfolding rest_met
other tree (Begins at kind map) absent = absurd (absent at kind map refl)
other tree Ends absent = refl
other tree (Opens n) absent = refl
other tree Closes absent = refl
other tree Hole absent = refl
other tree (Text at n) absent = refl
other tree (Byte b) absent = refl
other tree (Mark n) absent = refl
other tree (Number n) absent = refl

pub returns-in_default : goal.returns-in_default
returns-in_default c = λ tree. other tree _ c.in_default.not-Begins
