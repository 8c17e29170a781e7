use mathlib.Core.Path.{refl, ◌∙◌}
use Rattle.walk.proofs.Emits as law
use Rattle.walk.proofs.place.parts_of.Goals.{then-c, else-c}
use Rattle.walk.proofs.place.parts_of.Goals as goal

pub returns : goal.returns
returns c = ((λ at fs. law.below_is _ at _ fs _ _ _ _ c.opens_scope-opens.ensures (elim c.if-c.branch [ then-c w ↦ w.result-is ∙ rw w.if-c.true refl | else-c w ↦ w.result-is ∙ rw w.if-c.false refl ]) c.whole.ensures), refl)
