use mathlib.Core.Path.{sym, ◌∙◌}
use mathlib.Core.Bool.{false≢true}
use Rattle.walk.proofs.Lookups as law
use Rattle.walk.proofs.look.hoisted.Goals.{then-not-root, else-not-root}
use Rattle.walk.proofs.look.hoisted.Goals as goal

pub returns-then-not-has_no_properties : goal.returns-then-not-has_no_properties
returns-then-not-has_no_properties c = elim c.if-not-root.branch [
  | then-not-root w ↦ law.hoisted_all _ _ _ _ w.if-not-root.true w.has_no_properties.ensures (law.not_yes _ _ w.value-is c.if-not-has_no_properties.true) c.all_primitive.ensures
  | else-not-root w ↦ absurd (false≢true (sym (law.not_yes _ _ w.value-is c.if-not-has_no_properties.true) ∙ w.if-not-root.false))
]

pub returns-else-not-has_no_properties : goal.returns-else-not-has_no_properties
returns-else-not-has_no_properties c = c.if-not-has_no_properties.false ∙ elim c.if-not-root.branch [
  | then-not-root w ↦ law.hoisted_none _ _ _ w.if-not-root.true w.has_no_properties.ensures (law.not_no _ _ w.value-is c.if-not-has_no_properties.false)
  | else-not-root w ↦ law.hoisted_root _ _ w.if-not-root.false
]
