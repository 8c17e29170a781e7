use mathlib.Core.Path.{refl, ap, ◌∙◌}
use Rattle.pattern.proofs.KeyCases as law
use Rattle.pattern.specs.Tally.{both}
use Rattle.pattern.proofs.keys.with_key.Goals as goal

pub returns-then-has_static_key : goal.returns-then-has_static_key
returns-then-has_static_key c = law.static_more _ _ _ _ _ _ c.plus.ensures refl refl refl refl refl (c.has_static_key.ensures c.if-has_static_key.true)

pub returns : goal.returns
returns c e = c.both.ensures ∙ ap (both _) c.item_keys.ensures
