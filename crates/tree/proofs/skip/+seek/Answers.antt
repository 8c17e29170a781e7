use mathlib.Core.Path.{◌∙◌}
use Rattle.tree.proofs.Skipping as law
use Rattle.tree.proofs.skip.+seek.Goals as goal

pub returns-then-row-eq0 : goal.returns-then-row-eq0
returns-then-row-eq0 t c = law.seek_none _ _ _ _ _ _ c.if-row-eq0.true

pub returns-then-map-eq0 : goal.returns-then-map-eq0
returns-then-map-eq0 t c = law.seek_absent _ _ _ _ _ _ c.if-row-eq0.false c.if-i-eq0.true c.if-map-eq0.true

pub returns-else-map-eq0 : goal.returns-else-map-eq0
returns-else-map-eq0 t c = law.seek_here _ _ _ _ _ _ c.if-row-eq0.false c.if-i-eq0.true c.if-map-eq0.false

pub returns : goal.returns
returns t c = c.seek.ensures ∙ law.seek_past _ _ _ _ _ _ c.if-row-eq0.false _ c.if-i-eq0.false c.skip_slot-next.ensures
