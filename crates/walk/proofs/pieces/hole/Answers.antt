use mathlib.Core.Path.{◌∙◌}
use Rattle.walk.proofs.SourcesRead as law
use Rattle.walk.proofs.pieces.hole.Goals as goal

pub returns-then-writes_holes : goal.returns-then-writes_holes
returns-then-writes_holes c = (c.copy.ensures.1 ∙ c.step-q.ensures, λ l k. law.hole_written _ _ _ _ _ c.writes_holes.ensures c.if-writes_holes.true c.step-q.ensures (c.copy.ensures.0 l k))

pub returns : goal.returns
returns c = (c.to.ensures.1 ∙ c.step-q.ensures, λ l k. law.hole_passed _ _ _ _ c.writes_holes.ensures c.if-writes_holes.false (c.to.ensures.0 _ l k))
