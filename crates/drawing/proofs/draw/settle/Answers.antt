use Rattle.drawing.proofs.DrawingWritten as law
use Rattle.std.proofs.Common.{sym, ◌∙◌}
use Rattle.drawing.proofs.draw.settle.Goals as goal

pub returns-then-digit-eq0 : goal.returns-then-digit-eq0
returns-then-digit-eq0 c = law.settle_must _ _ _ _ c.if-digit-eq0.true

pub returns-then-ended : goal.returns-then-ended
returns-then-ended c = law.settle_cut _ _ _ _ c.if-digit-eq0.false (sym c.if-ended.true ∙ c.ended.ensures)

pub returns : goal.returns
returns c = law.settle_drawn _ _ _ _ _ c.if-digit-eq0.false (sym c.if-ended.false ∙ c.ended.ensures) c.advanced-state.ensures
