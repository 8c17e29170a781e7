use Rattle.drawing.proofs.DrawingWritten as law
use Rattle.std.proofs.Common.{sym, ◌∙◌}
use Rattle.drawing.proofs.draw.choose.Goals as goal

pub returns-then-n-lt2 : goal.returns-then-n-lt2
returns-then-n-lt2 c = law.choose_lone _ _ _ _ _ _ c.count-n.ensures c.if-n-lt2.true c.kind-kind.ensures

pub returns-then-ended : goal.returns-then-ended
returns-then-ended c = law.choose_shortest _ _ _ _ _ _ c.count-n.ensures c.if-n-lt2.false (sym c.if-ended.true ∙ c.ended.ensures) c.shortest_kind-kind.ensures

pub returns : goal.returns
returns c = law.choose_drawn _ _ _ _ _ _ c.count-n.ensures _ c.if-n-lt2.false (sym c.if-ended.false ∙ c.ended.ensures) c.advanced-state.ensures c.kind-kind-2.ensures
