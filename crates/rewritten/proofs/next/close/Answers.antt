use Rattle.rewritten.specs.Steps.{step_closed}
use Rattle.rewritten.proofs.Moves.{step_by, close_some}
use mathlib.Core.Path.{ap, sym, ◌∙◌}
use mathlib.Core.Bool.{true, false}
use Rattle.rewritten.proofs.next.close.Goals as goal

pub returns-then-deep-eq0 : goal.returns-then-deep-eq0
returns-then-deep-eq0 c = step_by (ap (λ x. step_closed c.args.frames.now c.args.at x c.args.node) (sym c.if-deep-eq0.true))

pub returns-then-node : goal.returns-then-node
returns-then-node c = step_by (close_some c.args.frames.now c.args.frames.now _ _ _ true c.if-deep-eq0.false c.frame_at-top.ensures ∙ ap (λ x. step_closed c.args.frames.now c.args.at c.args.deep x) (sym c.if-node.true))

pub returns-else-node : goal.returns-else-node
returns-else-node c = step_by (close_some c.args.frames.now c.args.frames.now _ _ _ false c.if-deep-eq0.false c.frame_at-top.ensures ∙ ap (λ x. step_closed c.args.frames.now c.args.at c.args.deep x) (sym c.if-node.false))
