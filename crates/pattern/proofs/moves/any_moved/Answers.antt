use mathlib.Core.Path.{◌∙◌}
use Rattle.pattern.proofs.MovesCounted as law
use Rattle.pattern.proofs.Searches as search
use Rattle.lowering.specs.Heads.{is_moved}
use Rattle.pattern.proofs.moves.any_moved.Goals as goal

pub returns-then-left-eq0 : goal.returns-then-left-eq0
returns-then-left-eq0 c = law.any_none _ _ _ _ c.if-left-eq0.true

pub loop-init : goal.loop-init
loop-init c = law.any_start _ _ _ _ _ c.list-run.ensures

pub returns-then-is_moved : goal.returns-then-is_moved
returns-then-is_moved c = search.item_found _ is_moved (law.moved_empty c.args.tree.now) _ _ _ _ _ _ _ c.loop-test.true c.item-e.ensures c.is_moved.ensures c.if-is_moved.true ∙ c.loop.invariant

pub loop-preserved : goal.loop-preserved
loop-preserved c = search.item_next _ is_moved (law.moved_empty c.args.tree.now) _ _ _ _ _ _ _ c.loop-test.true c.item-e.ensures c.is_moved.ensures _ c.if-is_moved.false c.skip_item-p.ensures ∙ c.loop.invariant

pub returns : goal.returns
returns c = search.any_end _ is_moved _ _ _ _ _ c.loop-test.false ∙ c.loop.invariant
