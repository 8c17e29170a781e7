use Rattle.tree.proofs.Skipping as law
use mathlib.Core.Path.{◌∙◌}
use Rattle.tree.proofs.skip.skip_items.Goals as goal

pub loop-preserved : goal.loop-preserved
loop-preserved c = law.items_next _ _ _ _ _ _ _ c.loop-test.true c.skip_item-end.ensures ∙ c.loop.invariant

pub returns : goal.returns
returns c = law.items_done _ _ _ _ _ _ c.loop-test.false ∙ c.loop.invariant
