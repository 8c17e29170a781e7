use mathlib.Core.Bool.{false}
use Rattle.tree.specs.Look.{look_node}
use native.Mathlib.Omega.{arith}
use mathlib.Core.Path.{refl, ◌∙◌}
use Rattle.tree.proofs.Skipping as skipping
use Rattle.walk.proofs.TurnsLeft.{none_gone, one_gone}
use Rattle.walk.proofs.LiteralHeads as law
use Rattle.walk.proofs.literal.after.Goals as goal

pub loop-init : goal.loop-init
loop-init c = (rw none_gone refl, rw none_gone refl)

pub loop-preserved : goal.loop-preserved
loop-preserved c = (
  rw one_gone (skipping.items_more _ (look_node _ _) false _ _ _ (omega (arith, c.loop-test.true)) (law.next_item _ (look_node _ _) _ _ c.skip-p.ensures)) ∙ c.loop.invariant.0,
  rw one_gone (law.mode_more _ (look_node _ _) _ _ _ _ _ (omega (arith, c.loop-test.true)) c.mode_next-m.ensures c.skip-p.ensures) ∙ c.loop.invariant.1,
)

pub returns : goal.returns
returns c = (
  skipping.items_end _ (look_node _ _) false _ _ (omega (arith, c.loop-test.false)) ∙ c.loop.invariant.0,
  law.mode_end _ (look_node _ _) _ _ _ (omega (arith, c.loop-test.false)) ∙ c.loop.invariant.1,
)
