use Rattle.tree.specs.Look.{look_node}
use native.Mathlib.Omega.{arith}
use mathlib.Core.Path.{◌≡◌, ◌∙◌}
use Rattle.walk.proofs.TurnsLeft.{none_gone, one_gone}
use Rattle.walk.proofs.LiteralHeads as law
use Rattle.walk.proofs.literal.run_of.Goals as goal

pub loop-k-init : goal.loop-k-init
loop-k-init c = rw none_gone (omega arith)

pub returns-then-is_spread : goal.returns-then-is_spread
returns-then-is_spread c = law.run_stops _ (look_node _ _) _ _ _ _ (omega (arith, c.loop-k-test.true)) c.is_spread.ensures c.if-is_spread.true ∙ c.loop-k.invariant

pub loop-k-preserved : goal.loop-k-preserved
loop-k-preserved c = rw one_gone (law.run_more _ (look_node _ _) _ _ _ _ _ (omega (arith, c.loop-k-test.true)) c.is_spread.ensures c.if-is_spread.false c.skip-p.ensures ∙ c.loop-k.invariant)

pub returns : goal.returns
returns c =
    let whole : c.args.count ≡ c.loop-k.k = omega (arith, c.loop-k-test.false, c.loop-k.auto.k-end) in
    whole ∙ law.run_end _ (look_node _ _) _ _ _ (omega (arith, c.loop-k-test.false)) ∙ c.loop-k.invariant
