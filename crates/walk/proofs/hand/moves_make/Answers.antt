use mathlib.Core.Path.{refl, ◌∙◌}
use native.Mathlib.Omega.{arith}
use Rattle.walk.proofs.TurnsLeft.{none_gone, one_gone}
use Rattle.walk.proofs.Running.{does_as}
use Rattle.walk.proofs.HandMoves as law
use Rattle.walk.proofs.Hands as hands
use Rattle.walk.proofs.hand.moves_make.Goals as goal

pub loop-init : goal.loop-init
loop-init c = (refl, refl, λ o l g a. rw none_gone (hands.left_start _ _ _ _ _ _ _ _ g a))

pub loop-preserved : goal.loop-preserved
loop-preserved c = (
  omega (arith, c.loop.invariant.0, c.move_makes-u.auto.work),
  c.move_makes-u.ensures.0 ∙ c.loop.invariant.1,
  λ o l g a. rw one_gone (hands.solid_more _ _ _ _ _ _ _ _ _ (omega (arith, c.loop-test.true)) c.skip-p.ensures (c.loop.invariant.2 o l g a) (λ x y. c.move_makes-u.ensures.1 o l x y)),
)

pub returns : goal.returns
returns c = (c.loop.invariant.1, λ o l g a. does_as (hands.left_end _ _ _ _ _ _ _ _ _ (omega (arith, c.loop-test.false)) (c.loop.invariant.2 o l g a)) (law.makes_turn _ _))
