use mathlib.Core.Path.{refl, ◌∙◌}
use native.Mathlib.Omega.{arith}
use Rattle.walk.proofs.TurnsLeft.{none_gone, one_gone}
use Rattle.walk.proofs.Opened.{kind_byte}
use Rattle.walk.proofs.Hands as law
use Rattle.walk.proofs.hand.declarators.Goals as goal

pub loop-init : goal.loop-init
loop-init c = (refl, refl, refl, λ o g a. rw none_gone (law.left_start _ _ _ _ _ _ _ _ g a))

pub loop-preserved : goal.loop-preserved
loop-preserved c = (
  omega (arith, c.loop.invariant.0, c.declarator-u.auto.list),
  omega (arith, c.loop.invariant.1, c.declarator-u.auto.work),
  c.declarator-u.ensures.0 ∙ c.loop.invariant.2,
  λ o g a. rw one_gone (law.solid_more _ _ _ _ _ _ _ _ _ (omega (arith, c.loop-test.true)) c.skip-p.ensures (c.loop.invariant.3 o g a) (λ x y. c.declarator-u.ensures.1 o x (kind_byte _ _ _ _ x y))),
)

pub returns : goal.returns
returns c = (c.loop.invariant.2, λ o g a. law.left_end _ _ _ _ _ _ _ _ _ (omega (arith, c.loop-test.false)) (c.loop.invariant.3 o g a))
