use Rattle.walk.proofs.HandKeys as law
use Rattle.walk.proofs.hand.each_key.Goals as goal

pub returns : goal.returns
returns c = (c.keys_in.ensures.0, λ o. law.keys_do _ _ _ _ _ _ _ c.less.ensures c.step-q.ensures c.step.ensures c.wide_at.ensures _ (c.keys_in.ensures.1 o))
