use Rattle.joining.proofs.BytesWritten as law
use Rattle.joining.proofs.write.copy.Goals as goal

pub loop-i-preserved : goal.loop-i-preserved
loop-i-preserved c = law.copying_next _ _ _ _ _ _ _ _ _ c.loop-i.invariant c.min-i-end.ensures c.loop-i-test.true _ _ c.put-p.ensures

pub returns : goal.returns
returns c = law.copying_ends _ _ _ _ _ _ _ _ _ c.loop-i.invariant c.min-i-end.ensures c.loop-i-test.false
