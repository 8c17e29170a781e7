use Rattle.joining.proofs.BytesWritten as law
use Rattle.joining.proofs.write.declaration.Goals as goal

pub returns : goal.returns
returns c = law.declared_put _ _ _ _ _ _ _ _ _ _ _ _ _ _ _ c.put-a.ensures c.put-b.ensures c.put_wide-c.ensures c.put-d.ensures c.copy.ensures
