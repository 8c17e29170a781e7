use Rattle.joining.proofs.BytesWritten as law
use Rattle.joining.proofs.write.Source.head.Goals as goal

pub returns-then-wide_at-eq0 : goal.returns-then-wide_at-eq0
returns-then-wide_at-eq0 c = law.head_plain _ _ _ _ _ _ _ _ c.copy-a.ensures _ _ _ c.wide_at.ensures.value c.at.ensures.0 c.wide_at-2.ensures.value c.if-wide_at-eq0.true _ _ c.put_wide-at.ensures

pub returns : goal.returns
returns c = law.head_const _ _ _ _ _ _ _ _ c.copy-a.ensures _ _ _ c.wide_at.ensures.value c.at.ensures.0 c.wide_at-2.ensures.value c.if-wide_at-eq0.false _ _ _ c.put_wide-b.ensures c.fresh-mark.ensures _ _ c.declaration-at.ensures
