use Rattle.pattern.proofs.DeclaratorsCounted as law
use Rattle.pattern.proofs.declarators.refusal.Goals as goal

pub returns-then-is_lowered : goal.returns-then-is_lowered
returns-then-is_lowered c = law.refuses_yes _ _ _ _ c.is_lowered.ensures c.if-is_lowered.true _ _ c.child-p.ensures c.refusal_below.ensures

pub returns : goal.returns
returns c = law.refuses_no _ _ _ _ c.is_lowered.ensures c.if-is_lowered.false
