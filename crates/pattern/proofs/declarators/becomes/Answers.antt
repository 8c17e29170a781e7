use Rattle.pattern.proofs.DeclaratorsCounted as law
use Rattle.pattern.proofs.declarators.becomes.Goals as goal

pub returns-then-is_name : goal.returns-then-is_name
returns-then-is_name c = law.becomes_named _ _ _ _ c.is_lowered.ensures c.if-is_lowered.true _ _ _ _ c.child-p.ensures c.pattern_declarators-n.ensures c.child-init.ensures c.is_name.ensures c.if-is_name.true

pub returns-then-is_lowered : goal.returns-then-is_lowered
returns-then-is_lowered c = law.becomes_other _ _ _ _ c.is_lowered.ensures c.if-is_lowered.true _ _ _ _ c.child-p.ensures c.pattern_declarators-n.ensures c.child-init.ensures c.is_name.ensures _ c.if-is_name.false c.plus.ensures

pub returns : goal.returns
returns c = law.kept_one _ _ _ _ c.is_lowered.ensures c.if-is_lowered.false
