-- src/skip.rt:52:9
-- src/skip.rt:48:1
use Rattle.tree.proofs.Skipping as law
use Rattle.tree.proofs.skip.skip.Goals as goal

pub returns-then-left-eq0 : goal.returns-then-left-eq0
returns-then-left-eq0 c = law.node_none _ _ _ c.if-left-eq0.true

pub returns : goal.returns
returns c = law.node_noted _ _ _ _ c.if-left-eq0.false c.note_at.ensures
