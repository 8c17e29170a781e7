use Rattle.tree.proofs.Noting as law
use Rattle.tree.proofs.note.word.Goals as goal

pub returns-then-loud : goal.returns-then-loud
returns-then-loud c = law.word_loud _ _ c.if-loud.true

pub returns-else-loud : goal.returns-else-loud
returns-else-loud c = law.word_quiet _ _ c.if-loud.false
