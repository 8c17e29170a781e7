use Rattle.printer.proofs.PiecesWritten as law
use Rattle.printer.proofs.out.end_of.Goals as goal

pub returns-then-tree-at : goal.returns-then-tree-at
returns-then-tree-at c = law.end_past _ _ _ c.if-tree-at.true

pub returns-then-n-tree : goal.returns-then-n-tree
returns-then-n-tree c = law.end_within _ _ _ c.if-tree-at.false c.if-n-tree.true

pub returns : goal.returns
returns c = law.end_whole _ _ _ c.if-tree-at.false c.if-n-tree.false
