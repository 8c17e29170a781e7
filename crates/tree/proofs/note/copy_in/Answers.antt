use Rattle.tree.proofs.Noting as law
use Rattle.tree.proofs.note.copy_in.Goals as goal

pub returns-then-tree-room : goal.returns-then-tree-room
returns-then-tree-room c = law.copy_done _ _ _ c.if-tree-room.true c.copy_over.ensures

pub returns-else-tree-room : goal.returns-else-tree-room
returns-else-tree-room c = law.copy_none _ _ c.if-tree-room.false
