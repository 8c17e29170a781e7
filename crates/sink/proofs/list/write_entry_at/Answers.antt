use Rattle.sink.proofs.WaysOut as law
use Rattle.sink.proofs.list.write_entry_at.Goals as goal

pub returns-then-filled-list : goal.returns-then-filled-list
returns-then-filled-list c = law.part_entry _ _ _ _ _ c.if-filled-list.true c.write_entry.ensures

pub returns-else-filled-list : goal.returns-else-filled-list
returns-else-filled-list c = law.entry_out _ _ _ _ c.if-filled-list.false
