use mathlib.Core.Path.{sym}
use Rattle.sink.proofs.WaysOut as law
use lib.Seq.{set_out}
use Rattle.sink.proofs.list.write_at.Goals as goal

pub returns-then-filled-list : goal.returns-then-filled-list
returns-then-filled-list c = law.part_set _ _ _ _ c.if-filled-list.true c.write_byte.ensures

pub returns-else-filled-list : goal.returns-else-filled-list
returns-else-filled-list c = sym (set_out _ _ _ c.if-filled-list.false)
