use Rattle.sink.proofs.WaysOut as law
use Rattle.sink.proofs.list.write_entry.Goals as goal

pub returns : goal.returns
returns c = law.entry_written _ _ _ _ _ c.put_wide.ensures c.put_wide-2.ensures
