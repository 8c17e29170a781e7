use Rattle.sink.proofs.WaysOut as law
use Rattle.sink.proofs.Sink.new_mark.Goals as goal

pub returns : goal.returns
returns c = λ l w. law.mark_is _ _ _ c.one_more.ensures (c.put_wide.ensures l w)
