use Rattle.sink.proofs.WaysOut as law
use Rattle.sink.proofs.Sink.temporary.Goals as goal

pub returns : goal.returns
returns c = law.temporary_is _ _ _ _ _ _ _ _ _ (c.number-n.ensures _ _) (c.settled-k.ensures _) c.low.ensures c.high.ensures (c.put4.ensures _ _) (c.put.ensures _ _)
