use Rattle.sink.proofs.WaysOut as law
use Rattle.sink.proofs.Sink.put2.Goals as goal

pub returns : goal.returns
returns c = λ l w. law.put_two _ _ _ _ _ (c.put.ensures l w) (c.put-2.ensures l w)
