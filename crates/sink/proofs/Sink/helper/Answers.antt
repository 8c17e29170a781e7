use Rattle.sink.proofs.WaysOut as law
use Rattle.sink.proofs.Sink.helper.Goals as goal

pub returns : goal.returns
returns c = λ l w. law.helper_is _ _ _ _ _ c.with-self.ensures (c.put2.ensures l w) (c.put.ensures l w)
