use Rattle.sink.proofs.Sink.put_wide.Goals as goal

pub returns : goal.returns
returns c = λ l w. cc (c.low.ensures, c.high.ensures, c.put2.ensures l w)
