use Rattle.sink.proofs.Sink.excluded_wide.Goals as goal

pub returns : goal.returns
returns c = λ t l. cc (c.low.ensures, c.high.ensures, c.excluded2.ensures t l)
