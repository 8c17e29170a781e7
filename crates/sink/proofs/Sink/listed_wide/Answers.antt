use Rattle.sink.proofs.Sink.listed_wide.Goals as goal

pub returns : goal.returns
returns c = λ t w. cc (c.low.ensures, c.high.ensures, c.listed2.ensures t w)
