use Rattle.sink.proofs.Sink.put.Goals as goal

pub returns : goal.returns
returns c = λ l w. c.put_at.ensures c.args.self l w
