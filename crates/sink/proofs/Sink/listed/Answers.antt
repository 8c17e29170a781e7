use Rattle.sink.proofs.WaysOut as law
use Rattle.sink.proofs.Sink.listed.Goals as goal

pub returns-then-filled-lt16384 : goal.returns-then-filled-lt16384
returns-then-filled-lt16384 c = λ t w. law.listed_in _ _ _ c.if-filled-lt16384.true c.write_at.ensures

pub returns : goal.returns
returns c = λ t w. law.listed_over _ _ c.if-filled-lt16384.false
