use Rattle.sink.proofs.WaysOut as law
use Rattle.sink.proofs.Sink.excluded.Goals as goal

pub returns-then-at-lt16384 : goal.returns-then-at-lt16384
returns-then-at-lt16384 c = λ t l. law.excluded_in_lem _ _ _ c.if-at-lt16384.true c.put_byte.ensures

pub returns : goal.returns
returns c = λ t l. law.excluded_over _ _ c.if-at-lt16384.false
