use Rattle.sink.proofs.WaysOut as law
use Rattle.sink.proofs.Sink.closed.Goals as goal

pub returns-then-keys-lt16385 : goal.returns-then-keys-lt16385
returns-then-keys-lt16385 c = λ t. law.closed_in _ _ _ _ c.if-keys-lt16385.true c.put_wide.ensures (c.listed_wide.ensures t _) (c.listed_copy.ensures t _)

pub returns : goal.returns
returns c = λ t. law.closed_over _ c.if-keys-lt16385.false
