use Rattle.sink.proofs.WaysOut as law
use Rattle.sink.proofs.Sink.entry.Goals as goal

pub returns-then-filled-lt16381 : goal.returns-then-filled-lt16381
returns-then-filled-lt16381 c = λ t w. law.entry_in _ _ _ _ _ c.one_more.ensures c.if-filled-lt16381.true c.write_entry_at.ensures

pub returns : goal.returns
returns c = λ t w. law.entry_over _ _ _ _ c.one_more.ensures c.if-filled-lt16381.false
