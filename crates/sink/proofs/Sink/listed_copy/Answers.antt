use Rattle.std.proofs.Common.{refl}
use Rattle.sink.specs.Machine.{lists}
use Rattle.sink.specs.Machine.Event.{listed}
use Rattle.sink.proofs.WaysOut as law
use Rattle.sink.proofs.Sink.listed_copy.Goals as goal

pub loop-b-init : goal.loop-b-init
loop-b-init c = λ t w. refl

pub loop-b-preserved : goal.loop-b-preserved
loop-b-preserved c = λ t w. law.run_more lists listed law.lists_none law.lists_more _ _ _ _ _ c.loop-b-test.true (c.listed-self.ensures t w) (c.loop-b.invariant t w)

pub returns : goal.returns
returns c = λ t w. rw (← c.part-b-items.ensures) (law.run_end lists listed law.lists_none law.lists_more _ _ _ _ c.loop-b-test.false (c.loop-b.invariant t w))
