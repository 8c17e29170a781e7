use Rattle.std.proofs.Common.{refl}
use Rattle.sink.specs.Machine.{excludes}
use Rattle.sink.specs.Machine.Event.{excluded}
use Rattle.sink.proofs.WaysOut as law
use Rattle.sink.proofs.Sink.excluded_copy.Goals as goal

pub loop-b-init : goal.loop-b-init
loop-b-init c = λ t x. refl

pub loop-b-preserved : goal.loop-b-preserved
loop-b-preserved c = λ t x. law.run_more excludes excluded law.excludes_none law.excludes_more _ _ _ _ _ c.loop-b-test.true (c.excluded-self.ensures t x) (c.loop-b.invariant t x)

pub returns : goal.returns
returns c = λ t x. rw (← c.part-b-items.ensures) (law.run_end excludes excluded law.excludes_none law.excludes_more _ _ _ _ c.loop-b-test.false (c.loop-b.invariant t x))
