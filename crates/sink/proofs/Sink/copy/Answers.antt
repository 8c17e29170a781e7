use Rattle.std.proofs.Common.{refl}
use Rattle.sink.specs.Machine.{puts}
use Rattle.sink.specs.Machine.Event.{put}
use Rattle.sink.proofs.WaysOut as law
use Rattle.sink.proofs.Sink.copy.Goals as goal

pub loop-b-init : goal.loop-b-init
loop-b-init c = λ x w. refl

pub loop-b-preserved : goal.loop-b-preserved
loop-b-preserved c = λ x w. law.run_more puts put law.puts_none law.puts_more _ _ _ _ _ c.loop-b-test.true (c.put-self.ensures x w) (c.loop-b.invariant x w)

pub returns-then-has_room : goal.returns-then-has_room
returns-then-has_room c = λ x w. rw (← c.part-bytes.ensures) (c.copy_whole.ensures c.args.self x w)

pub returns-after-loop-b : goal.returns-after-loop-b
returns-after-loop-b c = λ x w. rw (← c.part-bytes.ensures) (law.run_end puts put law.puts_none law.puts_more _ _ _ _ c.loop-b-test.false (c.loop-b.invariant x w))
