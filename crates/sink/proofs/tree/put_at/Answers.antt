use Rattle.sink.specs.Machine.{with_tree, state_of}
use Rattle.sink.proofs.WaysOut as law
use Rattle.sink.proofs.tree.put_at.Goals as goal

pub returns-then-at-lt32768 : goal.returns-then-at-lt32768
returns-then-at-lt32768 c = λ k l w. law.put_in (state_of _ l w (with_tree k _)) _ _ c.if-at-lt32768.true c.put_byte.ensures

pub returns : goal.returns
returns c = λ k l w. law.put_over (state_of _ l w (with_tree k _)) _ c.if-at-lt32768.false
