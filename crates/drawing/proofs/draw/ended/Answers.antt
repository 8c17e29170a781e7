use Rattle.std.proofs.Common.{arith, le-leb}
use borrow.Author.Tests.{lt-leb}
use Rattle.drawing.specs.Draw.{ends}
use Rattle.drawing.proofs.draw.ended.Goals as goal

pub returns-then-left-le1 : goal.returns-then-left-le1
unfolding ends
returns-then-left-le1 c = rw (le-leb c.args.left 1 (omega arith))

pub returns-else-left-le1 : goal.returns-else-left-le1
unfolding ends
returns-else-left-le1 c = rw (lt-leb c.args.left 1 (omega arith))
