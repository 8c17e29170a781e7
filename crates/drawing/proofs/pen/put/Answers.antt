use Rattle.drawing.proofs.DrawingWritten as law
use Rattle.drawing.proofs.pen.put.Goals as goal

pub returns-then-at-out : goal.returns-then-at-out
returns-then-at-out c = law.put_in c.args.out.now c.args.at c.args.b c.if-at-out.true

pub returns-then-at-out-2 : goal.returns-then-at-out-2
returns-then-at-out-2 c = law.put_end c.args.out.now c.args.at c.args.b c.if-at-out-2.true

pub returns-else-at-out-2 : goal.returns-else-at-out-2
returns-else-at-out-2 c = law.put_over c.args.out.now c.args.at c.args.b c.if-at-out.false c.if-at-out-2.false
