-- src/lib.rt:11:1
use Rattle.std.proofs.Common.{rules}
use Rattle.drawing.specs.Xorshift.{step, left, right}
use Rattle.drawing.proofs.advanced.Goals as goal

pub returns : goal.returns
unfolding step left right
returns c = search rules
