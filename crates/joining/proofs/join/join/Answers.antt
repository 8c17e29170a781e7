use native.Mathlib.Omega.{arith}
use Rattle.joining.proofs.Answering as law
use Rattle.joining.proofs.join.join.Goals as goal

pub returns-in-Ok : goal.returns-in-Ok
returns-in-Ok c = law.told_tree _ _ _ _ _ (c.joined-told.ensures (record {
  enough = omega arith;
  marks = omega arith;
  deep = omega arith;
  lists = omega arith;
  lasts = omega arith;
  firsts = omega arith;
}) (omega arith) (omega arith) (omega arith)) _ c.in-Ok.is

pub returns-in-Err : goal.returns-in-Err
returns-in-Err c = law.told_refusal _ _ _ _ _ (c.joined-told.ensures (record {
  enough = omega arith;
  marks = omega arith;
  deep = omega arith;
  lists = omega arith;
  lasts = omega arith;
  firsts = omega arith;
}) (omega arith) (omega arith) (omega arith)) c.joined-told.auto.out _ c.in-Err.is _ _ _ c.from.ensures (c.fill.ensures.after (λ y e. e))
