use Prim.Native.Nat.{◌/◌}
use Rattle.joining.specs.Files.{shelf}
use Rattle.joining.proofs.Filing as law
use Rattle.joining.proofs.bodies.add.Goals as goal

pub returns-then-code-eq2 : goal.returns-then-code-eq2
returns-then-code-eq2 c = law.added_found c.args.tree.now _ _ _ _ _ _ 2 c.if-code-eq2.true (c.enter-latest.ensures _ c.args.bodies.begun (c.args.what / 16 / 64))

pub returns-then-code-lt3 : goal.returns-then-code-lt3
returns-then-code-lt3 c = law.begin_found c.args.tree.now _ _ _ _ _ _ c.args.bodies.begun _ _ (c.args.what / 16) _ _ _ c.if-code-lt3.true c.if-code-eq2.false c.requires.1 c.peek.ensures.value c.begin-begun.ensures

pub returns-then-code-eq4 : goal.returns-then-code-eq4
returns-then-code-eq4 c = law.added_found c.args.tree.now _ _ _ _ _ _ 4 c.if-code-eq4.true (c.mark.ensures _ _ c.args.at (c.args.what / 16))

pub returns-else-code-eq4 : goal.returns-else-code-eq4
returns-else-code-eq4 c = law.added_none c.args.tree.now (shelf c.args.around.now c.args.earlier.now c.args.holds.now c.args.before.now c.args.bodies.latest c.args.bodies.begun) _ _ _ _ c.if-code-lt3.false c.if-code-eq4.false
