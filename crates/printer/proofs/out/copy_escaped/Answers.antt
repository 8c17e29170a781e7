use Rattle.printer.proofs.PiecesWritten as law
use Rattle.printer.specs.Stacks.{Buffer, write, buffer_in}
use mathlib.Core.Path.{refl, ap, ◌∙◌}
use native.Mathlib.Omega.{arith}
use Prim.Native.Nat.{ℕ, ◌+◌, ◌-◌}
use mathlib.Core.List.{List}
use lib.ListN.{take, drop}
use Rattle.printer.specs.Names.{escaped}
use Rattle.printer.proofs.out.copy_escaped.Goals as goal

pub loop-i-init : goal.loop-i-init
loop-i-init c = (ap (λ (l : List ℕ). write (buffer_in c.args.out.now c.args.spot) (escaped (l))) c.end_of-end.ensures.same, refl, omega arith)

pub bounds-tree-i : goal.bounds-tree-i
bounds-tree-i c = omega (arith, c.loop-i-test.true, c.end_of-end.ensures.inside (omega (arith, c.loop-i-test.true, c.loop-i.invariant.2)))

pub loop-i-smaller : goal.loop-i-smaller
loop-i-smaller c = omega (arith, c.loop-i-test.true)

pub loop-i-preserved : goal.loop-i-preserved
loop-i-preserved c = (ap (λ (b : Buffer). write b (escaped (take (c.end_of-end.result - (c.loop-i.i + 1)) (drop (c.loop-i.i + 1) c.args.tree.now)))) c.put_escaped-s.ensures ∙ law.byte_escaped _ _ _ _ c.loop-i-test.true (c.end_of-end.ensures.inside (omega (arith, c.loop-i-test.true, c.loop-i.invariant.2))) ∙ c.loop-i.invariant.0, c.put_escaped-s.auto.out ∙ c.loop-i.invariant.1, omega (arith, c.loop-i.invariant.2))

pub returns : goal.returns
returns c = law.all_escaped _ _ _ _ c.loop-i-test.false ∙ c.loop-i.invariant.0
