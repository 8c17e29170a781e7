use Rattle.printer.proofs.PiecesWritten as law
use Rattle.printer.specs.Stacks.{Buffer, write, buffer_in}
use mathlib.Core.Path.{refl, ap, ◌∙◌}
use native.Mathlib.Omega.{arith}
use Prim.Native.Nat.{ℕ, ◌+◌, ◌-◌}
use mathlib.Core.List.{List}
use lib.ListN.{take, drop, length-set}
use Rattle.printer.proofs.out.copy.Goals as goal

pub loop-i-init : goal.loop-i-init
loop-i-init c = law.copying_starts _ _ _ _ _ _ c.end_of-end.ensures c.if-spot-out.true c.if-end-at.true

pub bounds-out-s-in-loop-i : goal.bounds-out-s-in-loop-i
bounds-out-s-in-loop-i c = simp length-set (omega arith)

pub bounds-out-s-in-loop-i-2 : goal.bounds-out-s-in-loop-i-2
bounds-out-s-in-loop-i-2 c = simp length-set (omega arith)

pub bounds-out-s-in-loop-i-3 : goal.bounds-out-s-in-loop-i-3
bounds-out-s-in-loop-i-3 c = simp length-set (omega arith)

pub loop-i-preserved : goal.loop-i-preserved
loop-i-preserved c = law.four_copied c.loop-i.invariant (omega (arith, c.loop-i-test.true))

pub returns-then-end-i : goal.returns-then-end-i
returns-then-end-i c = law.all_copied c.loop-i.invariant c.if-end-i.true

pub returns-then-end-i-2 : goal.returns-then-end-i-2
returns-then-end-i-2 c = law.all_copied (law.one_copied c.loop-i.invariant c.if-end-i.false) c.if-end-i-2.true

pub bounds-out-s-then-end-at-2 : goal.bounds-out-s-then-end-at-2
bounds-out-s-then-end-at-2 c = simp length-set (omega arith)

pub returns-then-end-i-3 : goal.returns-then-end-i-3
returns-then-end-i-3 c = law.all_copied (law.two_copied c.loop-i.invariant c.if-end-i-2.false) c.if-end-i-3.true

pub bounds-out-s-then-end-at-3 : goal.bounds-out-s-then-end-at-3
bounds-out-s-then-end-at-3 c = simp length-set (omega arith)

pub returns-then-end-at : goal.returns-then-end-at
returns-then-end-at c = law.all_copied (law.three_copied c.loop-i.invariant c.if-end-i-3.false) (omega (arith, c.loop-i-test.false))

pub loop-i-2-init : goal.loop-i-2-init
loop-i-2-init c = (ap (λ (l : List ℕ). write (buffer_in c.args.out.now c.args.spot) l) c.end_of-end.ensures.same, refl, law.end_inside _ _ _ _ c.end_of-end.ensures)

pub loop-i-2-preserved : goal.loop-i-2-preserved
loop-i-2-preserved c = (ap (λ (b : Buffer). write b (take (c.end_of-end.result - (c.loop-i-2.i + 1)) (drop (c.loop-i-2.i + 1) c.args.tree.now))) c.put-s.ensures ∙ law.byte_copied _ _ _ _ c.loop-i-2-test.true (omega (arith, c.loop-i-2-test.true, c.loop-i-2.invariant.2)) ∙ c.loop-i-2.invariant.0, c.put-s.auto.out ∙ c.loop-i-2.invariant.1, omega (arith, c.loop-i-2.invariant.2))

pub returns : goal.returns
returns c = law.copied _ _ _ _ c.loop-i-2-test.false ∙ c.loop-i-2.invariant.0
