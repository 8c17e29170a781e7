use Rattle.printer.proofs.ArraysHeld as law
use mathlib.Core.Path.{refl, sym, ap, ◌∙◌}
use native.Mathlib.Omega.{arith}
use Prim.Native.Nat.{◌+◌}
use mathlib.Core.List.{List}
use lib.ListN.{drop}
use Rattle.printer.specs.Stacks.{Buffer, write, buffer_in, held_in}
use Rattle.printer.specs.Text.{Cell, left_over_of}
use Rattle.printer.proofs.print.left_over.Goals as goal

pub returns-then-next-eq0 : goal.returns-then-next-eq0
unfolding left_over_of write
returns-then-next-eq0 c = rw c.if-next-eq0.true refl

pub loop-i-init : goal.loop-i-init
loop-i-init c = (refl, refl)

pub returns-then-start-eq0 : goal.returns-then-start-eq0
returns-then-start-eq0 c = law.left_stop c.args.tree.now c.args.starts.now c.args.count _ _ c.loop-i-test.true (sym c.short_at-start.ensures ∙ c.if-start-eq0.true) ∙ c.loop-i.invariant.0 ∙ ap (λ (l : List Cell). write (buffer_in c.args.text.now c.args.spot) (left_over_of l)) (sym (law.cells_some _ _ c.if-next-eq0.false))

pub overflow_sub-start : goal.overflow_sub-start
overflow_sub-start c = omega (arith, c.if-start-eq0.false)

pub loop-i-smaller : goal.loop-i-smaller
loop-i-smaller c = omega (arith, c.loop-i-test.true)

pub loop-i-preserved : goal.loop-i-preserved
loop-i-preserved c = (ap (λ (b : Buffer). write b (left_over_of (drop (c.loop-i.i + 1) (held_in c.args.tree.now c.args.starts.now c.args.count)))) (c.text_at-s.ensures (omega (arith, c.short_at-start.ensures, c.type_inv.starts c.loop-i.i))) ∙ rw c.short_at-start.ensures (law.left_one c.args.tree.now c.args.starts.now c.args.count _ _ c.loop-i-test.true (λ e. c.if-start-eq0.false (c.short_at-start.ensures ∙ e))) ∙ c.loop-i.invariant.0, c.text_at-s.auto.text ∙ c.loop-i.invariant.1)

pub returns : goal.returns
returns c = law.left_end c.args.tree.now c.args.starts.now c.args.count _ _ c.loop-i-test.false ∙ c.loop-i.invariant.0 ∙ ap (λ (l : List Cell). write (buffer_in c.args.text.now c.args.spot) (left_over_of l)) (sym (law.cells_some _ _ c.if-next-eq0.false))
