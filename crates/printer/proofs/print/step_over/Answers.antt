use Rattle.printer.proofs.ArraysHeld as law
use mathlib.Core.Path.{sym, ◌∙◌}
use native.Mathlib.Omega.{arith}
use Rattle.printer.proofs.print.step_over.Goals as goal
use Rattle.printer.proofs.print.step_over.Goals.{else-count-lt65536-via-then-count-lt65536+else-next-count, else-count-lt65536-via-else-count-lt65536}

pub returns-then-is_none : goal.returns-then-is_none
returns-then-is_none c = (λ t h. sym (law.over_none t c.args.starts.now c.args.count c.args.next (sym c.start_of.ensures ∙ law.counted_none _ c.if-is_none.ensures)), λ h g. g)

pub overflow_add-result : goal.overflow_add-result
overflow_add-result c = omega (arith, c.if-count-lt65536.true, c.if-next-count.true)

pub returns-then-next-count : goal.returns-then-next-count
returns-then-next-count c = (λ t h. sym (law.over_some t c.args.starts.now c.args.count c.args.next (λ e. law.counted_some _ c.if-is_none.ensures (c.start_of.ensures ∙ e))), λ h g. omega (arith, h, c.if-next-count.true))

pub returns-else-count-lt65536 : goal.returns-else-count-lt65536
returns-else-count-lt65536 c = elim c.else-count-lt65536.branch [
  | else-count-lt65536-via-then-count-lt65536+else-next-count w ↦ (λ t h. absurd (law.counted_some _ c.if-is_none.ensures (c.start_of.ensures ∙ law.past_none t c.args.starts.now c.args.count c.args.next w.if-next-count.false)), λ h g. g)
  | else-count-lt65536-via-else-count-lt65536 w ↦ (λ t h. absurd (omega (arith, h, w.if-count-lt65536.false)), λ h g. g)
]
