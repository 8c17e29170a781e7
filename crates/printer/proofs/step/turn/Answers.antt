use mathlib.Core.Path.{refl}
use mathlib.Core.Logic.{inl, inr}
use Prim.Native.Nat.{◌/◌, ◌%◌, ◌<◌}
use native.Mathlib.Omega.{arith}
use Rattle.printer.specs.Machine.{print_all}
use Rattle.printer.specs.Logged.{entries_for}
use Rattle.printer.specs.Stacks.{buffer_in}
use Rattle.printer.proofs.StepTurns as law
use borrow.Author.Rules.{rules}
use Rattle.printer.proofs.step.turn.Goals as goal
use Rattle.printer.proofs.step.turn.Goals.{in_default-via-then-code-lt8, in_default-via-else-code-lt8+else-code-lt14}

pub returns-in-1 : goal.returns-in-1
unfolding entries_for print_all
returns-in-1 c = λ hs hr hw hc. law.as_code c.args.tree.now c.args.stack.now c.args.starts.now _ _ (buffer_in c.args.text.now c.args.s.spot) _ c.args.s _ c.args.v 1 c.in-1.is (λ h. c.begin.ensures hs hr hw hc (omega arith) (omega arith) (omega arith) h)

pub returns-in-2 : goal.returns-in-2
unfolding entries_for print_all
returns-in-2 c = λ hs hr hw hc. law.as_code c.args.tree.now c.args.stack.now c.args.starts.now _ _ (buffer_in c.args.text.now c.args.s.spot) _ c.args.s _ c.args.v 2 c.in-2.is (λ h. c.open_list.ensures hs hw c.args.tree.now c.args.starts.now hc h)

pub returns-in-3 : goal.returns-in-3
unfolding entries_for print_all
returns-in-3 c = λ hs hr hw hc. law.as_code c.args.tree.now c.args.stack.now c.args.starts.now _ _ (buffer_in c.args.text.now c.args.s.spot) _ c.args.s _ c.args.v 3 c.in-3.is (λ h. c.text_met.ensures hs hw c.args.stack.now h.0 h.1)

pub returns-in-4 : goal.returns-in-4
unfolding entries_for print_all
returns-in-4 c = λ hs hr hw hc. law.as_code c.args.tree.now c.args.stack.now c.args.starts.now _ _ (buffer_in c.args.text.now c.args.s.spot) _ c.args.s _ c.args.v 4 c.in-4.is (λ h. c.quiet.ensures c.args.tree.now c.args.stack.now c.args.starts.now c.args.text.now)

pub returns-in-6 : goal.returns-in-6
unfolding entries_for print_all
returns-in-6 c = λ hs hr hw hc. law.as_code c.args.tree.now c.args.stack.now c.args.starts.now _ _ (buffer_in c.args.text.now c.args.s.spot) _ c.args.s _ c.args.v 6 c.in-6.is (λ h. c.number_met.ensures c.args.tree.now c.args.stack.now c.args.starts.now)

pub returns-in-8 : goal.returns-in-8
unfolding entries_for print_all
returns-in-8 c = λ hs hr hw hc. law.as_code c.args.tree.now c.args.stack.now c.args.starts.now _ _ (buffer_in c.args.text.now c.args.s.spot) _ c.args.s _ c.args.v 8 c.in-8.is (λ h. c.end.ensures hr hw c.args.tree.now c.args.starts.now h)

pub returns-in-9 : goal.returns-in-9
unfolding entries_for print_all
returns-in-9 c = λ hs hr hw hc. law.as_code c.args.tree.now c.args.stack.now c.args.starts.now _ _ (buffer_in c.args.text.now c.args.s.spot) _ c.args.s _ c.args.v 9 c.in-9.is (λ h. c.close_list.ensures hs hr hw h.0 h.1)

pub returns-in-10-to-13 : goal.returns-in-10-to-13
returns-in-10-to-13 c = λ hs hr hw hc.
    let past : 9 < c.args.v % 16 = omega arith in
    let low : c.args.v % 16 < 14 = omega arith in
    law.as_code c.args.tree.now c.args.stack.now c.args.starts.now _ _ (buffer_in c.args.text.now c.args.s.spot) _ c.args.s _ c.args.v (c.args.v % 16) refl (law.leaf_by c.args.tree.now c.args.stack.now c.args.starts.now _ _ (buffer_in c.args.text.now c.args.s.spot) _ c.args.s _ (c.args.v % 16) (c.args.v / 16 % 65536) (c.args.v / 1048576 % 256) past low (λ h g. c.leaf.ensures hs hw c.args.stack.now (c.args.v / 1048576 % 256) past low h hc g))

pub returns-in_default : goal.returns-in_default
unfolding print_all
returns-in_default c = λ hs hr hw hc.
    law.as_code c.args.tree.now c.args.stack.now c.args.starts.now _ _ (buffer_in c.args.text.now c.args.s.spot) _ c.args.s _ c.args.v (c.args.v % 16) refl (law.hole_by c.args.tree.now c.args.stack.now c.args.starts.now _ _ (buffer_in c.args.text.now c.args.s.spot) _ c.args.s _ (c.args.v % 16) (c.args.v / 16 % 65536) (c.args.v / 1048576 % 256) (search rules) (elim c.in_default.branch [ in_default-via-then-code-lt8 w ↦ inr (omega arith) | in_default-via-else-code-lt8+else-code-lt14 w ↦ inl (omega arith) ]) (c.hole.ensures hs hw c.args.tree.now c.args.stack.now c.args.starts.now))
