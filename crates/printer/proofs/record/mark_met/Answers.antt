use mathlib.Core.Path.{refl, sym}
use mathlib.Core.Bool.{true, false}
use native.Mathlib.Omega.{arith}
use Rattle.tree.proofs.Sound.{never}
use Rattle.rewritten.proofs.Moves.{found_true}
use Rattle.rewritten.proofs.Tasks.{mark_ends}
use Rattle.printer.proofs.record.mark_met.Goals as goal

pub returns-then-what-eq0 : goal.returns-then-what-eq0
returns-then-what-eq0 c = (record { what = c.mark-what.result; is = c.mark-what.ensures.0; coded = c.mark-what.ensures.1; none = λ z. refl; some = λ n. absurd (n c.if-what-eq0.true) }, tt)

pub overflow_add-result : goal.overflow_add-result
overflow_add-result c = omega (arith, mark_ends _ _ _ _ _ (c.mark-what.ensures.0 0) (c.mark-what.ensures.1 c.if-what-eq0.false))

pub returns-then-is_new_ahead : goal.returns-then-is_new_ahead
returns-then-is_new_ahead c = (
  record {
    what = c.mark-what.result;
    is = c.mark-what.ensures.0;
    coded = c.mark-what.ensures.1;
    none = λ z. absurd (c.if-what-eq0.false z);
    some = λ n. record { new = true; is = sym (found_true c.is_new_ahead.ensures c.if-is_new_ahead.true); twice = λ e. never (sym e); cursor = λ e. refl; noted = λ e. c.note_ahead.ensures; logged = λ e. c.keep_entry.ensures (omega arith) };
  },
  let h = mark_ends _ _ _ _ _ (c.mark-what.ensures.0 0) (c.mark-what.ensures.1 c.if-what-eq0.false) in (omega arith, omega arith),
)

pub returns : goal.returns
returns c = (
  record {
    what = c.mark-what.result;
    is = c.mark-what.ensures.0;
    coded = c.mark-what.ensures.1;
    none = λ z. absurd (c.if-what-eq0.false z);
    some = λ n. record { new = false; is = sym (found_true c.is_new_ahead.ensures c.if-is_new_ahead.false); twice = λ e. refl; cursor = λ e. never e; noted = λ e. never e; logged = λ e. never e };
  },
  tt,
)
