use mathlib.Core.Path.{refl}
use native.Mathlib.Omega.{arith}
use Rattle.rewritten.proofs.Tasks.{number_ends}
use Rattle.printer.proofs.record.number_met.Goals as goal

pub returns-then-what-eq0 : goal.returns-then-what-eq0
returns-then-what-eq0 c = (record { what = c.number-what.result; is = c.number-what.ensures.0; coded = c.number-what.ensures.1; none = λ z. refl; some = λ n. absurd (n c.if-what-eq0.true) }, tt)

pub overflow_add-result : goal.overflow_add-result
overflow_add-result c = omega (arith, number_ends _ _ _ _ _ (c.number-what.ensures.0 0) (c.number-what.ensures.1 c.if-what-eq0.false))

pub returns : goal.returns
returns c = (
  record {
    what = c.number-what.result;
    is = c.number-what.ensures.0;
    coded = c.number-what.ensures.1;
    none = λ z. absurd (c.if-what-eq0.false z);
    some = λ n. record { cursor = refl; logged = rw c.plain.ensures at (c.keep_entry.ensures (omega (arith, c.plain.ensures))) };
  },
  let h = number_ends _ _ _ _ _ (c.number-what.ensures.0 0) (c.number-what.ensures.1 c.if-what-eq0.false) in (omega arith, omega arith),
)
