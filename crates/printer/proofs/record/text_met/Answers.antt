use mathlib.Core.Path.{refl}
use native.Mathlib.Omega.{arith}
use Rattle.rewritten.proofs.Tasks.{text_ends}
use Rattle.printer.proofs.record.text_met.Goals as goal

pub returns-then-what-eq0 : goal.returns-then-what-eq0
returns-then-what-eq0 c = (record { what = c.text-what.result; is = c.text-what.ensures.0; coded = c.text-what.ensures.1; none = λ z. refl; some = λ n. absurd (n c.if-what-eq0.true) }, tt)

pub overflow_add-result : goal.overflow_add-result
overflow_add-result c = omega (arith, text_ends _ _ _ _ _ (c.text-what.ensures.0 0) (c.text-what.ensures.1 c.if-what-eq0.false))

pub overflow_add-result-2 : goal.overflow_add-result-2
overflow_add-result-2 c = omega (arith, text_ends _ _ _ _ _ (c.text-what.ensures.0 0) (c.text-what.ensures.1 c.if-what-eq0.false))

pub returns : goal.returns
returns c = (
  record {
    what = c.text-what.result;
    is = c.text-what.ensures.0;
    coded = c.text-what.ensures.1;
    none = λ z. absurd (c.if-what-eq0.false z);
    some = λ n. record { cursor = refl; logged = rw c.plain.ensures at (c.keep_entry.ensures (omega (arith, c.plain.ensures))) };
  },
  let h = text_ends _ _ _ _ _ (c.text-what.ensures.0 0) (c.text-what.ensures.1 c.if-what-eq0.false) in (omega arith, omega arith),
)
