use mathlib.Core.Path.{refl}
use native.Mathlib.Omega.{arith}
use Rattle.rewritten.proofs.Tasks.{byte_ends}
use Rattle.printer.proofs.record.byte_met.Goals as goal

pub returns-then-what-eq0 : goal.returns-then-what-eq0
returns-then-what-eq0 c = (record { what = c.byte-what.result; is = c.byte-what.ensures.0; coded = c.byte-what.ensures.1; none = λ z. refl; some = λ n. absurd (n c.if-what-eq0.true) }, tt)

pub overflow_add-result : goal.overflow_add-result
overflow_add-result c = omega (arith, byte_ends _ _ _ _ _ (c.byte-what.ensures.0 0) (c.byte-what.ensures.1 c.if-what-eq0.false))

pub returns : goal.returns
returns c = (
  record {
    what = c.byte-what.result;
    is = c.byte-what.ensures.0;
    coded = c.byte-what.ensures.1;
    none = λ z. absurd (c.if-what-eq0.false z);
    some = λ n. record { cursor = refl; logged = rw c.note_open.ensures at (c.keep_entry.ensures (omega arith)) };
  },
  let h = byte_ends _ _ _ _ _ (c.byte-what.ensures.0 0) (c.byte-what.ensures.1 c.if-what-eq0.false) in (omega arith, omega arith),
)
