use mathlib.Core.Path.{refl}
use native.Mathlib.Omega.{arith}
use Rattle.rewritten.proofs.Tasks.{text_ends, byte_ends}
use Rattle.printer.proofs.record.literal_met.Goals as goal

pub returns-then-sort-eq0 : goal.returns-then-sort-eq0
returns-then-sort-eq0 c = (record { what = c.byte-sort.result; is = c.byte-sort.ensures.0; coded = c.byte-sort.ensures.1; none = λ z. refl; some = λ n. absurd (n c.if-sort-eq0.true) }, tt)

pub overflow_add-at : goal.overflow_add-at
overflow_add-at c = omega (arith, byte_ends _ _ _ _ _ (c.byte-sort.ensures.0 0) (c.byte-sort.ensures.1 c.if-sort-eq0.false))

pub returns-then-first-eq0 : goal.returns-then-first-eq0
returns-then-first-eq0 c = (
  record {
    what = c.byte-sort.result;
    is = c.byte-sort.ensures.0;
    coded = c.byte-sort.ensures.1;
    none = λ z. absurd (c.if-sort-eq0.false z);
    some = λ n. record { what = c.text-first.result; is = c.text-first.ensures.0; coded = c.text-first.ensures.1; none = λ z. refl; some = λ m. absurd (m c.if-first-eq0.true) };
  },
  tt,
)

pub overflow_add-next : goal.overflow_add-next
overflow_add-next c = omega (arith, text_ends _ _ _ _ _ (c.text-first.ensures.0 0) (c.text-first.ensures.1 c.if-first-eq0.false))

pub overflow_add-next-2 : goal.overflow_add-next-2
overflow_add-next-2 c = omega (arith, text_ends _ _ _ _ _ (c.text-first.ensures.0 0) (c.text-first.ensures.1 c.if-first-eq0.false))

pub returns-then-second-eq0 : goal.returns-then-second-eq0
returns-then-second-eq0 c = (
  record {
    what = c.byte-sort.result;
    is = c.byte-sort.ensures.0;
    coded = c.byte-sort.ensures.1;
    none = λ z. absurd (c.if-sort-eq0.false z);
    some = λ n. record {
      what = c.text-first.result;
      is = c.text-first.ensures.0;
      coded = c.text-first.ensures.1;
      none = λ z. absurd (c.if-first-eq0.false z);
      some = λ m. record { what = c.text-second.result; is = c.text-second.ensures.0; coded = c.text-second.ensures.1; none = λ z. refl; some = λ k. absurd (k c.if-second-eq0.true) };
    };
  },
  tt,
)

pub overflow_add-at-2 : goal.overflow_add-at-2
overflow_add-at-2 c = omega (arith, text_ends _ _ _ _ _ (c.text-first.ensures.0 0) (c.text-first.ensures.1 c.if-first-eq0.false))

pub overflow_add-result : goal.overflow_add-result
overflow_add-result c = omega (arith, text_ends _ _ _ _ _ (c.text-second.ensures.0 0) (c.text-second.ensures.1 c.if-second-eq0.false))

pub overflow_add-result-2 : goal.overflow_add-result-2
overflow_add-result-2 c = omega (arith, text_ends _ _ _ _ _ (c.text-second.ensures.0 0) (c.text-second.ensures.1 c.if-second-eq0.false))

pub returns : goal.returns
returns c = (
  record {
    what = c.byte-sort.result;
    is = c.byte-sort.ensures.0;
    coded = c.byte-sort.ensures.1;
    none = λ z. absurd (c.if-sort-eq0.false z);
    some = λ n. record {
      what = c.text-first.result;
      is = c.text-first.ensures.0;
      coded = c.text-first.ensures.1;
      none = λ z. absurd (c.if-first-eq0.false z);
      some = λ m. record {
        what = c.text-second.result;
        is = c.text-second.ensures.0;
        coded = c.text-second.ensures.1;
        none = λ z. absurd (c.if-second-eq0.false z);
        some = λ k. record { cursor = refl; framed = c.keep.ensures; logged = rw c.literal.ensures at (c.keep_entry.ensures (omega (arith, c.literal.ensures))) };
      };
    };
  },
  let h = text_ends _ _ _ _ _ (c.text-second.ensures.0 0) (c.text-second.ensures.1 c.if-second-eq0.false) in (omega arith, omega arith),
)
