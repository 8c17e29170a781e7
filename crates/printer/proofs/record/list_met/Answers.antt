use mathlib.Core.Path.{refl, ap}
use Rattle.std.specs.Prelude.{Some}
use Rattle.rewritten.specs.declared.step.Cursor.{Cursor}
use native.Mathlib.Omega.{arith}
use Rattle.rewritten.proofs.Tasks.{list_ends}
use Rattle.printer.proofs.Meeting as law
use Rattle.printer.proofs.record.list_met.Goals as goal

pub returns-then-what-eq0 : goal.returns-then-what-eq0
returns-then-what-eq0 c = (λ h. record { what = c.list-what.result; is = c.list-what.ensures.0; coded = c.list-what.ensures.1; none = λ z. refl; some = λ n. absurd (n c.if-what-eq0.true) }, tt)

pub overflow_add-at : goal.overflow_add-at
overflow_add-at c = omega (arith, list_ends _ _ _ _ _ (c.list-what.ensures.0 0) (c.list-what.ensures.1 c.if-what-eq0.false))

pub returns : goal.returns
returns c = (
  λ h. record {
    what = c.list-what.result;
    is = c.list-what.ensures.0;
    coded = c.list-what.ensures.1;
    none = λ z. absurd (c.if-what-eq0.false z);
    some = λ n. record { cursor = ap (λ (x : Cursor). Some x) c.begun.ensures.2; framed = c.begun.ensures.1; placed = c.keep_short.ensures h; logged = rw c.plain.ensures at (c.keep_entry.ensures (omega (arith, c.plain.ensures))) };
  },
  let h = list_ends _ _ _ _ _ (c.list-what.ensures.0 0) (c.list-what.ensures.1 c.if-what-eq0.false) in law.begun_moves c.args.tree.now c.args.frames.now _ _ _ _ h c.begun.ensures.2,
)
