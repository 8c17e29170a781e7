use mathlib.Core.Path.{◌≡◌, refl, ap, ◌∙◌}
use Prim.Native.Nat.{ℕ, ◌%◌}
use native.Mathlib.Omega.{arith}
use Rattle.printer.specs.Met.{number_of}
use Rattle.rewritten.proofs.Tasks.{text_ends}
use Rattle.printer.proofs.record.name_met.Goals as goal

pub returns-then-what-eq0 : goal.returns-then-what-eq0
returns-then-what-eq0 c = (λ h. record { what = c.text-what.result; is = c.text-what.ensures.0; coded = c.text-what.ensures.1; none = λ z. refl; some = λ n. absurd (n c.if-what-eq0.true) }, tt)

pub overflow_add-result : goal.overflow_add-result
overflow_add-result c = omega (arith, text_ends _ _ _ _ _ (c.text-what.ensures.0 0) (c.text-what.ensures.1 c.if-what-eq0.false))

pub overflow_add-result-2 : goal.overflow_add-result-2
overflow_add-result-2 c = omega (arith, text_ends _ _ _ _ _ (c.text-what.ensures.0 0) (c.text-what.ensures.1 c.if-what-eq0.false))

pub returns : goal.returns
returns c = (
  λ h.
      let e : c.args.code % 16 ≡ c.args.code = omega (arith, h) in
      let p : c.plain.result ≡ number_of c.args.code (c.args.at % 65536) 0 = c.plain.ensures ∙ ap (λ (x : ℕ). number_of x (c.args.at % 65536) 0) e in
      record {
        what = c.text-what.result;
        is = c.text-what.ensures.0;
        coded = c.text-what.ensures.1;
        none = λ z. absurd (c.if-what-eq0.false z);
        some = λ n. record { cursor = refl; framed = c.keep.ensures; logged = rw p at (c.keep_entry.ensures (omega (arith, p, h))) };
      },
  let h = text_ends _ _ _ _ _ (c.text-what.ensures.0 0) (c.text-what.ensures.1 c.if-what-eq0.false) in (omega arith, omega arith),
)
