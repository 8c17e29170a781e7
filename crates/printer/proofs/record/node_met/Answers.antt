use mathlib.Core.Path.{◌≡◌, refl, sym, ap, ap₂, ◌∙◌}
use Rattle.std.specs.Prelude.{Some}
use Rattle.std.proofs.lemmas.Option.{IfSome_then, none-some}
use Rattle.rewritten.specs.declared.step.Cursor.{Cursor}
use Prim.Native.Nat.{ℕ, ◌+◌, ◌*◌, ◌%◌}
use native.Mathlib.Omega.{arith}
use Rattle.tree.specs.Read.{byte_at}
use Rattle.printer.proofs.Meeting as law
use Rattle.printer.proofs.Recording.{same_some}
use Rattle.printer.specs.Met.{number_of, Leafed}
use Rattle.printer.proofs.record.node_met.Goals as goal

pub returns-then-what-eq0 : goal.returns-then-what-eq0
returns-then-what-eq0 c = (λ p q m h. record { what = c.node-what.result; is = c.node-what.ensures.0 p q m; coded = c.node-what.ensures.1; none = λ z. refl; some = λ n. absurd (n c.if-what-eq0.true) }, tt)

pub overflow_add-at : goal.overflow_add-at
overflow_add-at c = omega (arith, c.node-what.ensures.2 c.if-what-eq0.false)

pub overflow_add-at-in-Some-eq13 : goal.overflow_add-at-in-Some-eq13
overflow_add-at-in-Some-eq13 c = omega (arith, c.node-what.ensures.2 c.if-what-eq0.false)

pub returns-in-Some-eq13 : goal.returns-in-Some-eq13
returns-in-Some-eq13 c = (
  λ p q m h. record {
    what = c.node-what.result;
    is = c.node-what.ensures.0 p q m;
    coded = c.node-what.ensures.1;
    none = λ z. absurd (c.if-what-eq0.false z);
    some = λ n. record {
      code = c.leaf_code.result;
      leaf = rw (c.peek-kind.ensures.value, c.peek-map.ensures.value) at c.leaf_code.ensures;
      begun = λ z. absurd (none-some _ (sym z ∙ c.in-Some-eq13.is));
      name = λ k e b. let y : k ≡ c.in-Some-eq13.field-0 = same_some k _ (sym e ∙ c.in-Some-eq13.is) in let t = c.in-Some-eq13.field-0-test in absurd (b (omega (arith, y, t)));
      literal = λ _. (refl, c.literal_met.ensures.0);
    };
  },
  IfSome_then c.literal_met.result c.literal_met.ensures.1 (λ d h. (h.0, omega (arith, h.1))),
)

pub overflow_add-at-in-Some : goal.overflow_add-at-in-Some
overflow_add-at-in-Some c = omega (arith, c.node-what.ensures.2 c.if-what-eq0.false)

pub returns-in-Some : goal.returns-in-Some
returns-in-Some c = (
  λ p q m h. record {
    what = c.node-what.result;
    is = c.node-what.ensures.0 p q m;
    coded = c.node-what.ensures.1;
    none = λ z. absurd (c.if-what-eq0.false z);
    some = λ n.
        let l : Leafed (byte_at c.args.tree.now c.args.at) (byte_at c.args.tree.now (c.args.at + 1)) c.node-what.result c.leaf_code.result = rw (c.peek-kind.ensures.value, c.peek-map.ensures.value) at c.leaf_code.ensures in
        record {
          code = c.leaf_code.result;
          leaf = l;
          begun = λ z. absurd (none-some _ (sym z ∙ c.in-Some.is));
          name = λ k e b. let y : k ≡ c.in-Some.code = same_some k _ (sym e ∙ c.in-Some.is) in rw y (refl, c.name_met.ensures.0 (omega (arith, y, (l.name k e b).4)));
          literal = λ z. let y : c.in-Some.code ≡ 13 = same_some _ _ (sym c.in-Some.is ∙ z) in let t = c.in-Some.code-test in absurd (omega (arith, y, t));
        };
  },
  IfSome_then c.name_met.result c.name_met.ensures.1 (λ d h. (h.0, omega (arith, h.1))),
)

pub overflow_add-at-in-None : goal.overflow_add-at-in-None
overflow_add-at-in-None c = omega (arith, c.node-what.ensures.2 c.if-what-eq0.false)

pub returns-in-None : goal.returns-in-None
returns-in-None c = (
  λ p q m h. record {
    what = c.node-what.result;
    is = c.node-what.ensures.0 p q m;
    coded = c.node-what.ensures.1;
    none = λ z. absurd (c.if-what-eq0.false z);
    some = λ n.
        let e : c.head.result ≡ number_of 1 (byte_at c.args.tree.now c.args.at % 64 + 64 * (byte_at c.args.tree.now (c.args.at + 1) % 256)) 0 = c.head.ensures ∙ ap₂ (λ (x y : ℕ). number_of 1 (x % 64 + 64 * (y % 256)) 0) c.peek-kind.ensures.value c.peek-map.ensures.value in
        record {
          code = c.leaf_code.result;
          leaf = rw (c.peek-kind.ensures.value, c.peek-map.ensures.value) at c.leaf_code.ensures;
          begun = λ z. record { cursor = ap (λ (x : Cursor). Some x) c.begun.ensures.2; framed = c.begun.ensures.1; placed = c.keep_short.ensures h; logged = rw e at (c.keep_entry.ensures (omega (arith, e))) };
          name = λ k e _. absurd (none-some k (sym c.in-None.is ∙ e));
          literal = λ z. absurd (none-some 13 (sym c.in-None.is ∙ z));
        };
  },
  law.begun_moves c.args.tree.now c.args.frames.now _ _ _ _ (c.node-what.ensures.2 c.if-what-eq0.false) c.begun.ensures.2,
)
