use mathlib.Core.Path.{refl, ap, ◌∙◌}
use Rattle.std.specs.Prelude.{ℕ, Option, unwrap_or}
use Rattle.pattern.proofs.NumberCases as law
use Rattle.pattern.proofs.numbers.value.Goals as goal

pub returns-in_err-d-clause-value : goal.returns-in_err-d-clause-value
returns-in_err-d-clause-value c = ap (λ (x : Option ℕ). unwrap_or x 9007199254740992) c.from_residual.ensures ∙ law.reading_none _ _ _ _ _ c.loop-b.invariant _ c.loop-b-test.true c.in_err-d.ensures refl

pub returns-then-base-d-clause-value : goal.returns-then-base-d-clause-value
returns-then-base-d-clause-value c = law.reading_stops _ _ _ _ _ c.loop-b.invariant _ c.loop-b-test.true c.in_ok-d.ensures c.if-base-d.true

pub returns-then-v-gt-HIGHEST-clause-value : goal.returns-then-v-gt-HIGHEST-clause-value
returns-then-v-gt-HIGHEST-clause-value c = law.reading_high _ _ _ _ _ c.loop-b.invariant _ c.loop-b-test.true c.in_ok-d.ensures c.if-base-d.false c.if-v-gt-HIGHEST.true

pub loop-b-preserved : goal.loop-b-preserved
loop-b-preserved c = law.reading_on _ _ _ _ _ c.loop-b.invariant _ c.loop-b-test.true c.in_ok-d.ensures c.if-base-d.false c.if-v-gt-HIGHEST.false

pub returns-clause-value : goal.returns-clause-value
returns-clause-value c = law.reading_end _ _ _ _ _ c.loop-b.invariant c.loop-b-test.false
