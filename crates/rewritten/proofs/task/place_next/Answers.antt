use mathlib.Core.Path.{refl, sym, ◌∙◌}
use borrow.Author.Tests.{eq-eqb, ne_eqb}
use Prim.Native.Nat.{◌/◌, ◌%◌}
use native.Mathlib.Omega.{arith}
use Rattle.rewritten.specs.Look.{place_next}
use Rattle.rewritten.proofs.task.place_next.Goals as goal
use Rattle.rewritten.proofs.task.place_next.Goals.{else-top-eq1-2-via-then-top-eq1-2+else-peek-eq0, else-top-eq1-2-via-else-top-eq1-2}

pub returns-then-peek-eq0 : goal.returns-then-peek-eq0
unfolding place_next
returns-then-peek-eq0 c = rw (eq-eqb _ 1 c.if-top-eq1.true, eq-eqb _ 1 c.if-top-eq1-2.true, eq-eqb _ 0 (sym c.peek.ensures.value ∙ c.if-peek-eq0.true)) refl

pub returns-else-top-eq1-2 : goal.returns-else-top-eq1-2
unfolding place_next
returns-else-top-eq1-2 c = (elim c.else-top-eq1-2.branch [
  | else-top-eq1-2-via-then-top-eq1-2+else-peek-eq0 w ↦ rw (eq-eqb _ 1 c.if-top-eq1.true, eq-eqb _ 1 w.if-top-eq1-2.true, ne_eqb _ 0 (λ z. w.if-peek-eq0.false (w.peek.ensures.value ∙ z))) refl
  | else-top-eq1-2-via-else-top-eq1-2 w ↦ rw (eq-eqb _ 1 c.if-top-eq1.true, ne_eqb _ 1 w.if-top-eq1-2.false) refl
])

pub returns-in-1 : goal.returns-in-1
unfolding place_next
returns-in-1 c = rw (ne_eqb _ 1 c.if-top-eq1.false, eq-eqb _ 1 c.in-1.is) refl

pub returns-in-2 : goal.returns-in-2
unfolding place_next
returns-in-2 c = rw (ne_eqb _ 1 c.if-top-eq1.false, ne_eqb (c.args.top / 64 % 16) 1 (λ z. omega (arith, z, c.in-2.is)), eq-eqb _ 2 c.in-2.is) c.choose.ensures

pub returns-in_default : goal.returns-in_default
unfolding place_next
returns-in_default c = rw (ne_eqb _ 1 c.if-top-eq1.false, ne_eqb (c.args.top / 64 % 16) 1 (λ z. omega (arith, z)), ne_eqb (c.args.top / 64 % 16) 2 (λ z. omega (arith, z))) refl
