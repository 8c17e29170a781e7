use mathlib.Core.Path.{refl}
use borrow.Author.Tests.{eq-eqb, ne_eqb, lt-ltb, le-ltb}
use Rattle.rewritten.proofs.TablesRight.{form_from, form_is}
use native.Mathlib.Omega.{arith}
use Rattle.rewritten.proofs.task.form_at.Goals as goal
use Rattle.rewritten.proofs.task.form_at.Goals.{else-place-gt18-via-then-place-gt18+then-kind-gt33+else-kind-lt38, else-place-gt18-via-then-place-gt18+else-kind-gt33, else-place-gt18-via-else-place-gt18}

pub returns-then-number_at-kind-eq0 : goal.returns-then-number_at-kind-eq0
unfolding form_from
returns-then-number_at-kind-eq0 c = form_is _ _ _ _ c.requires c.number_at.ensures _ (rw (eq-eqb _ 0 c.if-number_at-kind-eq0.true) refl)

pub returns-in-1 : goal.returns-in-1
unfolding form_from
returns-in-1 c = form_is _ _ _ _ c.requires c.number_at.ensures _ (rw (ne_eqb _ 0 c.if-number_at-kind-eq0.false, eq-eqb _ 14 c.if-kind-eq-FUNCTION.true, eq-eqb _ 1 c.in-1.is) refl)

pub returns-in-2 : goal.returns-in-2
unfolding form_from
returns-in-2 c = form_is _ _ _ _ c.requires c.number_at.ensures _ (rw (ne_eqb _ 0 c.if-number_at-kind-eq0.false, eq-eqb _ 14 c.if-kind-eq-FUNCTION.true, ne_eqb c.args.place 1 (λ z. omega (arith, z, c.in-2.is)), eq-eqb _ 2 c.in-2.is) refl)

pub returns-in_default : goal.returns-in_default
unfolding form_from
returns-in_default c = form_is _ _ _ _ c.requires c.number_at.ensures _ (rw (ne_eqb _ 0 c.if-number_at-kind-eq0.false, eq-eqb _ 14 c.if-kind-eq-FUNCTION.true, ne_eqb c.args.place 1 (λ z. omega (arith, z)), ne_eqb c.args.place 2 (λ z. omega (arith, z))) refl)

pub returns-then-kind-lt38 : goal.returns-then-kind-lt38
unfolding form_from
returns-then-kind-lt38 c = form_is _ _ _ _ c.requires c.number_at.ensures _ (rw (ne_eqb _ 0 c.if-number_at-kind-eq0.false, ne_eqb _ 14 c.if-kind-eq-FUNCTION.false, lt-ltb 18 _ c.if-place-gt18.true, lt-ltb 33 _ c.if-kind-gt33.true, lt-ltb _ 38 c.if-kind-lt38.true) refl)

pub returns-else-place-gt18 : goal.returns-else-place-gt18
unfolding form_from
returns-else-place-gt18 c = form_is _ _ _ _ c.requires c.number_at.ensures _ (rw (ne_eqb _ 0 c.if-number_at-kind-eq0.false, ne_eqb _ 14 c.if-kind-eq-FUNCTION.false) (elim c.else-place-gt18.branch [
  | else-place-gt18-via-then-place-gt18+then-kind-gt33+else-kind-lt38 w ↦ rw (lt-ltb 18 _ w.if-place-gt18.true, lt-ltb 33 _ w.if-kind-gt33.true, le-ltb _ 38 w.if-kind-lt38.false) refl
  | else-place-gt18-via-then-place-gt18+else-kind-gt33 w ↦ rw (lt-ltb 18 _ w.if-place-gt18.true, le-ltb 33 _ w.if-kind-gt33.false) refl
  | else-place-gt18-via-else-place-gt18 w ↦ rw (le-ltb 18 _ w.if-place-gt18.false) refl
]))
