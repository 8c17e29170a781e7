use Rattle.printer.proofs.Around as law
use mathlib.Core.Path.{◌≡◌}
use Prim.Native.Nat.{ℕ, ◌≤◌}
use native.Mathlib.Omega.{arith}
use Rattle.printer.specs.Places.{trailing}
use Rattle.printer.proofs.places.plain_trail.Goals as goal

pub returns-then-m-lt5 : goal.returns-then-m-lt5
unfolding trailing
returns-then-m-lt5 c = (λ p k s l h. rw (← h) (law.trailing_by _ _ _ c.if-m-lt5.true), omega (arith, c.if-m-lt5.true))

pub returns : goal.returns
unfolding trailing
returns c = (
  λ p k s l h.
      let g = l.manner (omega (arith, c.if-m-lt5.false)) in
      let off : (n : ℕ) → n ≤ 10 → c.args.m ≡ n → ⊥ = λ n i e. absurd (omega (arith, g, i, e)) in
      rw (← h) (law.no_trailing _ _ _ (off 1 (omega arith)) (off 2 (omega arith)) (off 3 (omega arith)) (off 4 (omega arith)) (off 5 (omega arith)) (off 6 (omega arith)) (off 7 (omega arith))),
  omega arith,
)
