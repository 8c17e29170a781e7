use Rattle.printer.proofs.LayoutNumbers as law
use mathlib.Core.Path.{◌≡◌, ap, ◌∙◌}
use Prim.Native.Nat.{ℕ, ◌+◌}
use native.Mathlib.Decide.{dec_lt}
use native.Mathlib.Omega.{arith}
use lib.ListN.{get_or}
use Rattle.printer.proofs.layout.sort.Goals as goal
use Rattle.printer.proofs.layout.sort.Goals.{then-kind-eq-FUNCTION, else-kind-eq-FUNCTION}

pub returns : goal.returns
returns c e h =
    let found = λ (k : ℕ) (x : c.if-kind-eq-FUNCTION.entry ≡ k). c.entry_at.ensures ∙ ap (λ (i : ℕ). get_or c.args.sorts.now i 0) x in
    elim c.if-kind-eq-FUNCTION.branch [
      | then-kind-eq-FUNCTION w ↦ elim (dec_lt c.args.note 3) [
        | yes i ↦ law.sort_function _ _ _ _ (found (64 + c.args.note) (omega (arith, w.entry-is, w.min.ensures, i))) w.if-kind-eq-FUNCTION.true i e
        | no i ↦ law.sort_other _ _ _ _ (found 67 (omega (arith, w.entry-is, w.min.ensures, i))) w.if-kind-eq-FUNCTION.true (omega (arith, i)) e
      ]
      | else-kind-eq-FUNCTION w ↦ law.sort_kind _ _ _ _ (found c.args.kind w.entry-is) w.if-kind-eq-FUNCTION.false e h
    ]
