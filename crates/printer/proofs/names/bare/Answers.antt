use Rattle.printer.proofs.Named as law
use mathlib.Core.Path.{refl, sym, ap, ◌∙◌}
use native.Mathlib.Omega.{arith}
use Prim.Native.Nat.{ℕ, ◌%◌}
use lib.ListN.{get_or}
use Rattle.printer.specs.Names.{name_bytes}
use Rattle.printer.proofs.names.bare.Goals as goal
use Rattle.printer.proofs.names.bare.Goals.{else-at-end-via-then-at-end+else-entry-eq1, else-at-end-via-else-at-end}

pub returns-then-entry-eq1 : goal.returns-then-entry-eq1
unfolding name_bytes
returns-then-entry-eq1 c = c.all_follow.ensures refl (c.end_of-end.ensures.inside c.if-at-end.true) ∙ sym (law.bare_first _ _ _ _ c.end_of-end.ensures c.if-at-end.true (law.first_so name_bytes (get_or c.args.tree.now c.args.at 0) refl (omega (arith, c.type_inv.tree c.args.at)) (ap (λ (x : ℕ). x % 2) (sym c.entry.ensures) ∙ c.if-entry-eq1.true)))

pub returns : goal.returns
unfolding name_bytes
returns c = elim c.else-at-end.branch [
  | else-at-end-via-then-at-end+else-entry-eq1 w ↦ sym (law.bare_first_not _ _ _ _ c.end_of-end.ensures w.if-at-end.true (law.first_not name_bytes (get_or c.args.tree.now c.args.at 0) refl (omega (arith, c.type_inv.tree c.args.at)) (λ z. w.if-entry-eq1.false (ap (λ (x : ℕ). x % 2) w.entry.ensures ∙ z))))
  | else-at-end-via-else-at-end w ↦ sym (law.bare_none _ _ _ _ c.end_of-end.ensures w.if-at-end.false)
]
