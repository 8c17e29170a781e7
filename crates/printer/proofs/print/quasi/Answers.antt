use Rattle.printer.proofs.ArraysHeld as law
use Rattle.printer.proofs.TextsRead.{start_short}
use mathlib.Core.Path.{◌≡◌, sym, ap, ◌∙◌}
use Prim.Native.Nat.{◌+◌, ◌-◌}
use native.Mathlib.Omega.{arith}
use Rattle.printer.specs.Stacks.{write, buffer_in, text_at_of}
use Rattle.printer.specs.Turns.{start_of}
use Rattle.printer.proofs.print.quasi.Goals as goal

pub returns-in-Some : goal.returns-in-Some
returns-in-Some c =
    let e : c.in-Some.at + 1 ≡ start_of c.args.starts.now c.args.count c.args.next = c.in-Some.ensures in
    let q : c.in-Some.at + 1 - 1 ≡ c.in-Some.at = omega arith in
    c.text_at.ensures (omega (arith, e, start_short c.args.starts.now c.args.count c.args.next (λ i. omega (arith, c.type_inv.starts i))))
    ∙ ap (write (buffer_in c.args.text.now c.args.spot)) (sym (law.quasi_some c.args.tree.now c.args.starts.now c.args.count c.args.next (c.in-Some.at + 1) e (λ z. absurd (omega (arith, z))) ∙ ap (text_at_of c.args.tree.now) q))

pub returns-in-None : goal.returns-in-None
unfolding write
returns-in-None c = ap (write (buffer_in c.args.text.now c.args.spot)) (sym (law.quasi_none c.args.tree.now c.args.starts.now c.args.count c.args.next (sym c.in-None.ensures)))
