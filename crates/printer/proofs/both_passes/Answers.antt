use mathlib.Core.Path.{◌≡◌, sym, ap, ◌∙◌}
use mathlib.Core.List.{List}
use Prim.Native.Nat.{ℕ}
use native.Mathlib.Omega.{arith}
use borrow.Author.Rules.{rules}
use lib.ListN.{length, length-replicate}
use Rattle.std.specs.Prelude.{Some, None, Err, is_some}
use Rattle.printer.specs.Outcome.{refusal}
use Rattle.printer.specs.Stacks.{write, buffer_in}
use Rattle.printer.specs.Text.{text_of}
use Rattle.printer.specs.Turns.{empty}
use Rattle.printer.specs.declared.Refusal.TheVariants.{NotATree}
use Rattle.printer.proofs.PrintingEntry as law
use Rattle.printer.proofs.both_passes.Goals as goal

pub returns-in_err-count : goal.returns-in_err-count
unfolding refusal
returns-in_err-count c = λ size hp hl hm hs hr hw z f e k g.
    let y : c.from_residual.result ≡ Err NotATree = search rules in
    let n : c.record-met.result ≡ None = search rules in
    let r = c.record-met.ensures hp hl hm f (omega (arith, ap length e, length-replicate {A = ℕ} 65536 0)) (λ x. law.zero_at c.args.seen.now 65536 x e) k g in
    rw y (ap (λ (l : List ℕ). record { answer = 3; long = 0; bytes = l }) z ∙ law.refused_is c.args.tree.now size (sym r.is ∙ ap is_some n))

pub returns : goal.returns
returns c = λ size hp hl hm hs hr hw z f e k g.
    let n : c.record-met.result ≡ Some c.in_ok-count.count = search rules in
    let r = c.record-met.ensures hp hl hm f (omega (arith, ap length e, length-replicate {A = ℕ} 65536 0)) (λ x. law.zero_at c.args.seen.now 65536 x e) k g in
    law.printed_is c.args.tree.now size _ (sym r.is ∙ ap is_some n)
    (λ t q i w. c.finish.ensures size (text_of t) (c.print-spot.auto.text ∙ ap length z ∙ length-replicate size 0)
    (c.print-spot.ensures hs hr hw t (r.logged c.in_ok-count.count n t q i w) (omega (arith, f, c.record-met.auto.frames)) (omega (arith, k, c.record-met.auto.stack))
    ∙ ap (λ (l : List ℕ). write (buffer_in l empty) (text_of t)) z))
