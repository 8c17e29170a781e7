use Rattle.printer.proofs.PrintingEntry as law
use borrow.Author.Rules.{rules}
use lib.ListN.{length}
use borrow.Author.Tests.{lt-ltb, le-ltb}
use Rattle.printer.proofs.finish.Goals as goal

pub returns-then-text-spot : goal.returns-then-text-spot
returns-then-text-spot c = λ size bs s w. law.finish_over c.args.text.now c.args.spot size bs s w _ (lt-ltb _ _ c.if-text-spot.true) c.fill.ensures.len (λ x. let e = c.fill.ensures.after in law.zero_at c.fill.new.self (length c.args.text.now) x (search rules))

pub returns : goal.returns
returns c = λ size bs s w. law.finish_fits c.args.text.now c.args.spot size bs s w (le-ltb _ _ c.if-text-spot.false)
