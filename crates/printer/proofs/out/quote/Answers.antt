use Rattle.printer.proofs.PiecesWritten as law
use Rattle.printer.specs.Stacks.{Buffer, put, write}
use mathlib.Core.Path.{ap, ◌∙◌}
use lib.ListN.{take, drop}
use Rattle.printer.specs.Names.{escaped}
use Rattle.printer.proofs.out.quote.Goals as goal

pub returns : goal.returns
returns c = c.put.ensures ∙ ap (λ (b : Buffer). put b 34) (c.copy_escaped-b.ensures ∙ ap (λ (b : Buffer). write b (escaped (take c.args.n (drop c.args.at c.args.tree.now)))) c.put-a.ensures) ∙ law.quoted_written _ _
