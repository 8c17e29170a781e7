use lib.ListN.{take, drop}
use Rattle.printer.specs.Stacks.{buffer_in}
use mathlib.Core.Path.{sym, ◌∙◌}
use Rattle.printer.proofs.Spelling as law
use Rattle.printer.proofs.texts.key.Goals as goal

pub returns-then-bare : goal.returns-then-bare
returns-then-bare c = c.copy.ensures ∙ law.key_bare (buffer_in c.args.text.now c.args.spot) (take c.args.n (drop c.args.at c.args.tree.now)) (sym c.bare.ensures ∙ c.if-bare.true)

pub returns : goal.returns
returns c = c.quote.ensures ∙ law.key_other (buffer_in c.args.text.now c.args.spot) (take c.args.n (drop c.args.at c.args.tree.now)) (sym c.bare.ensures ∙ c.if-bare.false)
