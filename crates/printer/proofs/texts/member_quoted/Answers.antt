use lib.ListN.{take, drop}
use Rattle.printer.specs.Names.{in_quotes}
use mathlib.Core.Path.{ap, ◌∙◌}
use Rattle.printer.proofs.Spelling as law
use Rattle.printer.specs.Stacks.{Buffer, put, write, buffer_in}
use Rattle.printer.proofs.texts.member_quoted.Goals as goal

pub returns : goal.returns
returns c = c.put.ensures ∙ ap (λ (b : Buffer). put b 93) (c.quote-b.ensures ∙ ap (λ (b : Buffer). write b (in_quotes (take c.args.n (drop c.args.at c.args.tree.now)))) c.put-a.ensures) ∙ law.member_quoted_lem (buffer_in c.args.text.now c.args.spot) (take c.args.n (drop c.args.at c.args.tree.now))
