use lib.ListN.{take, drop}
use mathlib.Core.Path.{sym, ap, ◌∙◌}
use Rattle.printer.proofs.Spelling as law
use Rattle.printer.specs.Stacks.{Buffer, write, buffer_in}
use Rattle.printer.proofs.texts.member.Goals as goal

pub returns-then-bare : goal.returns-then-bare
returns-then-bare c = c.copy.ensures ∙ ap (λ (b : Buffer). write b (take c.args.n (drop c.args.at c.args.tree.now))) c.put-s.ensures ∙ law.member_bare (buffer_in c.args.text.now c.args.spot) (take c.args.n (drop c.args.at c.args.tree.now)) (sym c.bare.ensures ∙ c.if-bare.true)

pub returns : goal.returns
returns c = c.member_quoted.ensures ∙ law.member_other (buffer_in c.args.text.now c.args.spot) (take c.args.n (drop c.args.at c.args.tree.now)) (sym c.bare.ensures ∙ c.if-bare.false)
