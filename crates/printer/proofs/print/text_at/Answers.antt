use mathlib.Core.Path.{ap, ◌∙◌}
use Rattle.printer.proofs.TextsRead as law
use Rattle.printer.specs.Stacks.{write, buffer_in}
use Rattle.printer.proofs.print.text_at.Goals as goal

pub returns : goal.returns
returns c = λ h. c.copy.ensures ∙ ap (write (buffer_in c.args.text.now c.args.spot)) (law.text_read _ _ _ _ (law.within_short _ h) c.wide_at.ensures.value)
