use mathlib.Core.Path.{sym, ap, ◌∙◌}
use Rattle.printer.specs.Stacks.{frame_in, write, buffer_in}
use Rattle.printer.proofs.TextLaws as law
use Rattle.printer.proofs.texts.text_bytes.Goals as goal

pub returns-then-kind_in-eq9 : goal.returns-then-kind_in-eq9
returns-then-kind_in-eq9 c = λ s w. c.copy.ensures ∙ ap (write (buffer_in c.args.text.now c.args.spot)) (sym (law.name_bytes_lem (frame_in c.args.f) _ (rw c.kind_in.ensures at c.if-kind_in-eq9.true)))

pub returns : goal.returns
returns c = c.text_words.ensures
