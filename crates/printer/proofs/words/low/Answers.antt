use Rattle.printer.proofs.LayoutNumbers as law
use mathlib.Core.Path.{◌∙◌}
use Rattle.printer.proofs.words.low.Goals as goal

pub returns : goal.returns
returns c e = c.number_at.ensures ∙ law.low_in _ _ e
