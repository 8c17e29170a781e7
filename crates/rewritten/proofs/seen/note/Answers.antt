use Rattle.rewritten.proofs.Marks as law
use Rattle.rewritten.specs.declared.step.Event as told
use Rattle.rewritten.specs.Marks.{noted}
use Rattle.rewritten.specs.Steps.{event_in}
use mathlib.Core.Path.{ap, sym, ◌∙◌}
use Rattle.rewritten.proofs.seen.note.Goals as goal

pub returns-in-Mark : goal.returns-in-Mark
unfolding noted
returns-in-Mark c = λ tree. c.see.ensures ∙ sym (ap (λ (x : told.Event). noted c.args.seen.now (event_in tree x)) c.in-Mark.is)

pub returns-in_default : goal.returns-in_default
returns-in_default c = λ tree. law.noted_other c.args.seen.now tree _ c.in_default.not-Mark
