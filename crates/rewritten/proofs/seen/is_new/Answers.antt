use Rattle.rewritten.proofs.Marks as law
use Rattle.rewritten.specs.declared.step.Event as told
use Rattle.rewritten.specs.Marks.{new_in}
use Rattle.rewritten.specs.Steps.{event_in}
use mathlib.Core.Path.{ap, sym, ◌∙◌}
use Rattle.rewritten.proofs.seen.is_new.Goals as goal

pub returns-in-Mark : goal.returns-in-Mark
unfolding new_in
returns-in-Mark c = λ tree. c.is_unseen.ensures ∙ sym (ap (λ (x : told.Event). new_in c.args.seen.now (event_in tree x)) c.in-Mark.is)

pub returns-in_default : goal.returns-in_default
returns-in_default c = λ tree. law.new_other c.args.seen.now tree _ c.in_default.not-Mark
