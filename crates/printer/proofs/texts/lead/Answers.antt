use mathlib.Core.Path.{refl, sym, ◌∙◌}
use Rattle.printer.specs.Layout.{word, words, chosen_word}
use Rattle.printer.specs.Stacks.{write}
use Rattle.printer.proofs.texts.lead.Goals as goal

pub returns-then-own-eq0 : goal.returns-then-own-eq0
unfolding chosen_word word words write
returns-then-own-eq0 c = λ s w. rw (sym (c.slot_in-own.ensures s).0 ∙ c.if-own-eq0.true) refl

pub returns : goal.returns
returns c = λ s w. c.say.ensures w ∙ rw (c.choose_by.ensures, (c.slot_in-own.ensures s).0) refl
