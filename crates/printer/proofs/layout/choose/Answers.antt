use Rattle.printer.proofs.LayoutNumbers as law
use Rattle.printer.proofs.layout.choose.Goals as goal

pub returns-then-own-lt100 : goal.returns-then-own-lt100
returns-then-own-lt100 c = law.own_word _ _ _ _ _ c.if-own-lt100.true

pub returns : goal.returns
returns c = c.choose_by.ensures
