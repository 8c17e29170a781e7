use Rattle.printer.proofs.LayoutNumbers as law
use Rattle.printer.proofs.layout.tail.Goals as goal

pub returns : goal.returns
returns c e h = law.tail_at _ _ _ c.entry_at.ensures e h
