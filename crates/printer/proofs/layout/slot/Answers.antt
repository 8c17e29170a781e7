use Rattle.printer.proofs.LayoutNumbers as law
use Rattle.printer.proofs.layout.slot.Goals as goal

pub returns-then-field-lt8 : goal.returns-then-field-lt8
returns-then-field-lt8 c e h g = law.slot_at _ _ _ _ c.short_at.ensures e h g
