use Rattle.printer.proofs.PlaceLaws as law
use Rattle.printer.proofs.places.slot_in.Goals as goal

pub returns : goal.returns
returns c = λ h. law.slot_of c.args.v c.kind_in.result c.field_in.result _ c.kind_in.ensures c.field_in.ensures (c.slot.ensures h)
