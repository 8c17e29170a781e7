use mathlib.Core.Path.{refl}
use Rattle.printer.proofs.Openings as law
use Rattle.printer.specs.Stacks.{frame_in}
use Rattle.printer.proofs.print.leaf_opening.Goals as goal

pub returns : goal.returns
returns c = λ w k m n hm ho l. law.leaf_opened (frame_in c.args.p) k m n l _ _ refl (c.lead-a.ensures w k m hm ho (law.leaf_method (frame_in c.args.p) k m n l)) (c.joint.ensures w n hm (law.leaf_statement (frame_in c.args.p) 18 m n law.reference_leaf))
