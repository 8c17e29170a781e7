use Rattle.tree.specs.Grammar.{among}
use Rattle.joining.proofs.bodies.is_container.Goals as goal

pub returns : goal.returns
unfolding among
returns c = c.contains.ensures.value
