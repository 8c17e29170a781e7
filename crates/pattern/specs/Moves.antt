-- What is moved out of a pattern.
use Rattle.tree.specs.Tree.{Node, Items, depth}
use Rattle.lowering.specs.Heads.{moved}

abbrev pub moved_below : Node → Items
moved_below p = moved (depth p) p
