use mathlib.Core.Path.{◌∙◌}
use borrow.Author.Tests.{lt-leb}
use Rattle.tree.proofs.Within.{map_above}
use Rattle.tree.proofs.grammar.fits.Goals as goal

pub returns-else-map-le63 : goal.returns-else-map-le63
returns-else-map-le63 c = lt-leb _ _ c.if-map-le63.false ∙ map_above _ _ c.if-map-le63.false
